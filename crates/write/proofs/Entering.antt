-- Laws of the places that hold a capability, taken one by one, and of their entries. Assumes nothing.
use mathlib.Core.Path.{◌≡◌, refl, sym, ap, ap₂, ◌∙◌}
use mathlib.Core.Bool.{Bool, true, false, cond}
use mathlib.Core.List.{List, [], ◌∷◌, ◌++◌, map, append_assoc, append-nil}
use Prim.Native.Nat.{ℕ, zero, suc, ◌+◌, ◌-◌, ◌*◌, ◌≤◌, ◌<◌}
use native.Mathlib.Omega.{arith}
use lib.ListN.{length, take, length-append, length-map}
use lib.Seq.{take_all}
use borrow.Rule.Slice.PartMut.{put_mid}
use Rattle.std.specs.List.{filter, range_with_len}
use Rattle.std.proofs.lemmas.List.{map-append}
use Rattle.std.proofs.lemmas.Slice.{take-put_mid}
use borrow.Author.Tests.{ne_eqb}
use Rattle.rules.specs.State.{Places}
use Rattle.rules.specs.Turn.{present, holds}
use Rattle.rules.specs.Image.{entry_bytes, entry_for, occupied, entries_for}
use Rattle.rules.specs.declared.Capability.{Capability}
use Rattle.rules.proofs.RoundTripEntries.{entries-bytes}
use Rattle.write.specs.Laid.{held, low}

module _ (at : Places) where
  -- of n + k places from p on: the first n, and k after them
  occupied_split : (n k p : ℕ) → occupied at (n + k) p ≡ occupied at n p ++ occupied at k (p + n)
  unfolding occupied
  occupied_split zero k p = ap₂ (occupied at) (let e : 0 + k ≡ k = omega arith in e) (let e : p ≡ p + 0 = omega arith in e)
  occupied_split (suc n) k p =
      let e : suc n + k ≡ suc (n + k) = omega arith in
      let f : suc p + n ≡ p + suc n = omega arith in
      rw (e, occupied_split n k (suc p), f) (go (holds (at p)))
    where
      go : (t : Bool) → cond t (p ∷ (occupied at n (suc p) ++ occupied at k (p + suc n))) (occupied at n (suc p) ++ occupied at k (p + suc n))
          ≡ cond t (p ∷ occupied at n (suc p)) (occupied at n (suc p)) ++ occupied at k (p + suc n)
      go true = refl
      go false = refl

  -- the places that the code counts
  pub occupied_filter : (n p : ℕ) → filter (held at) (range_with_len p n) ≡ occupied at n p
  unfolding occupied present
  occupied_filter zero p = refl
  occupied_filter (suc n) p = let e : p + 1 ≡ suc p = omega arith in rw (e, occupied_filter n (suc p))

  -- the last place by itself
  occupied_more : (p : ℕ) → occupied at (p + 1) 0 ≡ occupied at p 0 ++ occupied at 1 p
  occupied_more p = occupied_split p 1 0 ∙ ap (λ q. occupied at p 0 ++ occupied at 1 q) (let e : 0 + p ≡ p = omega arith in e)

  -- fewer places, no more capabilities
  occupied_fewer : (p n : ℕ) → p ≤ n → length (occupied at p 0) ≤ length (occupied at n 0)
  occupied_fewer p n h =
      let e : p + (n - p) ≡ n = omega arith in
      let f = rw e at (occupied_split p (n - p) 0) in
      rw f (rw length-append (omega arith))

  entries_append : (ps qs : List ℕ) → entries_for at (ps ++ qs) ≡ entries_for at ps ++ entries_for at qs
  unfolding entries_for
  entries_append [] qs = refl
  entries_append (p ∷ ps) qs =
      ap (λ l. entry_for p (at p) ++ l) (entries_append ps qs) ∙ sym (append_assoc (entry_for p (at p)) (entries_for at ps) (entries_for at qs))

  -- the entries of the first p places stand at the beginning of the bytes b, up to index i
  pub record Entered (p i : ℕ) (b : List ℕ) : Type 0 where
    pub next : i ≡ entry_bytes * length (occupied at p 0)
    pub bytes : take i b ≡ map low (entries_for at (occupied at p 0))

  -- before the first place
  pub entered_none : (b : List ℕ) → Entered 0 0 b
  unfolding entries_for occupied
  entered_none b = record { next = refl; bytes = refl }

  -- the entries of all n places are all of the bytes
  pub entered_all : {p i : ℕ} {b : List ℕ} (n : ℕ) → p ≤ n → n ≤ p → length b ≡ entry_bytes * length (occupied at n 0) → Entered p i b
      → b ≡ map low (entries_for at (occupied at n 0))
  entered_all {p} {i} {b} n h g l e =
      let z : p ≡ n = omega arith in
      let w : entry_bytes * length (occupied at p 0) ≡ entry_bytes * length (occupied at n 0) = rw z refl in
      sym (take_all i b (omega (arith, e.next, w, l))) ∙ rw z at e.bytes

  -- ---- one place more, of which c was seen

  module _ {p : ℕ} {c : Capability} (s : c ≡ at p) {i : ℕ} {b : List ℕ} (e : Entered p i b) where
    -- nothing is written for an empty place
    pub entered_same : c.kind ≡ 0 → Entered (p + 1) i b
    unfolding occupied present
    entered_same z = record { next = rw (← same) at e.next; bytes = rw (← same) at e.bytes }
      where
        same : occupied at (p + 1) 0 ≡ occupied at p 0
        same = occupied_more p ∙ rw (← s, z) (append-nil (occupied at p 0))

    module _ (h : c.kind ≡ 0 → ⊥) where
      one_more : occupied at (p + 1) 0 ≡ occupied at p 0 ++ p ∷ []
      unfolding occupied present
      one_more = occupied_more p ∙ rw (← s, ne_eqb c.kind 0 h) refl

      held_more : length (occupied at (p + 1) 0) ≡ length (occupied at p 0) + 1
      held_more = ap length one_more ∙ length-append (occupied at p 0) (p ∷ [])

      -- there is room for the entry of a place that holds a capability
      pub entry_fits : (n : ℕ) → p < n → length b ≡ entry_bytes * length (occupied at n 0) → i + entry_bytes ≤ length b
      entry_fits n l f = let w = occupied_fewer (p + 1) n (omega arith) in omega (arith, held_more, e.next)

      -- and it comes behind the others
      pub entered_more : (x : List ℕ) → i + entry_bytes ≤ length b → x ≡ map low (entry_for p c)
          → Entered (p + 1) (i + entry_bytes) (put_mid i (i + entry_bytes - i) b x)
      unfolding entries_for
      entered_more x l f =
          record {
            next = omega (arith, e.next, held_more);
            bytes = take-put_mid i _ b x _ (omega (arith, long)) (omega arith) ∙ (ap₂ (λ y z. y ++ z) e.bytes f ∙ sym behind);
          }
        where
          long : length x ≡ entry_bytes
          long =
              let n = entries-bytes (λ q. c) (p ∷ []) in
              ap length f ∙ (length-map (entry_for p c) low ∙ (sym (ap length (append-nil (entry_for p c))) ∙ n))

          behind : map low (entries_for at (occupied at (p + 1) 0)) ≡ map low (entries_for at (occupied at p 0)) ++ map low (entry_for p c)
          behind = rw (one_more, entries_append, ← s, append-nil (entry_for p c)) (map-append low (entries_for at (occupied at p 0)) (entry_for p c))
