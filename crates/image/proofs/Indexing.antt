-- The index from places to entries: what it is filled with, and that what it finds is what the entries give. Assumes nothing.
use mathlib.Core.Path.{◌≡◌, refl, sym, ap, ◌∙◌, subst}
use mathlib.Core.Bool.{Bool, true, false, cond, ◌&&◌}
use mathlib.Core.List.Memᴰ
use mathlib.Core.List.{List, Memᴰ}
use Rattle.std.specs.Prelude.{Option, None, Some}
use mathlib.Core.Logic.{⊎_elim}
use Prim.Native.Nat.{ℕ, zero, suc, ◌+◌, ◌*◌, ◌≤◌, ◌<◌}
use native.Mathlib.Omega.{arith}
use lib.Dec.{eqb}
use lib.ListN.{length, get_or, set, length-set, replicate, get_or-eq_default}
use lib.Seq.{get_or-set_same, get_or-set_other}
use borrow.Author.Tests.{eqb-true, eq-eqb, ne_eqb}
use Rattle.rules.specs.Sizes.{slots, all_slots}
use Rattle.rules.specs.State.{slot, nothing}
use Rattle.rules.specs.Image.{Entry, entry_bytes, size_t, size_c, entries_at, entry_at, entries_from, image_of, place_of, no_domain, sourceless, source_of, capability_given, given}
use Rattle.rules.specs.declared.Capability.{Capability}
use Rattle.rules.proofs.Places.{same?}
use Rattle.rules.proofs.Given.{form-right}
use Rattle.image.specs.Sources.{entries_of, given_by, Formed, numbered, Indexed}
use Rattle.image.proofs.Form.{entry_of, later, later_all, later_cons, later_none}

-- ---- the source of an entry

-- none, where the source's domain is 255 and its slot 0
pub source_none : (e : Entry) → e.source_domain ≡ no_domain → e.source_slot ≡ 0 → 0 ≡ source_of e
unfolding source_of sourceless
source_none e d x = rw (eq-eqb _ _ d, eq-eqb _ _ x)

-- otherwise the source's place + 1
pub source_some : (e : Entry) → (e.source_domain ≡ no_domain → e.source_slot ≡ 0 → ⊥) → e.source_domain * slots + e.source_slot + 1 ≡ source_of e
unfolding source_of sourceless
source_some e h = go (eqb e.source_domain no_domain) (eqb e.source_slot 0) refl refl
  where
    go : (x y : Bool) → eqb e.source_domain no_domain ≡ x → eqb e.source_slot 0 ≡ y
        → e.source_domain * slots + e.source_slot + 1 ≡ cond (x && y) 0 (suc (slot e.source_domain e.source_slot))
    go true true a b = absurd (h (eqb-true _ _ a) (eqb-true _ _ b))
    go true false a b = omega arith
    go false y a b = omega arith

-- ---- the entries by their numbers

-- entry j of n from byte i on
pub entries_in : (b : List ℕ) (n i j : ℕ) → j < n → Memᴰ (entry_at b (i + entry_bytes * j)) (entries_from b n i)
unfolding entries_from
entries_in b zero i j l = absurd (omega arith)
entries_in b (suc n) i zero l = Memᴰ.head (ap (entry_at b) (let z : i + entry_bytes * 0 ≡ i = omega arith in z))
entries_in b (suc n) i (suc j) l =
    let z : i + entry_bytes * suc j ≡ i + entry_bytes + entry_bytes * j = omega arith in
    Memᴰ.tail (rw (← z) at (entries_in b n (i + entry_bytes) j (omega arith)))

-- each of n entries from byte i on is one of these
pub entries-at : (b : List ℕ) (n i : ℕ) {e : Entry} → Memᴰ e (entries_from b n i) → (j : ℕ) × (j < n) × (e ≡ entry_at b (i + entry_bytes * j))
unfolding entries_from
entries-at b zero i m = elim m [ ]
entries-at b (suc n) i m =
    ⊎_elim (λ e. (0, omega arith, e ∙ ap (entry_at b) (let z : i ≡ i + entry_bytes * 0 = omega arith in z)))
    (λ k. let (j, l, e) = entries-at b n (i + entry_bytes) k in
    (suc j, omega arith, e ∙ ap (entry_at b) (let z : i + entry_bytes + entry_bytes * j ≡ i + entry_bytes * suc j = omega arith in z)))
    (Memᴰ.cases_cons m)

pub entry_in : (b : List ℕ) (i : ℕ) → i < size_c b → Memᴰ (entry_of b i) (entries_of b)
unfolding image_of
entry_in b i l = entries_in b (size_c b) (entries_at (size_t b)) i l

pub entry-at : (b : List ℕ) {e : Entry} → Memᴰ e (entries_of b) → (i : ℕ) × (i < size_c b) × (e ≡ entry_of b i)
unfolding image_of
entry-at b m = entries-at b (size_c b) (entries_at (size_t b)) m

-- the place of an entry of the image is a slot of one of its domains
pub place-low : (b : List ℕ) {e : Entry} → Formed b → Memᴰ e (entries_of b) → place_of e < all_slots
place-low b f m =
    let form = form-right b f.refusal in
    let right = form.entry _ m in
    omega arith

-- the place of entry i
pub place_law : (b : List ℕ) (i at place : ℕ) (e : Entry) → Formed b → i < size_c b → at ≡ entries_at (size_t b) → e ≡ entry_at b (at + entry_bytes * i) → place ≡ place_of e
    → (place ≡ place_of (entry_of b i)) × (place < all_slots)
place_law b i at place e f l a h p =
    let z : e ≡ entry_of b i = rw a at h in
    (p ∙ ap (λ e. place_of e) z, rw (p, z) (place-low b f (entry_in b i l)))

-- ---- one value set in a list

-- each value satisfies Q, the new one too
pub set-each : {A : Type 0} (d : A) (Q : ℕ → A → Type 0) (l : List A) (i : ℕ) (v : A) → i < length l → Q i v → ((j : ℕ) → (j ≡ i → ⊥) → Q j (get_or l j d))
    → (j : ℕ) → Q j (get_or (set l i v) j d)
set-each d Q l i v h here rest j =
    ⊎_elim (λ z. subst (λ x. Q x (get_or (set l i v) x d)) (sym z) (subst (Q i) (sym (get_or-set_same l i v d h)) here))
    (λ n. subst (Q j) (sym (get_or-set_other l i j v d n)) (rest j n)) (same? j i)

-- ---- filling the index, from the last entry to the first

-- a list of one value
pub same_at : {A : Type 0} (d : A) (n p : ℕ) → get_or (replicate n d) p d ≡ d
same_at d zero p = refl
same_at d (suc n) zero = refl
same_at d (suc n) (suc p) = same_at d n p

-- the index of the entries from entry i on
pub record Filled (b : List ℕ) (i : ℕ) (index : List (Option ℕ)) : Type 0 where
  pub most : i ≤ size_c b
  pub long : length index ≡ all_slots
  pub low : (p j : ℕ) → get_or index p None ≡ Some j → j < size_c b
  pub exact : (p : ℕ) → numbered b (get_or index p None) ≡ given (later b i) p

-- no entry yet
pub fill_none : (b : List ℕ) (i : ℕ) → i ≡ size_c b → Filled b i (replicate all_slots None)
unfolding numbered given entries_from
fill_none b i e =
    record {
      most = omega arith;
      long = refl;
      low = λ p j h. let z = same_at {A = Option ℕ} None all_slots p in cc;
      exact = λ p. rw (same_at {A = Option ℕ} None all_slots p, later_none b i (omega arith));
    }

-- one more entry
fill-next : (b : List ℕ) (index : List (Option ℕ)) (i p : ℕ) → Filled b (i + 1) index → p ≡ place_of (entry_of b i) → p < all_slots → Filled b i (set index p (Some i))
unfolding numbered given
fill-next b index i p f h l =
    let l' : i < size_c b = omega (arith, f.most) in
    record {
      most = omega arith;
      long = simp length-set f.long;
      low = set-each None (λ q n. (j : ℕ) → n ≡ Some j → j < size_c b) index p (Some i) (omega arith) (λ j z. let k : i ≡ j = cc in omega arith) (λ q n. f.low q);
      exact =
          set-each None (λ q n. numbered b n ≡ given (later b i) q) index p (Some i) (omega arith) (rw (later_cons b i l', eq-eqb p _ h))
          (λ q n. rw (later_cons b i l', ne_eqb q _ (λ z. n (z ∙ sym h))) (f.exact q));
    }

-- the same, where k is the number after i
pub fill-turn : (b : List ℕ) (index : List (Option ℕ)) (k i p : ℕ) → k ≡ i + 1 → Filled b k index → p ≡ place_of (entry_of b i) → p < all_slots → Filled b i (set index p (Some i))
fill-turn b index k i p z f = fill-next b index i p (rw z at f)

-- every entry
pub fill_end : (b : List ℕ) (index : List (Option ℕ)) (i : ℕ) → i ≤ 0 → Filled b i index → Indexed b index
fill_end b index i l f =
    let z : i ≡ 0 = omega arith in
    record { long = f.long; low = f.low; exact = rw (z, later_all b) at f.exact }

-- ---- finding an entry by the index

-- a number: the capability of its entry
pub given-found : (b : List ℕ) (index : List (Option ℕ)) (p i : ℕ) (e : Entry) (r : Capability) → Indexed b index → get_or index p None ≡ Some i
    → e ≡ entry_of b i → r ≡ capability_given e → r ≡ given_by b p
unfolding numbered
given-found b index p i e r x h k c = c ∙ (ap capability_given k ∙ (rw h at (x.exact p)))

-- no number: nothing
pub given_none : (b : List ℕ) (index : List (Option ℕ)) (p : ℕ) → Indexed b index → get_or index p None ≡ None → nothing ≡ given_by b p
unfolding numbered
given_none b index p x z = rw z at (x.exact p)

-- past the slots there is nothing
pub given-past : (b : List ℕ) (index : List (Option ℕ)) (p : ℕ) → Indexed b index → all_slots ≤ p → nothing ≡ given_by b p
given-past b index p x l = given_none b index p x (get_or-eq_default index None {n = p} (omega (arith, x.long)))
