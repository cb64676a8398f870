-- The marks of a climb: following sources from a place leaves a mark at each place that it comes to, and ends at one without a source or
-- with a mark. Where that mark is its own, following sources comes back. Assumes nothing.
use mathlib.Core.Path.{◌≡◌, refl, sym, ap, ◌∙◌}
use mathlib.Core.Bool.{Bool, true, false, not, true≢false, false≢true}
use mathlib.Core.List.{List, [], ◌∷◌}
use mathlib.Core.Logic.{◌⊎◌, inl, inr, ⊎_elim}
use Prim.Native.Nat.{ℕ, zero, suc, ◌+◌, ◌-◌, ◌≤◌, ◌<◌}
use native.Mathlib.Omega.{arith}
use lib.Dec.{eqb}
use lib.ListN.{length, get_or, set, length-set, replicate}
use borrow.Author.Count.{below_more}
use borrow.Author.Tests.{eqb-true, eqb-false, not-true, not-false}
use Rattle.rules.specs.Sizes.{all_slots}
use Rattle.rules.specs.State.{Places, nothing, Source, Derived, direct, further}
use Rattle.rules.specs.Image.{size_c, place_of}
use Rattle.rules.specs.declared.Capability.{Capability}
use Rattle.rules.proofs.Places.{same?}
use Rattle.rules.proofs.Derivation.{chain}
use Rattle.rules.proofs.Chain.{return_source}
use Rattle.rules.proofs.Given.{Entered, given_either}
use Rattle.image.specs.Sources.{entries_of, given_by, Marked, Climbed, NoReturn}
use Rattle.image.proofs.Indexing.{set-each, same_at, entry-at}
use Rattle.image.proofs.Form.{entry_of}

-- the numbers in a list that are 0: a climb leaves fewer of them at each step
pub zeros : List ℕ → ℕ
zeros [] = 0
zeros (zero ∷ xs) = suc (zeros xs)
zeros (suc x ∷ xs) = zeros xs

-- a mark set where there was none
pub zeros_fewer : (l : List ℕ) (i v : ℕ) → i < length l → get_or l i 0 ≡ 0 → 0 < v → zeros (set l i v) < zeros l
unfolding zeros
zeros_fewer [] i v h z k = absurd (omega arith)
zeros_fewer (x ∷ xs) zero zero h z k = absurd (omega arith)
zeros_fewer (zero ∷ xs) zero (suc v) h z k = omega arith
zeros_fewer (suc x ∷ xs) zero (suc v) h z k = absurd (omega arith)
zeros_fewer (zero ∷ xs) (suc i) v h z k = omega (arith, zeros_fewer xs i v (omega arith) z k)
zeros_fewer (suc x ∷ xs) (suc i) v h z k = zeros_fewer xs i v (omega arith) z k

-- where following sources from q comes back to q, it does so from whatever q is derived from
return_above : {at : Places} {p q : ℕ} → Derived at p q → Derived at q q → Derived at p p
return_above {at} {p} (direct s) d =
    let (r, t, e) = return_source d refl in
    let k : r ≡ p = omega arith in
    rw k at e
return_above {at} {p} (further {q = x} u s) d =
    let (r, t, e) = return_source d refl in
    let k : r ≡ x = omega arith in
    return_above u (rw k at e)

-- a climb from a place with mark k, which is at p, with marks m that were m₀
pub record Climbing (at : Places) (m₀ : List ℕ) (from k p : ℕ) (m : List ℕ) : Type 0 where
  pub inside : p < all_slots
  pub mark : 0 < k
  pub long : length m ≡ all_slots
  pub kept : (q : ℕ) → (get_or m₀ q 0 ≡ 0 → ⊥) → get_or m q 0 ≡ 0 → ⊥
  pub here : get_or m from 0 ≡ 0 → p ≡ from
  pub low : (q : ℕ) → get_or m q 0 ≤ k
  pub clear : (q : ℕ) → (get_or m q 0 ≡ 0 → ⊥) → (get_or m q 0 ≡ k → ⊥) → Derived at q q → ⊥
  pub path : (q : ℕ) → get_or m q 0 ≡ k → Derived at p q

-- before the first step
pub climb_start : (at : Places) (m : List ℕ) (from k : ℕ) → Marked at k m → from < all_slots → Climbing at m from k from m
climb_start at m from k r l =
    record {
      inside = l;
      mark = omega (arith, r.low 0);
      long = r.long;
      kept = λ q n. n;
      here = λ z. refl;
      low = λ q. omega (arith, r.low q);
      clear = λ q n x. r.clear q n;
      path = λ q e. absurd (omega (arith, r.low q));
    }

module _ (at : Places) (m₀ : List ℕ) (from k p : ℕ) (m : List ℕ) (c : Climbing at m₀ from k p m) where
  -- where following sources from p does not come back, it does from no place with a mark
  cleared : (Derived at p p → ⊥) → (q : ℕ) → (get_or m q 0 ≡ 0 → ⊥) → Derived at q q → ⊥
  cleared stop q n d = ⊎_elim (λ e. stop (return_above (c.path q e) d)) (λ e. c.clear q n e d) (same? (get_or m q 0) k)

  -- at a place with a mark
  pub climb_met : (get_or m p 0 ≡ 0 → ⊥) → Climbed at from k (not (eqb (get_or m p 0) k)) m₀ m
  climb_met n =
      record {
        kept = c.kept;
        here = λ z. n (ap (λ q. get_or m q 0) (c.here z) ∙ z);
        marked = λ t.
            record {
              long = c.long;
              low = λ q. omega (arith, c.low q);
              clear = cleared (c.clear p n (eqb-false _ _ (not-true _ t)));
            };
        back = λ t. (p, c.path p (eqb-true _ _ (not-false _ t)));
      }

  module _ (z : get_or m p 0 ≡ 0) (r : Capability) (e : r ≡ at p) where
    -- at a place without a mark and with a source
    pub climb_on : (r.source ≡ 0 → ⊥) → ((q : ℕ) → (at q).source ≤ all_slots) → Climbing at m₀ from k (r.source - 1) (set m p k)
    climb_on n l =
        let s : Source at (r.source - 1) p = ap (λ c. c.source) (sym e) ∙ (let w : r.source ≡ suc (r.source - 1) = omega arith in w) in
        let h : p < length m = omega (arith, c.long, c.inside) in
        record {
          inside = omega (arith, l p, ap (λ c. c.source) e);
          mark = c.mark;
          long = simp length-set c.long;
          kept = set-each 0 (λ q v. (get_or m₀ q 0 ≡ 0 → ⊥) → v ≡ 0 → ⊥) m p k h (λ x y. omega (arith, c.mark)) (λ q x. c.kept q);
          here = set-each 0 (λ q v. q ≡ from → v ≡ 0 → r.source - 1 ≡ from) m p k h (λ x y. absurd (omega (arith, c.mark)))
              (λ q x y w. absurd (x (y ∙ sym (c.here (rw y at w))))) from refl;
          low = set-each 0 (λ q v. v ≤ k) m p k h (omega arith) (λ q x. c.low q);
          clear = set-each 0 (λ q v. (v ≡ 0 → ⊥) → (v ≡ k → ⊥) → Derived at q q → ⊥) m p k h (λ x y. absurd (y refl)) (λ q x. c.clear q);
          path = set-each 0 (λ q v. v ≡ k → Derived at (r.source - 1) q) m p k h (λ x. direct s) (λ q x y. chain (direct s) (c.path q y));
        }

    -- at a place without a mark and without a source
    pub climb_top : r.source ≡ 0 → Climbed at from k true m₀ (set m p k)
    climb_top n =
        let stop : Derived at p p → ⊥ = λ d. let (x, t, u) = return_source d refl in omega (arith, ap (λ c. c.source) e) in
        let h : p < length m = omega (arith, c.long, c.inside) in
        record {
          kept = set-each 0 (λ q v. (get_or m₀ q 0 ≡ 0 → ⊥) → v ≡ 0 → ⊥) m p k h (λ x y. omega (arith, c.mark)) (λ q x. c.kept q);
          here = set-each 0 (λ q v. q ≡ from → v ≡ 0 → ⊥) m p k h (λ x y. omega (arith, c.mark)) (λ q x y w. x (y ∙ sym (c.here (rw y at w)))) from refl;
          marked = λ t.
              record {
                long = simp length-set c.long;
                low = set-each 0 (λ q v. v < k + 1) m p k h (omega arith) (λ q x. omega (arith, c.low q));
                clear = set-each 0 (λ q v. (v ≡ 0 → ⊥) → Derived at q q → ⊥) m p k h (λ x. stop) (λ q x. cleared stop q);
              };
          back = λ t. absurd (true≢false t);
        }

-- ---- a climb from the place of each entry

-- the entries before entry i: following sources from the place of none comes back
pub record Passed (b : List ℕ) (i : ℕ) (marks : List ℕ) : Type 0 where
  pub most : i ≤ size_c b
  pub marked : Marked (given_by b) (i + 1) marks
  pub each : (j : ℕ) → j < i → get_or marks (place_of (entry_of b j)) 0 ≡ 0 → ⊥

-- no entry yet
pub pass_none : (b : List ℕ) → Passed b 0 (replicate all_slots 0)
pass_none b =
    record {
      most = omega arith;
      marked =
          record {
            long = refl;
            low = λ q. omega (arith, same_at {A = ℕ} 0 all_slots q);
            clear = λ q n. absurd (n (same_at {A = ℕ} 0 all_slots q));
          };
      each = λ j l. absurd (omega arith);
    }

-- one more entry, whose climb ends
pub pass-turn : (b : List ℕ) (count i p : ℕ) (r : Bool) (m n : List ℕ) → Passed b i m → count ≡ size_c b → i < count → p ≡ place_of (entry_of b i)
    → Climbed (given_by b) p (i + 1) r m n → r ≡ true → Passed b (i + 1) n
pass-turn b count i p r m n f h l e c t =
    record {
      most = omega arith;
      marked = c.marked t;
      each = below_more (λ j. get_or n (place_of (entry_of b j)) 0 ≡ 0 → ⊥) i (λ j k. c.kept _ (f.each j k)) (rw e at c.here);
    }

-- a climb that comes back
pub pass-stop : (at : Places) (p k : ℕ) (r : Bool) (m n : List ℕ) → Climbed at p k r m n → r ≡ false → NoReturn at false
pass-stop at p k r m n c t = record { none = λ u. absurd (false≢true u); back = λ u. c.back t }

-- where all have passed, following sources comes back from no place: one with a source is entered
pub pass_end : (b : List ℕ) (count i : ℕ) (m : List ℕ) → Passed b i m → count ≡ size_c b → count ≤ i → NoReturn (given_by b) true
pass_end b count i m f n l = record { none = λ t p d. go p d (given_either (entries_of b) p); back = λ t. absurd (true≢false t) }
  where
    go : (p : ℕ) → Derived (given_by b) p p → (given_by b p ≡ nothing) ⊎ Entered (entries_of b) p → ⊥
    go p d (inl n) = let (x, t, u) = return_source d refl in omega (arith, ap (λ c. c.source) n)
    go p d (inr r) =
        let (e, k, q, c) = r in
        let (j, w, h) = entry-at b k in
        f.marked.clear p (rw (q, h) (f.each j (omega arith))) d
