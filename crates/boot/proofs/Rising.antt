-- The entries of an image, one after the other: what they give so far, and what one more adds. Assumes nothing.
use mathlib.Core.Path.{◌≡◌, refl, sym, ap, ◌∙◌, subst, fun_ext}
use mathlib.Core.Bool.{Bool, true, false, cond}
use mathlib.Core.List.{List, [], ◌∷◌, ◌++◌, Memᴰ}
use Prim.Native.Nat.{ℕ, zero, suc, ◌+◌, ◌*◌, ◌<◌}
use native.Mathlib.Omega.{arith}
use lib.Dec.{eqb, ltb}
use borrow.Author.Tests.{ltb-true, eqb-true}
use Rattle.rules.specs.Turn.{set}
use Rattle.rules.specs.Image.{Entry, entry_bytes, entry_at, entries_from, place_of, capability_given, given, rising_from, rising}
use Rattle.rules.proofs.Laws.{both}

-- n + 1 entries are n entries and the one behind them
pub entries_more : (b : List ℕ) (n i : ℕ) → entries_from b (n + 1) i ≡ entries_from b n i ++ (entry_at b (i + entry_bytes * n) ∷ [])
unfolding entries_from
entries_more b zero i = ap (λ j. entry_at b j ∷ []) (let e : i ≡ i + entry_bytes * 0 = omega arith in e)
entries_more b (suc n) i =
    ap (λ k. entries_from b k i) (let e : suc n + 1 ≡ suc (n + 1) = omega arith in e)
    ∙ (ap (λ r. entry_at b i ∷ r) (entries_more b n (i + entry_bytes))
    ∙ ap (λ j. entry_at b i ∷ (entries_from b n (i + entry_bytes) ++ (entry_at b j ∷ [])))
    (let e : i + entry_bytes + entry_bytes * n ≡ i + entry_bytes * suc n = omega arith in e))

-- more entries begin with fewer
pub entries_split : (b : List ℕ) (n k i : ℕ) → entries_from b (n + k) i ≡ entries_from b n i ++ entries_from b k (i + entry_bytes * n)
unfolding entries_from
entries_split b zero k i = ap (λ j. entries_from b j i) (let e : 0 + k ≡ k = omega arith in e) ∙ ap (entries_from b k) (let e : i ≡ i + entry_bytes * 0 = omega arith in e)
entries_split b (suc n) k i =
    ap (λ j. entries_from b j i) (let e : suc n + k ≡ suc (n + k) = omega arith in e)
    ∙ (ap (λ r. entry_at b i ∷ r) (entries_split b n k (i + entry_bytes))
    ∙ ap (λ j. entry_at b i ∷ (entries_from b n (i + entry_bytes) ++ entries_from b k j))
    (let e : i + entry_bytes + entry_bytes * n ≡ i + entry_bytes * suc n = omega arith in e))

-- in rising order the entries before one are for earlier places
from_below : (f : Entry) (xs : List Entry) (e : Entry) (ys : List Entry) → rising_from f (xs ++ e ∷ ys) ≡ true → place_of f < place_of e
unfolding rising_from
from_below f [] e ys h = ltb-true _ _ (both (ltb (place_of f) (place_of e)) _ h).0
from_below f (x ∷ xs) e ys h =
    let (a, r) = both (ltb (place_of f) (place_of x)) _ h in
    let g = ltb-true (place_of f) (place_of x) a in
    let k = from_below x xs e ys r in
    omega arith

pub rising-below : (xs : List Entry) (e : Entry) (ys : List Entry) → rising (xs ++ e ∷ ys) ≡ true → (f : Entry) → Memᴰ f xs → place_of f < place_of e
unfolding rising rising_from
rising-below [] e ys h f m = elim m [ ]
rising-below (x ∷ xs) e ys h f (Memᴰ.head z) = subst (λ y. place_of y < place_of e) (sym z) (from_below x xs e ys h)
rising-below (x ∷ xs) e ys h f (Memᴰ.tail m) = rising-below xs e ys (rest xs h) f m
  where
    rest : (zs : List Entry) → rising_from x (zs ++ e ∷ ys) ≡ true → rising (zs ++ e ∷ ys) ≡ true
    rest [] g = (both (ltb (place_of x) (place_of e)) _ g).1
    rest (z ∷ zs) g = (both (ltb (place_of x) (place_of z)) _ g).1

-- one more entry, for a place that no earlier one is for
pub given_more : (xs : List Entry) (e : Entry) → ((f : Entry) → Memᴰ f xs → place_of f ≡ place_of e → ⊥)
    → given (xs ++ (e ∷ [])) ≡ set (given xs) (place_of e) (capability_given e)
unfolding given set
given_more [] e n = fun_ext (λ q. refl)
given_more (x ∷ xs) e n = fun_ext (λ q. go q (given_more xs e (λ f m. n f (Memᴰ.tail m))) (eqb q (place_of x)) refl)
  where
    go : (q : ℕ) → given (xs ++ (e ∷ [])) ≡ set (given xs) (place_of e) (capability_given e) → (t : Bool) → eqb q (place_of x) ≡ t
        → cond t (capability_given x) (given (xs ++ (e ∷ [])) q) ≡ cond (eqb q (place_of e)) (capability_given e) (cond t (capability_given x) (given xs q))
    go q ih true z = other (eqb q (place_of e)) refl
      where
        other : (u : Bool) → eqb q (place_of e) ≡ u → capability_given x ≡ cond u (capability_given e) (capability_given x)
        other true w = absurd (n x (Memᴰ.head refl) (sym (eqb-true _ _ z) ∙ eqb-true _ _ w))
        other false w = refl
    go q ih false z = ap (λ p. p q) ih
