-- The chain of sources: what is derived, the pigeonhole, and the test that follows sources against the document's relation.
-- Assumes nothing.
use mathlib.Core.Path.{◌≡◌, refl, ◌∙◌}
use mathlib.Core.Bool.{true, false, or-true}
use mathlib.Core.Logic.{◌⊎◌, inl, inr, ⊎_elim}
use Prim.Native.Nat.{ℕ, zero, suc, pred, min, ◌+◌, ◌-◌, ◌≤◌, ◌<◌}
use native.Mathlib.Omega.{arith}
use native.Mathlib.Nat.{eq-or-lt_of_le, le_of_suc-le-suc}
use lib.Dec.{eqb, eqb-suc-zero}
use borrow.Author.Tests.{eqb-true, eqb-false, eq-eqb}
use Rattle.rules.specs.State.{Places, Holds, Source, Derived, direct, further, comes_to, derived_from}
use Rattle.rules.specs.Authority.{TestIsDerived}
use Rattle.rules.proofs.Laws.{either, decided_by, not_both}
use Rattle.rules.proofs.Derivation.{chain}

-- ---- the pigeonhole

-- f comes to v at a number below n, or at none
abbrev Sought : ℕ → ℕ → (ℕ → ℕ) → Type 0
Sought n v f = ((i : ℕ) × (i < n) × (f i ≡ v)) ⊎ ((i : ℕ) → i < n → f i ≡ v → ⊥)

seek : (n v : ℕ) (f : ℕ → ℕ) → Sought n v f
seek zero v f = inr (λ i l e. omega arith)
seek (suc n) v f = go (decided_by (eqb (f n) v)) (seek n v f)
  where
    go : (eqb (f n) v ≡ true) ⊎ (eqb (f n) v ≡ false) → Sought n v f → Sought (suc n) v f
    go (inl t) r = inl (n, omega arith, eqb-true _ _ t)
    go (inr t) (inl r) = let (i, l, e) = r in inl (i, omega arith, e)
    go (inr t) (inr r) =
        inr (λ i l e. ⊎_elim (λ (k : i ≡ n). eqb-false _ _ t (rw k at e)) (λ (k : i < n). r i k e) (eq-or-lt_of_le (le_of_suc-le-suc l)))

-- the numbers above v go down by one, and come back
down : ℕ → ℕ → ℕ
down v a = a - min 1 (a - v)

down_up : (v a : ℕ) → (a ≡ v → ⊥) → a ≡ down v a + min 1 (suc (down v a) - v)
unfolding down
down_up v a h = omega arith

-- at two of the numbers up to n the value is the same
abbrev pub Twice : ℕ → (ℕ → ℕ) → Type 0
Twice n f = (i : ℕ) × (j : ℕ) × (i < j) × (j ≤ n) × (f i ≡ f j)

-- of more numbers than values two have the same value
pub pigeon : (n : ℕ) (f : ℕ → ℕ) → ((i : ℕ) → i ≤ n → f i < n) → Twice n f
unfolding down
pigeon zero f h = absurd (omega (arith, h 0 (omega arith)))
pigeon (suc n) f h = go (seek (suc n) (f (suc n)) f) (pigeon n)
  where
    go : Sought (suc n) (f (suc n)) f → ((g : ℕ → ℕ) → ((i : ℕ) → i ≤ n → g i < n) → Twice n g) → Twice (suc n) f
    go (inl found) ih = let (i, l, e) = found in (i, suc n, l, omega arith, e)
    go (inr none) ih =
        let lower : (i : ℕ) → i ≤ n → down (f (suc n)) (f i) < n =
        λ i l. omega (arith, none i (omega arith), h i (omega arith), h (suc n) (omega arith)) in
        let (i, j, l, m, e) = ih (λ i. down (f (suc n)) (f i)) lower in
        (i, j, l, omega arith, cc (down_up _ (f i) (none i (omega arith)), down_up _ (f j) (none j (omega arith))))

-- ---- what is derived

module _ {at : Places} where
  -- a place from which following sources comes back has a source, which is such a place too
  pub return_source : {p q : ℕ} → Derived at p q → q ≡ p → (r : ℕ) × Source at r q × Derived at r r
  return_source {p} (direct s) e = (p, s, direct (rw e at s))
  return_source (further {q = r} d s) e = (r, s, chain (direct (rw e at s)) d)

  -- each is the source of the one before: the later ones are what the earlier are derived from
  sources-along : (g : ℕ → ℕ) (n : ℕ) → ((i : ℕ) → i < n → Source at (g (suc i)) (g i)) → (i : ℕ) → i < n → Derived at (g n) (g i)
  sources-along g zero h i l = absurd (omega arith)
  sources-along g (suc n) h i l =
      ⊎_elim (λ (k : i ≡ n). direct (rw k (h n (omega arith))))
      (λ (k : i < n). chain (direct (h n (omega arith))) (sources-along g n (λ j m. h j (omega arith)) i k))
      (eq-or-lt_of_le (le_of_suc-le-suc l))

-- ---- the test

module _ (at : Places) where
  -- where following sources from q comes to p within any number of steps, q is derived from p
  pub comes_derived : (n p q x : ℕ) → (at q).source ≡ x → comes_to n at (suc p) x ≡ true → Derived at p q
  unfolding comes_to
  comes_derived zero p q x s h = direct (s ∙ eqb-true _ _ h)
  comes_derived (suc n) p q zero s h = direct (s ∙ eqb-true _ _ h)
  comes_derived (suc n) p q (suc r) s h =
      ⊎_elim (λ (t : eqb (suc r) (suc p) ≡ true). direct (s ∙ eqb-true _ _ t))
      (λ (t : comes_to n at (suc p) (at r).source ≡ true). further (comes_derived n p r _ refl t) s) (either _ _ h)

  -- where following sources from p ends, it does not come back to p
  pub comes_no_return : (n p x : ℕ) → (at p).source ≡ x → comes_to n at 0 x ≡ true → Derived at p p → ⊥
  unfolding comes_to
  comes_no_return zero p x s h d = let (r, t, e) = return_source d refl in omega (arith, eqb-true)
  comes_no_return (suc n) p zero s h d = let (r, t, e) = return_source d refl in omega arith
  comes_no_return (suc n) p (suc q) s h d =
      let (r, t, e) = return_source d refl in
      let k : q ≡ r = omega arith in
      comes_no_return n r _ refl (rw (eqb-suc-zero q, k) at h) e

  comes_nothing : (n t : ℕ) → comes_to n at t 0 ≡ eqb 0 t
  unfolding comes_to
  comes_nothing zero t = refl
  comes_nothing (suc n) t = refl

  -- where following sources ends within n steps, whatever it comes to it comes to within n steps
  pub comes_within : (n m t x : ℕ) → comes_to n at 0 x ≡ true → comes_to m at t x ≡ true → comes_to n at t x ≡ true
  unfolding comes_to
  comes_within zero m t zero h k = rw (comes_nothing m t) at k
  comes_within zero m t (suc p) h k = absurd (omega (arith, eqb-true))
  comes_within (suc n) m t zero h k = rw (comes_nothing m t) at k
  comes_within (suc n) zero t (suc p) h k = rw k
  comes_within (suc n) (suc m) t (suc p) h k =
      ⊎_elim (λ (u : eqb (suc p) t ≡ true). rw u)
      (λ (u : comes_to m at t (at p).source ≡ true). rw (comes_within n m t _ (rw (eqb-suc-zero p) at h) u) (or-true (eqb (suc p) t)))
      (either _ _ k)

  -- following sources from what is derived from p comes to p
  pub derived_comes : {p q : ℕ} → Derived at p q → (n : ℕ) × (comes_to n at (suc p) (at q).source ≡ true)
  unfolding comes_to
  derived_comes (direct s) = (0, eq-eqb _ _ s)
  derived_comes (further {q = q} d s) = let (n, h) = derived_comes d in (suc n, rw (s, h) (or-true (eqb (suc q) _)))

-- the place that i steps from q come to, where there are as many
ancestor : Places → ℕ → ℕ → ℕ
ancestor at zero q = q
ancestor at (suc i) q = ancestor at i (pred (at q).source)

-- where following sources does not end within n steps there are as many
unended : (at : Places) (i n q x : ℕ) → i ≤ n → (at q).source ≡ x → comes_to n at 0 x ≡ false
    → Source at (ancestor at (suc i) q) (ancestor at i q)
unfolding comes_to ancestor
unended at zero n q zero l s h = absurd (not_both (comes_nothing at n 0) h)
unended at zero n q (suc p) l s h = let k : (at q).source ≡ suc (pred (at q).source) = omega arith in k
unended at (suc i) zero q x l s h = absurd (omega arith)
unended at (suc i) (suc n) q zero l s h = absurd (not_both refl h)
unended at (suc i) (suc n) q (suc p) l s h =
    let k : pred (at q).source ≡ p = omega arith in
    rw k (unended at i n p _ (omega arith) refl (rw (eqb-suc-zero p) at h))

module _ (at : Places) (n : ℕ) (held : (p q : ℕ) → Source at p q → Holds at p) (below : (q : ℕ) → Holds at q → q < n)
    (no_return : (p : ℕ) → Derived at p p → ⊥) where
  -- following sources from any place ends within as many steps as there are places
  pub ends : (q : ℕ) → comes_to n at 0 (at q).source ≡ true
  ends q = ⊎_elim (λ t. t) (λ f. absurd (endless (λ i l. unended at i n q _ l refl f))) (decided_by (comes_to n at 0 (at q).source))
    where
      endless : ((i : ℕ) → i ≤ n → Source at (ancestor at (suc i) q) (ancestor at i q)) → ⊥
      endless u =
          let (i, j, l, m, e) = pigeon n (λ i. ancestor at (suc i) q) (λ i l. below _ (held _ _ (u i l))) in
          no_return _ (rw e at (sources-along {at = at} (λ i. ancestor at i q) (suc j) (λ k l. u k (omega arith)) (suc i) (omega arith)))

  -- what is derived from p is found by the test
  pub derived-found : (p q : ℕ) → Derived at p q → comes_to n at (suc p) (at q).source ≡ true
  derived-found p q d = let (m, h) = derived_comes at d in comes_within at n m (suc p) _ (ends q) h

-- the test by which REVOKE picks places holds exactly where the document's relation does
pub test_is_derived : TestIsDerived
unfolding derived_from
test_is_derived s f a p q = (
  comes_derived s.capability _ p q _ refl,
  derived-found s.capability _ (λ p q. a.held) f.places_only (λ p. a.no_return) p q,
)
