-- What becomes of `Derived` when a place that is nobody's source changes, when a place is dropped, and when what is derived from a
-- place is pruned. Assumes nothing.
use mathlib.Core.Path.{◌≡◌, sym, ap, ◌∙◌, subst}
use mathlib.Core.Logic.{◌⊎◌, inl, inr, ⊎_elim}
use Prim.Native.Nat.{ℕ, suc}
use native.Mathlib.Omega.{arith}
use Rattle.rules.specs.State.{Places, nothing, Source, Derived, direct, further}
use Rattle.rules.specs.Turn.{dropped}
use Rattle.rules.proofs.Places.{same?, dropped-here, dropped_child, dropped_other}

-- the way from p to q, and on from q to r
pub chain : {at : Places} {p q r : ℕ} → Derived at p q → Derived at q r → Derived at p r
chain u (direct e) = further u e
chain u (further v e) = further (chain u v) e

-- place p is nobody's source
abbrev pub Leaf : Places → ℕ → Type 0
Leaf at p = (q : ℕ) → Source at p q → ⊥

-- nothing is derived from a place that is nobody's source
pub leaf_childless : {at : Places} {p q : ℕ} → Leaf at p → Derived at p q → ⊥
leaf_childless l (direct {q} e) = l q e
leaf_childless l (further u e) = leaf_childless l u

-- two sets of places agree but at p, which is nobody's source in the second: at other places Derived carries over
off_leaf : {at to : Places} {p r q : ℕ} → Leaf to p → ((q : ℕ) → (q ≡ p → ⊥) → to q ≡ at q) → (q ≡ p → ⊥) → Derived at r q → Derived to r q
off_leaf l same h (direct {q} e) = direct (ap (λ c. c.source) (same q h) ∙ e)
off_leaf {to = to} l same h (further {q = x} {r = q} u e) =
    let f : Source to x q = ap (λ c. c.source) (same q h) ∙ e in
    further (off_leaf l same (λ z. l q (subst (λ y. (to q).source ≡ suc y) z f)) u) f

-- ---- one place changed that is nobody's source, and not its own

module _ (at to : Places) (p : ℕ) (leaf : Leaf at p) (same : (q : ℕ) → (q ≡ p → ⊥) → to q ≡ at q) (apart : Source to p p → ⊥) where
  -- it stays nobody's source
  pub changed_leaf : Leaf to p
  changed_leaf q e =
      ⊎_elim (λ z. apart (subst (λ y. Source to p y) z e)) (λ h. leaf q (ap (λ c. c.source) (sym (same q h)) ∙ e)) (same? q p)

  -- at other places Derived is what it was
  pub changed-back : {r q : ℕ} → (q ≡ p → ⊥) → Derived to r q → Derived at r q
  changed-back h u = off_leaf leaf (λ q g. sym (same q g)) h u

  pub changed_on : {r q : ℕ} → (q ≡ p → ⊥) → Derived at r q → Derived to r q
  changed_on h u = off_leaf changed_leaf same h u

  -- what the new capability is derived from: its source, and what that is derived from
  pub changed_new : {r : ℕ} → Derived to r p → Source to r p ⊎ ((x : ℕ) × Source to x p × Derived at r x)
  changed_new (direct e) = inl e
  changed_new (further {q = x} u e) = inr (x, e, changed-back (λ z. apart (subst (λ y. (to p).source ≡ suc y) z e)) u)

  pub changed-further : {r x : ℕ} → Source to x p → Derived at r x → Derived to r p
  changed-further e u = further (changed_on (λ z. apart (subst (λ y. (to p).source ≡ suc y) z e)) u) e

-- ---- a place dropped

module _ (at : Places) (p : ℕ) where
  -- each source after the drop was a source before it, or the source of p, which was
  pub dropped-source : {x q : ℕ} → Source (dropped at p) x q → (q ≡ p → ⊥) × (((x ≡ p → ⊥) × Source at x q) ⊎ (Source at p q × Source at x p))
  dropped-source {x} {q} e = (away, ⊎_elim child other (same? (at q).source (suc p)))
    where
      away : q ≡ p → ⊥
      away z = absurd (let f : 0 ≡ suc x = ap (λ c. c.source) (sym (dropped-here at p)) ∙ (ap (λ y. (dropped at p y).source) (sym z) ∙ e) in omega arith)

      child : Source at p q → ((x ≡ p → ⊥) × Source at x q) ⊎ (Source at p q × Source at x p)
      child f = inr (f, ap (λ c. c.source) (sym (dropped_child at p q away f)) ∙ e)

      other : (Source at p q → ⊥) → ((x ≡ p → ⊥) × Source at x q) ⊎ (Source at p q × Source at x p)
      other f =
          let w : Source at x q = ap (λ c. c.source) (sym (dropped_other at p q away f)) ∙ e in
          inl (λ z. f (subst (λ y. Source at y q) z w), w)

  step_back : {x q : ℕ} → Source (dropped at p) x q → Derived at x q
  step_back e = ⊎_elim (λ w. direct w.1) (λ w. further (direct w.1) w.0) (dropped-source e).1

  -- what is derived after the drop was derived before it
  pub dropped-back : {r q : ℕ} → Derived (dropped at p) r q → Derived at r q
  dropped-back (direct e) = step_back e
  dropped-back (further u e) = chain (dropped-back u) (step_back e)

  module _ (no_return : Derived at p p → ⊥) where
    one_source : {x q : ℕ} → Source at x q → Source at p q → x ≡ p
    one_source e f = omega arith

    keeps : {x q : ℕ} → (x ≡ p → ⊥) → (q ≡ p → ⊥) → Source at x q → Source (dropped at p) x q
    keeps {x} {q} h g e =
        ap (λ c. c.source) (dropped_other at p q g (λ f. h (one_source e f))) ∙ e

    hands : {x q : ℕ} → (q ≡ p → ⊥) → Source at p q → Source at x p → Source (dropped at p) x q
    hands {x} {q} g f e = ap (λ c. c.source) (dropped_child at p q g f) ∙ e

    -- on the way from r: at a place other than p, and at p for each of its children
    both_ways : {r q : ℕ} → (r ≡ p → ⊥) → Derived at r q
        → ((q ≡ p → ⊥) → Derived (dropped at p) r q)
        × (q ≡ p → (c : ℕ) → (c ≡ p → ⊥) → Source at p c → Derived (dropped at p) r c)
    both_ways {r} h (direct {q} e) =
        (λ g. direct (keeps h g e), λ z c g f. direct (hands g f (subst (λ y. Source at r y) z e)))
    both_ways {r} h (further {q = x} {r = q} u e) =
        let w = both_ways h u in (
          λ g. ⊎_elim (λ z. w.1 z q g (subst (λ y. Source at y q) z e)) (λ n. further (w.0 n) (keeps n g e)) (same? x p),
          λ z c g f. ⊎_elim (λ y. absurd (no_return (direct (subst (λ a. Source at p a) z (subst (λ a. Source at a q) y e)))))
              (λ n. further (w.0 n) (hands g f (subst (λ a. Source at x a) z e))) (same? x p),
        )

    -- between places other than p, what was derived is derived
    pub dropped_on : {r q : ℕ} → (r ≡ p → ⊥) → (q ≡ p → ⊥) → Derived at r q → Derived (dropped at p) r q
    dropped_on h g u = (both_ways h u).0 g

-- ---- what is derived from a place pruned

module _ (at to : Places) (p : ℕ) (gone : (q : ℕ) → Derived at p q → to q ≡ nothing) (kept : (q : ℕ) → (Derived at p q → ⊥) → to q ≡ at q)
    (either : (q : ℕ) → Derived at p q ⊎ (Derived at p q → ⊥)) where
  pub pruned-source : {x q : ℕ} → Source to x q → (Derived at p q → ⊥) × Source at x q
  pruned-source {x} {q} e =
      ⊎_elim (λ u. absurd (let f : 0 ≡ suc x = ap (λ c. c.source) (sym (gone q u)) ∙ e in omega arith))
      (λ n. (n, ap (λ c. c.source) (sym (kept q n)) ∙ e)) (either q)

  -- what is derived after the pruning was derived before it
  pub pruned-back : {r q : ℕ} → Derived to r q → Derived at r q
  pruned-back (direct e) = direct (pruned-source e).1
  pruned-back (further u e) = further (pruned-back u) (pruned-source e).1

  -- what was derived and remains is derived
  pub pruned_on : {r q : ℕ} → (Derived at p q → ⊥) → Derived at r q → Derived to r q
  pruned_on n (direct {q} e) = direct (ap (λ c. c.source) (kept q n) ∙ e)
  pruned_on n (further {q = x} {r = q} u e) = further (pruned_on (λ v. n (further v e)) u) (ap (λ c. c.source) (kept q n) ∙ e)
