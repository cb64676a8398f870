-- Section 4 of document 01 is kept by each of the three things that effects do to places; and a derived capability is never more than
-- what it is derived from. Assumes nothing.
use mathlib.Core.Path.{◌≡◌, sym, ap, ◌∙◌, subst}
use mathlib.Core.Bool.{true}
use mathlib.Core.Logic.{◌⊎◌, inl, inr, ⊎_elim}
use Prim.Native.Nat.{ℕ, suc}
use Rattle.rules.specs.State.{Places, nothing, Holds, Source, Derived, direct, further, Fits, Section4}
use Rattle.rules.specs.Turn.{dropped}
use Rattle.rules.specs.Authority.{SameButSource}
use Rattle.rules.specs.declared.Capability.{Capability}
use Rattle.rules.proofs.Laws.{within_trans}
use Rattle.rules.proofs.Places.{same?, dropped_child, dropped_other}
use Rattle.rules.proofs.Derivation.{Leaf, changed_leaf, changed-back, leaf_childless, dropped-source, dropped-back, pruned-source, pruned-back}

pub fits_trans : {c d e : Capability} → Fits c d → Fits d e → Fits c e
fits_trans {c} {d} {e} f g =
    record {
      kind = f.kind ∙ g.kind;
      object = f.object ∙ g.object;
      rights = within_trans c.rights d.rights e.rights f.rights g.rights;
      badge = λ n. f.badge (λ z. n (sym (g.badge n) ∙ z)) ∙ g.badge n;
    }

-- a derived capability is never more than what it is derived from, at any distance
pub never_more_than : {at : Places} {p q : ℕ} → Section4 at → Derived at p q → Fits (at q) (at p)
never_more_than s (direct e) = s.fits e
never_more_than s (further u e) = fits_trans (s.fits e) (never_more_than s u)

-- a place that holds nothing is nobody's source
pub empty_leaf : {at : Places} → Section4 at → (p : ℕ) → (at p).kind ≡ 0 → Leaf at p
empty_leaf s p z q e = s.held e z

-- capabilities that are alike but for their sources fit alike
fits_alike : {c d e f : Capability} → SameButSource c d → SameButSource e f → Fits d f → Fits c e
fits_alike {c} {d} {e} {f} a b h =
    record {
      kind = a.kind ∙ (h.kind ∙ sym b.kind);
      object = a.object ∙ (h.object ∙ sym b.object);
      rights = subst (λ r. within' r e.rights) (sym a.rights) (subst (λ r. within' d.rights r) (sym b.rights) h.rights);
      badge = λ n. a.badge ∙ (h.badge (λ z. n (b.badge ∙ z)) ∙ sym b.badge);
    }
  where
    within' : ℕ → ℕ → Type 0
    within' r t = Rattle.rules.specs.State.within r t ≡ true

pub alike : {c d : Capability} → c ≡ d → SameButSource c d
alike e = record { kind = ap (λ x. x.kind) e; rights = ap (λ x. x.rights) e; object = ap (λ x. x.object) e; badge = ap (λ x. x.badge) e }

-- one place changed that is nobody's source: what it holds now fits a source that holds a capability
pub section4-changed : (at to : Places) (p : ℕ) → Leaf at p → ((q : ℕ) → (q ≡ p → ⊥) → to q ≡ at q) → (Source to p p → ⊥)
    → ((x : ℕ) → Source to x p → Holds at x × Fits (to p) (at x)) → Section4 at → Section4 to
section4-changed at to p leaf same apart new s =
    record {
      held = λ {p = x} {q} e. let (n, h, f) = source x q e in (λ z. h (ap (λ c. c.kind) (sym (same x n)) ∙ z));
      no_return = λ {p = x} u. back x u (same? x p);
      fits = λ {p = x} {q} e. let (n, h, f) = source x q e in subst (λ c. Fits (to q) c) (sym (same x n)) f;
    }
  where
    source : (x q : ℕ) → Source to x q → (x ≡ p → ⊥) × Holds at x × Fits (to q) (at x)
    source x q e =
        ⊎_elim
        (λ z. let w : Source to x p = subst (λ y. Source to x y) z e in
        let v = new x w in
        (λ y. apart (subst (λ a. Source to a p) y w), v.0, subst (λ y. Fits (to y) (at x)) (sym z) v.1))
        (λ h. let w : Source at x q = ap (λ c. c.source) (sym (same q h)) ∙ e in
        (λ y. leaf q (subst (λ a. Source at a q) y w), s.held w, subst (λ c. Fits c (at x)) (sym (same q h)) (s.fits w)))
        (same? q p)

    back : (x : ℕ) → Derived to x x → (x ≡ p) ⊎ (x ≡ p → ⊥) → ⊥
    back x u (inl z) = leaf_childless (changed_leaf at to p leaf same apart) (subst (λ y. Derived to y x) z u)
    back x u (inr h) = s.no_return (changed-back at to p leaf same apart h u)

-- dropping a place keeps what the others hold, but for sources
pub dropped_alike : (at : Places) (p q : ℕ) → (q ≡ p → ⊥) → SameButSource (dropped at p q) (at q)
dropped_alike at p q h =
    ⊎_elim
    (λ e. let w = dropped_child at p q h e in
    record { kind = ap (λ c. c.kind) w; rights = ap (λ c. c.rights) w; object = ap (λ c. c.object) w; badge = ap (λ c. c.badge) w })
    (λ e. alike (dropped_other at p q h e)) (same? (at q).source (suc p))

pub section4-dropped : (at : Places) (p : ℕ) → Section4 at → Section4 (dropped at p)
section4-dropped at p s =
    record {
      held = λ {p = x} {q} e. let (n, g, h, f) = source x q e in (λ z. h (sym (dropped_alike at p x n).kind ∙ z));
      no_return = λ {p = x} u. s.no_return (dropped-back at p u);
      fits = λ {p = x} {q} e. let (n, g, h, f) = source x q e in fits_alike (dropped_alike at p q g) (dropped_alike at p x n) f;
    }
  where
    source : (x q : ℕ) → Source (dropped at p) x q → (x ≡ p → ⊥) × (q ≡ p → ⊥) × Holds at x × Fits (at q) (at x)
    source x q e =
        let (g, w) = dropped-source at p e in
        ⊎_elim
        (λ v. (v.0, g, s.held v.1, s.fits v.1))
        (λ v. (λ z. s.no_return (direct (subst (λ a. Source at a p) z v.1)), g, s.held v.1, fits_trans (s.fits v.0) (s.fits v.1)))
        w

-- what is derived from p is gone, the rest is kept
pub section4-pruned : (at to : Places) (p : ℕ) → ((q : ℕ) → Derived at p q → to q ≡ nothing) → ((q : ℕ) → (Derived at p q → ⊥) → to q ≡ at q)
    → ((q : ℕ) → Derived at p q ⊎ (Derived at p q → ⊥)) → Section4 at → Section4 to
section4-pruned at to p gone kept either s =
    record {
      held = λ {p = x} {q} e. let (n, w) = pruned-source at to p gone kept either e in
          (λ z. s.held w (ap (λ c. c.kind) (sym (kept x (λ u. n (further u w)))) ∙ z));
      no_return = λ {p = x} u. s.no_return (pruned-back at to p gone kept either u);
      fits = λ {p = x} {q} e. let (n, w) = pruned-source at to p gone kept either e in
          subst (λ c. Fits c (to x)) (sym (kept q n)) (subst (λ c. Fits (at q) c) (sym (kept x (λ u. n (further u w)))) (s.fits w));
    }
