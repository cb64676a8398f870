-- Section 4 of document 01 is kept by each licensed effect, in a state that is as sections 1 and 2 say. Assumes nothing.
use mathlib.Core.Path.{◌≡◌, refl, sym, ap, ◌∙◌, subst}
use mathlib.Core.Bool.{Bool, true, false, cond}
use mathlib.Core.Logic.{◌⊎◌, inl, inr, ⊎_elim}
use Prim.Native.Nat.{ℕ, suc, ◌≤◌, ◌<◌}
use native.Mathlib.Omega.{arith}
use lib.Dec.{eqb}
use borrow.Author.Tests.{eqb-true}
use Rattle.rules.specs.Sizes.{domains_most, slots, all_slots, badge_most}
use Rattle.rules.specs.State.{State, Places, slot, room, nothing, Holds, Source, Derived, derived_from, Fits, Section4, Formed, Sound}
use Rattle.rules.specs.Turn.{held, derived, copied, set, pruned, apply}
use Rattle.rules.specs.declared.Capability.{Capability}
use Rattle.rules.specs.declared.Effect.{Effect}
use Rattle.rules.proofs.Laws.{set_here, set_there, within-meet, within-refl, decided_by, not_both}
use Rattle.rules.proofs.Places.{same?, pruned-gone, pruned-kept}
use Rattle.rules.proofs.Licence.{Licence, nothing-done, stores, rings, hushes, puts, drops, prunes, posts, sends, takes, gets}
use Rattle.rules.proofs.Derivation.{Leaf}
use Rattle.rules.proofs.Chain.{test_is_derived}
use Rattle.rules.proofs.Section4.{section4-changed, section4-dropped, section4-pruned, empty_leaf}

-- ---- section 4

-- a source is a slot
pub source-slot : {s : State} → Formed s → {x q : ℕ} → Source s.capability x q → x < all_slots
source-slot {s} f {x} {q} e =
    ⊎_elim (λ z. absurd (let g : 0 ≡ suc x = ap (λ c. c.source) (sym (f.empty q z)) ∙ e in omega arith))
    (λ h. let g = (f.capability q h).source in omega arith) (same? (s.capability q).kind 0)

-- a room is nobody's source
pub room_leaf : {s : State} → Formed s → (m : ℕ) → Leaf s.capability (room m)
room_leaf f m q e = let h = source-slot f e in omega arith

-- a capability set at a place that is nobody's source; what it comes from is another place, which holds what it fits
section4-set : (at : Places) (p : ℕ) (c : Capability) → Leaf at p
    → ((x : ℕ) → c.source ≡ suc x → (x ≡ p → ⊥) × Holds at x × Fits c (at x)) → Section4 at → Section4 (set at p c)
section4-set at p c leaf new s =
    section4-changed at (set at p c) p leaf (set_there at p c)
    (λ e. (new p (ap (λ d. d.source) (sym (set_here at p c)) ∙ e)).0 refl)
    (λ x e. let w = new x (ap (λ d. d.source) (sym (set_here at p c)) ∙ e) in
    (w.1, subst (λ d. Fits d (at x)) (sym (set_here at p c)) w.2))
    s

section4-emptied : (at : Places) (p : ℕ) → Leaf at p → Section4 at → Section4 (set at p nothing)
section4-emptied at p leaf s = section4-set at p nothing leaf (λ x e. absurd (let f : 0 ≡ suc x = e in omega arith)) s

-- a capability that was made from another, which stands at place p: it fits it and has it as its source
pub record Made (c from : Capability) (p : ℕ) : Type 0 where
  pub fits : Fits c from
  pub source : c.source ≡ suc p
  pub badge : from.badge ≤ badge_most → c.badge ≤ badge_most

-- what DERIVE makes, with a badge b of its own or that of c, and what SEND makes
pub derived_made : (c : Capability) (p r b : ℕ) → b ≤ badge_most → Made (derived c p r b) c p
unfolding derived
derived_made c p r b l =
    record {
      fits = record { kind = refl; object = refl; rights = within-meet c.rights r; badge = λ n. kept (eqb c.badge 0) refl n };
      source = refl;
      badge = λ h. small (eqb c.badge 0) h;
    }
  where
    kept : (t : Bool) → eqb c.badge 0 ≡ t → (c.badge ≡ 0 → ⊥) → cond t b c.badge ≡ c.badge
    kept true e n = absurd (n (eqb-true c.badge 0 e))
    kept false e n = refl

    small : (t : Bool) → c.badge ≤ badge_most → cond t b c.badge ≤ badge_most
    small true h = l
    small false h = h

pub copied_made : (c : Capability) (p : ℕ) → Made (copied c p) c p
unfolding copied
copied_made c p =
    record {
      fits = record { kind = refl; object = refl; rights = within-refl c.rights; badge = λ n. refl };
      source = refl;
      badge = λ h. h;
    }

-- made from what stands at another place: what section 4 asks of it
made_source : (at : Places) {p y : ℕ} {c : Capability} → Made c (at y) y → (y ≡ p → ⊥) → Holds at y
    → (x : ℕ) → c.source ≡ suc x → (x ≡ p → ⊥) × Holds at x × Fits c (at x)
made_source at {p} {y} {c} m n h x e =
    subst (λ z. (z ≡ p → ⊥) × Holds at z × Fits c (at z)) (let g = m.source in let w : y ≡ x = omega arith in w) (n, h, m.fits)

-- slots and rooms are different places, and a domain's slots differ by their numbers
pub slot-room : (d x m : ℕ) → d < domains_most → x < slots → slot d x ≡ room m → ⊥
slot-room d x m h g e = omega arith

pub inside : {s : State} → Sound s → {d : ℕ} → d < s.domains → d < domains_most
inside f h = let g = f.formed.domains.1 in omega arith

-- REVOKE's pruning: what is derived is gone, the rest is kept
pub pruning : {s : State} → Sound s → (p q : ℕ)
    → (Derived s.capability p q × (pruned s.capability p q ≡ nothing))
    ⊎ ((Derived s.capability p q → ⊥) × (pruned s.capability p q ≡ s.capability q))
pruning {s} f p q =
    ⊎_elim (λ e. inl (exact.0 e, pruned-gone s.capability p q e))
    (λ e. inr (λ u. not_both (exact.1 u) e, pruned-kept s.capability p q e)) (decided_by (derived_from s.capability p q))
  where
    exact : (derived_from s.capability p q ≡ true → Derived s.capability p q) × (Derived s.capability p q → derived_from s.capability p q ≡ true)
    exact = test_is_derived s f.formed f.section4 p q

module _ {s : State} (f : Sound s) where
  pub pruning-gone : (p q : ℕ) → Derived s.capability p q → pruned s.capability p q ≡ nothing
  pruning-gone p q u = ⊎_elim (λ w. w.1) (λ w. absurd (w.0 u)) (pruning f p q)

  pub pruning-kept : (p q : ℕ) → (Derived s.capability p q → ⊥) → pruned s.capability p q ≡ s.capability q
  pruning-kept p q n = ⊎_elim (λ w. absurd (n w.0)) (λ w. w.1) (pruning f p q)

  pub pruning_either : (p q : ℕ) → Derived s.capability p q ⊎ (Derived s.capability p q → ⊥)
  pruning_either p q = ⊎_elim (λ w. inl w.0) (λ w. inr w.0) (pruning f p q)

  pub section4-kept : (d : ℕ) → d < s.domains → (e : Effect) → Licence s d e → Section4 (apply s e).capability
  unfolding apply
  section4-kept d h e nothing-done = f.section4
  section4-kept d h e (stores o l) = f.section4
  section4-kept d h e (rings o) = f.section4
  section4-kept d h e (hushes o) = f.section4
  section4-kept d h e (puts {x} {t} {b} r o g l) =
      section4-set s.capability (slot d t) _ (empty_leaf f.section4 _ g.free)
      (made_source s.capability (derived_made (held s d x) (slot d x) r b l)
      (λ z. o.there (subst (λ y. (s.capability y).kind ≡ 0) (sym z) g.free)) o.there)
      f.section4
  section4-kept d h e (drops o) = section4-dropped s.capability _ f.section4
  section4-kept d h e (prunes {x} o) =
      section4-pruned s.capability _ (slot d x) (pruning-gone (slot d x)) (pruning-kept (slot d x)) (pruning_either (slot d x)) f.section4
  section4-kept d h e (posts o z) = section4-emptied s.capability _ (room_leaf f.formed _) f.section4
  section4-kept d h e (sends {x} {c} o g a z) =
      section4-set s.capability _ _ (room_leaf f.formed _)
      (made_source s.capability (copied_made (held s d c) (slot d c)) (slot-room d c _ (inside f h) a.in_range) a.there) f.section4
  section4-kept d h e (takes o) = section4-emptied s.capability _ (room_leaf f.formed _) f.section4
  section4-kept d h e (gets {x} {t} o u g) =
      section4-set without (slot d t) _ (empty_leaf again _ still)
      (λ y e.
      let n : y ≡ slot d t → ⊥ = λ z. f.section4.held e (subst (λ a. (s.capability a).kind ≡ 0) (sym z) g.free) in
      let k : y ≡ room m → ⊥ = λ z. room_leaf f.formed m (room m) (subst (λ a. Source s.capability a (room m)) z e) in
      let w = set_there s.capability (room m) nothing y k in
      (n, (λ z. f.section4.held e (ap (λ c. c.kind) (sym w) ∙ z)), subst (λ c. Fits (s.capability (room m)) c) (sym w) (f.section4.fits e)))
      again
    where
      m : ℕ
      m = (held s d x).object

      without : Places
      without = set s.capability (room m) nothing

      again : Section4 without
      again = section4-emptied s.capability (room m) (room_leaf f.formed m) f.section4

      still : (without (slot d t)).kind ≡ 0
      still = ap (λ c. c.kind) (set_there s.capability (room m) nothing (slot d t) (slot-room d t m (inside f h) g.in_range)) ∙ g.free
