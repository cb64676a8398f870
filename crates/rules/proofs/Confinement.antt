-- Confinement, document 03 section 1: each licensed effect keeps every capability within what its holder could hold, and one under way
-- within what every reader of its mailbox could hold. Assumes nothing.
use mathlib.Core.Path.{◌≡◌, refl, sym, ◌∙◌, subst}
use mathlib.Core.Bool.{true}
use Prim.Native.Nat.{ℕ, ◌<◌}
use native.Mathlib.Omega.{arith}
use Rattle.rules.specs.Sizes.{domains_most, slots}
use Rattle.rules.specs.State.{State, MAILBOX, within, slot, room, nothing, whose, Fits, Formed}
use Rattle.rules.specs.Turn.{held, apply, advance, next}
use Rattle.rules.specs.Image.{Image}
use Rattle.rules.specs.Flow.{For, passed, Could, Reader}
use Rattle.rules.specs.Authority.{Covered, Confined}
use Rattle.rules.specs.declared.Capability.{Capability}
use Rattle.rules.specs.declared.Operation.{Operation}
use Rattle.rules.specs.declared.Effect.{Effect}
use Rattle.rules.proofs.Laws.{set-each, within_trans, within-refl}
use Rattle.rules.proofs.Places.{each-dropped, each-pruned}
use Rattle.rules.proofs.Licence.{Owns, Licence, nothing-done, stores, rings, hushes, puts, drops, prunes, posts, sends, takes, gets, licensed}
use Rattle.rules.proofs.Fixed.{apply_fixed}
use Rattle.rules.proofs.Always.{derived_made, copied_made, slot-room}
use Rattle.rules.proofs.Formed.{whose-low}

-- what fits a covered capability is covered
covered_fits : {i : Image} {d : ℕ} {c from : Capability} → Covered i d from → Fits c from → Covered i d c
covered_fits {c = c} {from = from} v f =
    record {
      triple = v.triple;
      could = v.could;
      kind = v.kind ∙ sym f.kind;
      object = v.object ∙ sym f.object;
      rights = within_trans c.rights from.rights v.triple.rights f.rights v.rights;
    }

-- the triple that covers a capability is for its kind and object, with every right that the capability has
pub covered_for : {i : Image} {d k r : ℕ} {c : Capability} (v : Covered i d c) → c.kind ≡ k → within r c.rights ≡ true
    → For k c.object r v.triple
covered_for {r = r} {c = c} v e h =
    record { kind_is = v.kind ∙ e; object_is = v.object; has = within_trans r c.rights v.triple.rights h v.rights }

module _ (i : Image) {s : State} (f : Formed s) (k : Confined i s) (d : ℕ) (h : d < s.domains) where
  low : {a : ℕ} → a < s.domains → a < domains_most
  low g = let m = f.domains.1 in omega arith

  -- what d owns, d could hold
  pub could : {x kind right : ℕ} → Owns s d x kind right → Could i kind (held s d x).object right d
  could {x} o =
      let v = k.in_slots d x h o.has.in_range o.has.there in
      record { triple = v.triple; could = v.could; fit = covered_for v o.kind_is o.can }

  -- at place q, capability c is within what the place's holders could hold
  record At (q : ℕ) (c : Capability) : Type 0 where
    in_slot : (a x : ℕ) → a < s.domains → x < slots → q ≡ slot a x → (c.kind ≡ 0 → ⊥) → Covered i a c
    in_room : (m a : ℕ) → Reader i MAILBOX m a → q ≡ room m → (c.kind ≡ 0 → ⊥) → Covered i a c

  at_each : (q : ℕ) → At q (s.capability q)
  at_each q =
      record {
        in_slot = λ a x l g e. subst (λ p. ((s.capability p).kind ≡ 0 → ⊥) → Covered i a (s.capability p)) (sym e) (k.in_slots a x l g);
        in_room = λ m a w e. subst (λ p. ((s.capability p).kind ≡ 0 → ⊥) → Covered i a (s.capability p)) (sym e) (k.under_way m a w);
      }

  at_nothing : (q : ℕ) → At q nothing
  at_nothing q = record { in_slot = λ a x l g e n. absurd (n refl); in_room = λ m a w e n. absurd (n refl) }

  at_fits : {q : ℕ} {c b : Capability} → At q b → Fits c b → At q c
  at_fits v g =
      record {
        in_slot = λ a x l j e n. covered_fits (v.in_slot a x l j e (λ z. n (g.kind ∙ z))) g;
        in_room = λ m a w e n. covered_fits (v.in_room m a w e (λ z. n (g.kind ∙ z))) g;
      }

  -- a slot of d: what d could hold
  at_slot : (t : ℕ) {c : Capability} → t < slots → Covered i d c → At (slot d t) c
  at_slot t {c} g v =
      record {
        in_slot = λ a x l j e n. subst (λ b. Covered i b c) (let w : d ≡ a = omega arith in w) v;
        in_room = λ m a w e n. absurd (slot-room d t m (low h) g e);
      }

  at_room : (m : ℕ) {c : Capability} → ((a : ℕ) → Reader i MAILBOX m a → Covered i a c) → At (room m) c
  at_room m {c} v =
      record {
        in_slot = λ a x l j e n. absurd (slot-room a x m (low l) j (sym e));
        in_room = λ n a w e g. v a (subst (λ b. Reader i MAILBOX b a) (let y : n ≡ m = omega arith in y) w);
      }

  each-kept : (e : Effect) → Licence s d e → (q : ℕ) → At q ((apply s e).capability q)
  unfolding apply
  each-kept e nothing-done = at_each
  each-kept e (stores o l) = at_each
  each-kept e (rings o) = at_each
  each-kept e (hushes o) = at_each
  each-kept e (puts {x} {t} {b} r o g l) =
      set-each At s.capability (slot d t) _ at_each
      (at_slot t g.in_range (covered_fits (k.in_slots d x h o.in_range o.there) (derived_made _ _ r b l).fits))
  each-kept e (drops o) =
      each-dropped At s.capability at_each _ at_nothing
      (λ q c. at_fits (at_each q)
      (record { kind = refl; object = refl; rights = within-refl (s.capability q).rights; badge = λ n. refl }))
  each-kept e (prunes o) = each-pruned At s.capability at_each _ at_nothing
  each-kept e (posts {x} o z) = set-each At s.capability _ _ at_each (at_nothing _)
  each-kept e (sends {x} {c} o g a z) =
      set-each At s.capability _ _ at_each
      (at_room _ (λ b w.
      let v = k.in_slots d x h o.has.in_range o.has.there in
      let y = covered_fits (k.in_slots d c h a.in_range a.there) (copied_made (held s d c) (slot d c)).fits in
      record {
        triple = y.triple;
        could = passed v.could (covered_for v o.kind_is o.can) (covered_for v o.kind_is g) w.could w.fit y.could;
        kind = y.kind;
        object = y.object;
        rights = y.rights;
      }))
  each-kept e (takes {x} o) = set-each At s.capability _ _ at_each (at_nothing _)
  each-kept e (gets {x} {t} o u g) =
      set-each At _ (slot d t) _ (set-each At s.capability _ _ at_each (at_nothing _))
      (at_slot t g.in_range (k.under_way (held s d x).object d (could o) u))

  pub confined-kept : (e : Effect) → Licence s d e → Confined i (apply s e)
  confined-kept e l =
      record {
        in_slots = λ a x g j n. (each-kept e l (slot a x)).in_slot a x (subst (λ m. a < m) (apply_fixed s e).0.domains g) j refl n;
        under_way = λ m a w n. (each-kept e l (room m)).in_room m a w refl n;
      }

-- a turn keeps confinement
pub confined-next : (i : Image) {s : State} → Formed s → Confined i s → (o : Operation) → Confined i (next s o)
unfolding next advance
confined-next i {s} f k o =
    let w = confined-kept i f k (whose s) (whose-low f) _ (licensed s (whose s) o) in
    record { in_slots = w.in_slots; under_way = w.under_way }
