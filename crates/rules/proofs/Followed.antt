-- The record of births, followed through every turn: Derived is ancestry in every reached state, and a REVOKE removes just what came
-- from its slot. Assumes nothing.
use mathlib.Core.Path.{◌≡◌, refl, sym, ap, ◌∙◌, subst}
use mathlib.Core.Bool.{Bool, true, false, cond}
use mathlib.Core.List.{List}
use mathlib.Core.Logic.{⊎_elim}
use Prim.Native.Nat.{ℕ, suc}
use native.Mathlib.Omega.{arith}
use lib.Dec.{eqb, eqb-suc-zero}
use Rattle.rules.specs.State.{State, Places, slot, room, nothing, whose, Holds, Source, Derived, direct, further, Sound}
use Rattle.rules.specs.Turn.{refusal, load, store, derived, derive, delete, revoke, ring, hear, copied, goes, send, moves, receive, look, Name, IDLE, LOAD, STORE, DERIVE, DELETE, REVOKE, RING, HEAR, SEND, RECEIVE, LOOK, unknown, named, decided, decide, held, set, dropped, pruned, apply, advance, next, answer}
use Rattle.rules.specs.Authority.{Reached, booted, turned}
use Rattle.rules.specs.History.{Ledger, Ancestor, parent, older, opened, born, moved, noted, recorded, Followed, booted as opens, turned as goes_on, DerivedIsAncestry, RevokeByAncestry}
use Rattle.rules.specs.declared.Capability.{Capability}
use Rattle.rules.specs.declared.Message.{Message}
use Rattle.rules.specs.declared.Answer.{Answer}
use Rattle.rules.specs.declared.Operation.{Operation}
use Rattle.rules.specs.declared.Effect.{Effect}
use Rattle.rules.specs.declared.Effect.TheVariants.{Nothing, Put, Post, Take, Move}
use Rattle.rules.proofs.Laws.{concluded_both, unrefused, set_here, set_there}
use Rattle.rules.proofs.Licence.{Licence, by_name, needed, licensed}
use Rattle.rules.proofs.Places.{dropped-here}
use Rattle.rules.proofs.Derivation.{Leaf, changed-back, changed_on, dropped-back, dropped_on, pruned-back, pruned_on}
use Rattle.rules.proofs.Section4.{dropped_alike, empty_leaf}
use Rattle.rules.proofs.Always.{room_leaf, pruning-gone, pruning-kept, pruning_either}
use Rattle.rules.proofs.Revoke.{sources-held, revoking}
use Rattle.rules.proofs.Reached.{sound, revoke_exactly}
use Rattle.rules.proofs.History.{Kept, kept_fewer, kept-born, kept-moved}

-- a place that is nobody's source is emptied
kept-emptied : (at : Places) (l : Ledger) (p : ℕ) → Leaf at p → Kept at l → Kept (set at p nothing) l
kept-emptied at l p leaf k =
    kept_fewer k (λ q h z. h (ap (λ c. c.kind) (set_there at p nothing q (away q h)) ∙ z))
    (λ a q h g. (
      λ u. changed-back at (set at p nothing) p leaf (set_there at p nothing) self (away q g) u,
      λ u. changed_on at (set at p nothing) p leaf (set_there at p nothing) self (away q g) u,
    ))
  where
    away : (q : ℕ) → Holds (set at p nothing) q → q ≡ p → ⊥
    away q h z = h (ap (λ y. (set at p nothing y).kind) z ∙ ap (λ c. c.kind) (set_here at p nothing))

    self : Source (set at p nothing) p p → ⊥
    self e = let w : 0 ≡ suc p = ap (λ c. c.source) (sym (set_here at p nothing)) ∙ e in omega arith

module _ {s : State} (f : Sound s) (l : Ledger) (k : Kept s.capability l) (d : ℕ) where
  kept-dropped : (p : ℕ) → Kept (dropped s.capability p) l
  kept-dropped p =
      kept_fewer k (λ q h z. h ((dropped_alike s.capability p q (away q h)).kind ∙ z))
      (λ a q h g. (dropped-back s.capability p, dropped_on s.capability p f.section4.no_return (away a h) (away q g)))
    where
      away : (q : ℕ) → Holds (dropped s.capability p) q → q ≡ p → ⊥
      away q h z = h (ap (λ y. (dropped s.capability p y).kind) z ∙ ap (λ c. c.kind) (dropped-here s.capability p))

  kept-pruned : (p : ℕ) → Kept (pruned s.capability p) l
  kept-pruned p =
      kept_fewer k (λ q h z. h (ap (λ c. c.kind) (pruning-kept f p q (remains q h)) ∙ z))
      (λ a q h g. (
        pruned-back s.capability (pruned s.capability p) p (pruning-gone f p) (pruning-kept f p) (pruning_either f p),
        pruned_on s.capability (pruned s.capability p) p (pruning-gone f p) (pruning-kept f p) (pruning_either f p) (remains q g),
      ))
    where
      remains : (q : ℕ) → Holds (pruned s.capability p) q → Derived s.capability p q → ⊥
      remains q h u = h (ap (λ c. c.kind) (pruning-gone f p q u))

  -- the record after domain d's operation, answered so
  after_it : Name → Operation → Effect → Answer → Type 0
  after_it n o e a = Kept (apply s e).capability (cond (eqb a.status 0) (noted s d n o a l) l)

  refused : (n : Name) (o : Operation) (e : ℕ) → after_it n o Nothing (refusal (suc e))
  unfolding after_it apply
  refused n o e = subst (λ t. Kept s.capability (cond t (noted s d n o (refusal (suc e)) l) l)) (sym (eqb-suc-zero e)) k

  -- a licensed effect that puts c at p, made from what y holds, is a birth
  bears : (p y : ℕ) (c : Capability) {e : Effect} → Licence s d e → ((apply s e).capability ≡ set s.capability p c) → c.source ≡ suc y
      → (s.capability p).kind ≡ 0 → Kept (set s.capability p c) (born p y l)
  bears p y c i w m z =
      kept-born s.capability l k p y c z (empty_leaf f.section4 p z) m
      (sources-held f d _ i y p (ap (λ at. (at p).source) w ∙ (ap (λ x. x.source) (set_here s.capability p c) ∙ m)))

  derives : (p y r b : ℕ) → Licence s d (Put p (derived (s.capability y) y r b))
      → Kept (set s.capability p (derived (s.capability y) y r b)) (born p y l)
  unfolding apply derived
  derives p y r b i = bears p y _ i refl refl (needed i)

  sends : (m y : ℕ) (g : Message) (t : Bool) → Licence s d (Post m g (cond t (copied (s.capability y) y) nothing))
      → Kept (set s.capability (room m) (cond t (copied (s.capability y) y) nothing)) (cond t (born (room m) y l) l)
  unfolding apply copied
  sends m y g true i = bears (room m) y _ i refl refl (f.formed.emptied m (needed i)).1
  sends m y g false i = kept-emptied s.capability l (room m) (room_leaf f.formed m) k

  receives : (m p : ℕ) (t : Bool) → Licence s d (cond t (Move m p) (Take m))
      → Kept (apply s (cond t (Move m p) (Take m))).capability (cond (eqb (cond t 1 0) 1) (moved p (room m) l) l)
  unfolding apply
  receives m p true i =
      kept-moved s.capability l k (room m) p (needed i).1 (room_leaf f.formed m) (needed i).0 (λ x q. f.section4.held)
  receives m p false i = kept-emptied s.capability l (room m) (room_leaf f.formed m) k

  followed_by : (n : Name) (o : Operation) → after_it n o (decided s d n o).effect (decided s d n o).answer
  unfolding after_it decided load store derive delete revoke ring hear send receive look noted apply
  followed_by IDLE o = concluded_both (after_it IDLE o) _ _ _ (refused IDLE o) (λ h. k)
  followed_by LOAD o = concluded_both (after_it LOAD o) _ _ _ (refused LOAD o) (λ h. k)
  followed_by STORE o = concluded_both (after_it STORE o) _ _ _ (refused STORE o) (λ h. k)
  followed_by DERIVE o =
      concluded_both (after_it DERIVE o) _ _ _ (refused DERIVE o)
      (λ h. derives _ _ _ _ (subst (λ x. Licence s d x) (unrefused _ _ _ h) (by_name s d DERIVE o)))
  followed_by DELETE o = concluded_both (after_it DELETE o) _ _ _ (refused DELETE o) (λ h. kept-dropped _)
  followed_by REVOKE o = concluded_both (after_it REVOKE o) _ _ _ (refused REVOKE o) (λ h. kept-pruned _)
  followed_by RING o = concluded_both (after_it RING o) _ _ _ (refused RING o) (λ h. k)
  followed_by HEAR o = concluded_both (after_it HEAR o) _ _ _ (refused HEAR o) (λ h. k)
  followed_by SEND o =
      concluded_both (after_it SEND o) _ _ _ (refused SEND o)
      (λ h. sends _ (slot d o.second) _ (goes o.second) (subst (λ x. Licence s d x) (unrefused _ _ _ h) (by_name s d SEND o)))
  followed_by RECEIVE o =
      concluded_both (after_it RECEIVE o) _ _ _ (refused RECEIVE o)
      (λ h. receives _ _ (moves s d (held s d o.first).object o.second) (subst (λ x. Licence s d x) (unrefused _ _ _ h) (by_name s d RECEIVE o)))
  followed_by LOOK o = concluded_both (after_it LOOK o) _ _ _ (refused LOOK o) (λ h. k)
  followed_by unknown o = concluded_both (after_it unknown o) _ _ _ (refused unknown o) (λ h. absurd (let g : 1 ≡ 0 = h in omega arith))

-- a turn keeps places and record together
kept_next : {s : State} → Sound s → (l : Ledger) → Kept s.capability l → (o : Operation) → Kept (next s o).capability (recorded s o l)
unfolding next advance recorded decide answer after_it
kept_next {s} f l k o = followed_by f l k (whose s) (named o.number) o

-- at boot each birth is a place and its parent the source
kept-opened : {s : State} → Sound s → Kept s.capability (opened s)
unfolding opened
kept-opened {s} f =
    record {
      alike = λ p q h g. (there, back);
      distinct = λ p q h g e. e;
      low = λ p h. f.formed.places_only p h;
      older = λ n m h e. f.formed.places_only m (f.section4.held e);
    }
  where
    there : {p q : ℕ} → Derived s.capability p q → Ancestor (λ x. (s.capability x).source) p q
    there (direct e) = parent e
    there (further u e) = older (there u) e

    back : {p q : ℕ} → Ancestor (λ x. (s.capability x).source) p q → Derived s.capability p q
    back (parent e) = direct e
    back (older u e) = further (back u) e

pub reached : {b : List ℕ} {s : State} {l : Ledger} → Followed b s l → Reached b s
reached (opens y e) = booted y e
reached (goes_on r o) = turned (reached r) o

kept : {b : List ℕ} {s : State} {l : Ledger} → Followed b s l → Kept s.capability l
kept (opens y e) = kept-opened (sound (booted y e))
kept (goes_on {l = l} r o) = kept_next (sound (reached r)) l (kept r) o

pub derived_is_ancestry : DerivedIsAncestry
derived_is_ancestry b s l r = (kept r).alike

pub revoke_by_ancestry : RevokeByAncestry
revoke_by_ancestry b s l r o e h q g =
    let f = sound (reached r) in
    let p = slot (whose s) o.first in
    let v = revoke_exactly b s (reached r) o e h in
    let w = (kept r).alike p q (needed (subst (λ x. Licence s (whose s) x) (revoking s o e h) (licensed s (whose s) o))) g in (
      λ z. ⊎_elim w.0 (λ n. absurd (g (ap (λ c. c.kind) (sym (v.kept q n)) ∙ z))) (pruning_either f p q),
      λ u. ap (λ c. c.kind) (v.gone q (w.1 u)),
    )
