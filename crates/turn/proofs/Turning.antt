-- A turn, put together: what the checks, the effect and the position's move come to. Assumes nothing.
use mathlib.Core.Path.{◌≡◌, refl, sym, ap, ◌∙◌, subst}
use mathlib.Core.Bool.{Bool, true, false, cond}
use mathlib.Core.List.{List}
use Prim.Native.Nat.{ℕ, ◌+◌, ◌%◌, ◌≤◌, ◌<◌}
use native.Mathlib.Omega.{arith}
use native.Mathlib.Nat.{mod-lt, mod-eq_of_lt}
use lib.Dec.{leb}
use lib.ListN.{length, get_or}
use borrow.Author.Tests.{leb-true, leb-false}
use Rattle.rules.specs.Sizes.{domains_most}
use Rattle.rules.specs.State.{State, slot, whose, Section4, Formed}
use Rattle.rules.specs.Turn.{held, moves, refusal, load, store, derive, delete, revoke, ring, hear, send, receive, look, Name, IDLE, LOAD, STORE, DERIVE, DELETE, REVOKE, RING, HEAR, SEND, RECEIVE, LOOK, unknown, named, decided, decide, apply, advance, next, answer}
use Rattle.rules.specs.declared.Operation.{Operation}
use Rattle.rules.specs.declared.Answer.{Answer}
use Rattle.rules.specs.declared.Effect.{Effect}
use Rattle.rules.specs.declared.Effect.TheVariants.{Take, Move}
use Rattle.rules.specs.declared.Decision.{Decision}
use Rattle.rules.proofs.Laws.{concluded, concluded_both}
use Rattle.rules.proofs.Fixed.{apply_fixed}
use Rattle.rules.proofs.Licence.{licensed}
use Rattle.rules.proofs.Formed.{whose-low}
use Rattle.rules.proofs.Reached.{sound_next}
use Rattle.layout.specs.Layout.{state_of, position_at, need, Enough}
use Rattle.layout.specs.Stored.{Stored, Placed, Elsewhere}
use Rattle.turn.specs.Turned.{Turned, Good, Exact, Named, Fitting, Idle, Applied}
use Rattle.turn.specs.Visits.{visits_for, Visited, cost, allowed}
use Rattle.decide.specs.Visits.{looks, looks_most}
use Rattle.decide.proofs.Visits.{looks-most}
use Rattle.turn.proofs.Effects.{licensed_named, licensed_fitting, most, cheap}

-- ---- the checks' decision

module _ (s : State) (d : ℕ) where
  -- the visits before the effect are as many as it allows
  spare : (n : Name) (o : Operation) → looks_most n ≤ allowed (decided s d n o).effect
  unfolding decided load store derive delete revoke ring hear send receive look
  spare IDLE o = concluded (λ e. 0 ≤ allowed e) _ _ _ (omega arith) (λ h. omega arith)
  spare LOAD o = concluded (λ e. 1 ≤ allowed e) _ _ _ (omega arith) (λ h. omega arith)
  spare STORE o = concluded (λ e. 1 ≤ allowed e) _ _ _ (omega arith) (λ h. omega arith)
  spare DERIVE o = concluded (λ e. 2 ≤ allowed e) _ _ _ (omega arith) (λ h. omega arith)
  spare DELETE o = concluded (λ e. 1 ≤ allowed e) _ _ _ (omega arith) (λ h. omega arith)
  spare REVOKE o = concluded (λ e. 1 ≤ allowed e) _ _ _ (omega arith) (λ h. omega arith)
  spare RING o = concluded (λ e. 1 ≤ allowed e) _ _ _ (omega arith) (λ h. omega arith)
  spare HEAR o = concluded (λ e. 1 ≤ allowed e) _ _ _ (omega arith) (λ h. omega arith)
  spare SEND o = concluded (λ e. 2 ≤ allowed e) _ _ _ (omega arith) (λ h. omega arith)
  spare RECEIVE o = concluded (λ e. 3 ≤ allowed e) _ _ _ (omega arith) (λ h. either (moves s d (held s d o.first).object o.second))
    where
      either : (t : Bool) → 3 ≤ allowed (cond t (Move (held s d o.first).object (slot d o.second)) (Take (held s d o.first).object))
      either true = omega arith
      either false = omega arith
  spare LOOK o = concluded (λ e. 1 ≤ allowed e) _ _ _ (omega arith) (λ h. omega arith)
  spare unknown o = concluded (λ e. 0 ≤ allowed e) _ _ _ (omega arith) (λ h. omega arith)

  -- a refusal has no effect
  idle : (n : Name) (o : Operation) → ((decided s d n o).answer.status ≡ 0 → ⊥) → Idle (decided s d n o).effect
  unfolding decided load store derive delete revoke ring hear send receive look
  idle n o = by n
    where
      P : Effect → Answer → Type 0
      P e a = (a.status ≡ 0 → ⊥) → Idle e

      by : (n : Name) → P (decided s d n o).effect (decided s d n o).answer
      by IDLE = concluded_both P _ _ _ (λ k h. tt) (λ e h. absurd (h refl))
      by LOAD = concluded_both P _ _ _ (λ k h. tt) (λ e h. absurd (h refl))
      by STORE = concluded_both P _ _ _ (λ k h. tt) (λ e h. absurd (h refl))
      by DERIVE = concluded_both P _ _ _ (λ k h. tt) (λ e h. absurd (h refl))
      by DELETE = concluded_both P _ _ _ (λ k h. tt) (λ e h. absurd (h refl))
      by REVOKE = concluded_both P _ _ _ (λ k h. tt) (λ e h. absurd (h refl))
      by RING = concluded_both P _ _ _ (λ k h. tt) (λ e h. absurd (h refl))
      by HEAR = concluded_both P _ _ _ (λ k h. tt) (λ e h. absurd (h refl))
      by SEND = concluded_both P _ _ _ (λ k h. tt) (λ e h. absurd (h refl))
      by RECEIVE = concluded_both P _ _ _ (λ k h. tt) (λ e h. absurd (h refl))
      by LOOK = concluded_both P _ _ _ (λ k h. tt) (λ e h. absurd (h refl))
      by unknown = concluded_both P _ _ _ (λ k h. tt) (λ e h. absurd (h refl))

-- the checks and the effect together are within the limit
limit : (n : Name) → looks_most n + most n ≤ visits_for n
unfolding most
limit IDLE = omega arith
limit LOAD = omega arith
limit STORE = omega arith
limit DERIVE = omega arith
limit DELETE = omega arith
limit REVOKE = omega arith
limit RING = omega arith
limit HEAR = omega arith
limit SEND = omega arith
limit RECEIVE = omega arith
limit LOOK = omega arith
limit unknown = omega arith

-- ---- what apply asks, for the decision that the code came to

module _ (s : State) (d : ℕ) (o : Operation) {x : Decision} (e : x ≡ decide s d o) where
  pub apply-named : d < domains_most → Named x.effect
  apply-named h = subst (λ y. Named y.effect) (sym e) (licensed_named h (licensed s d o))

  pub apply-allowed : {j k : ℕ} → k ≡ looks s d (named o.number) o → j ≤ k → j ≤ allowed x.effect
  unfolding decide
  apply-allowed {j} h i = subst (λ y. j ≤ allowed y.effect) (sym e) (let g = spare s d (named o.number) o in let l = looks-most s d (named o.number) o in omega arith)

  effect-cost : cost x.effect ≤ most (named o.number)
  unfolding decide
  effect-cost = subst (λ y. cost y.effect ≤ most (named o.number)) (sym e) (cheap s d (named o.number) o)

  effect-idle : (x.answer.status ≡ 0 → ⊥) → Idle x.effect
  unfolding decide
  effect-idle = subst (λ y. (y.answer.status ≡ 0 → ⊥) → Idle y.effect) (sym e) (idle s d (named o.number) o)

-- ---- the turn

pub low : (w : ℕ) → w % 16 < domains_most
low w = mod-lt w (omega arith)

-- what the test of the memory's length told
pub enough_of : (m : List ℕ) {t : Bool} → t ≡ leb (need m) (length m) → t ≡ true → Enough m
enough_of m e h = leb-true (need m) (length m) (sym e ∙ h)

pub turned-short : {m : List ℕ} {o : Operation} {t : Bool} → t ≡ leb (need m) (length m) → t ≡ false → Turned m o m (refusal 29) 0
turned-short {m} {o} f e =
    let h = leb-false (need m) (length m) (sym f ∙ e) in
    record {
      long = refl;
      behind = λ k l. refl;
      within = omega arith;
      short = λ l. (refl, refl, refl);
      refused = λ n k l. refl;
      exact = λ g. absurd (let l = g.enough in omega arith);
    }

module _ (o : Operation) {m n₁ n : List ℕ} {x : Decision} {w k v : ℕ} (enough : Enough m) (who : w ≡ whose (state_of m))
    (e : x ≡ decide (state_of m) (w % 16) o) (looked : k ≡ looks (state_of m) (w % 16) (named o.number) o) (a : Applied m x.effect n₁ k v)
    (moved : Stored (Placed (state_of n₁)) advance n₁ n) (apart : Elsewhere position_at n₁ n) where
  exactly : Good m → Exact m o n x.answer v
  unfolding next answer
  exactly g =
      let d : w % 16 ≡ whose (state_of m) = (let l = whose-low g.formed in let h = g.formed.domains.1 in mod-eq_of_lt (omega arith) ∙ who) in
      let y : x ≡ decide (state_of m) (whose (state_of m)) o = e ∙ ap (λ z. decide (state_of m) z o) d in
      let f = x.effect in
      let fit : Fitting (state_of m) f =
      subst (λ z. Fitting (state_of m) z.effect) (sym e) (licensed_fitting g.formed g.section4 (low w) (licensed (state_of m) (w % 16) o)) in
      let one : state_of n₁ ≡ apply (state_of m) f = a.stored.exact fit in
      let fixed = apply_fixed (state_of m) f in
      let at : Placed (state_of n₁) =
      subst (λ s. Placed s) (sym one)
      (subst (λ p. p < length (apply (state_of m) f).turns) (sym fixed.1) (subst (λ t. (state_of m).position < length t) (sym fixed.0.turns) g.formed.position)) in
      let two : state_of n ≡ next (state_of m) o = moved.exact at ∙ (ap advance one ∙ ap (λ z. advance (apply (state_of m) z.effect)) y) in
      let again = sound_next (record { formed = g.formed; section4 = g.section4 }) o in
      record {
        state = two;
        answered = ap (λ z. z.answer) y;
        counted =
            subst (λ z. Visited (state_of m) z.effect (looks (state_of m) (whose (state_of m)) (named o.number) o) v) y
            (subst (λ z. Visited (state_of m) f z v) (looked ∙ ap (λ z. looks (state_of m) z (named o.number) o) d) (a.counted fit));
        good = record {
          enough = let p = a.stored.frames in let q = moved.frames in let r = a.stored.long in let t = moved.long in let u = g.enough in omega arith;
          formed = subst (λ s. Formed s) (sym two) again.formed;
          section4 = subst (λ s. Section4 s.capability) (sym two) again.section4;
        };
      }

  pub turned-done : Turned m o n x.answer v
  turned-done =
      record {
        long = moved.long ∙ a.stored.long;
        behind = λ j h. moved.behind j (let p = a.stored.frames in omega arith) ∙ a.stored.behind j h;
        within = let p = a.within in let q = effect-cost (state_of m) (w % 16) o e in let r = limit (named o.number) in let l = looks-most (state_of m) (w % 16) (named o.number) o in omega arith;
        short = λ l. absurd (let h = enough in omega arith);
        refused = λ h j l. apart j l ∙ ap (λ y. get_or y j 0) (a.still (effect-idle (state_of m) (w % 16) o e h));
        exact = exactly;
      }
