-- Answers for `decide::plain::derive`. Assumes nothing.
use native.Mathlib.Omega.{arith}
use Rattle.std.proofs.lemmas.Result.{err_from_is_err_and}
use Rattle.rules.specs.Turn.{derive}
use Rattle.look.proofs.Checks.{checks, is_done, is_refused}
use Rattle.look.proofs.Visits.{seen_most}
use Rattle.decide.proofs.Visits.{derive-refused, derive_no, derive_yes}
use Rattle.decide.proofs.plain.derive.Goals as goal

pub returns-in_err-c : goal.returns-in_err-c
unfolding derive
returns-in_err-c c =
    let p = err_from_is_err_and c.from_residual.result c.from_residual.ensures.1 in
    let l = c.in_err-c.ensures in
    rw (p.1, p.2) (is_refused _ _ _ _ (search checks) (derive-refused _ _ l))

pub returns-then-t-ge-SLOTS : goal.returns-then-t-ge-SLOTS
unfolding derive
returns-then-t-ge-SLOTS c = let l = c.in_ok-c.ensures in is_refused _ _ _ _ (search checks) (derive_no _ l c.if-t-ge-SLOTS.true)

pub see-requires-clause-visits_left : goal.see-requires-clause-visits_left
see-requires-clause-visits_left c = let v = c.in_ok-c.ensures.visits in omega (arith, seen_most c.args.x)

pub returns-then-see-ne0 : goal.returns-then-see-ne0
unfolding derive
returns-then-see-ne0 c =
    let l = c.in_ok-c.ensures in is_refused _ _ _ _ (search checks) (derive_yes _ _ l c.if-t-ge-SLOTS.false c.see.ensures.visits)

pub returns-then-b-gt-BADGE_MOST : goal.returns-then-b-gt-BADGE_MOST
unfolding derive
returns-then-b-gt-BADGE_MOST c =
    let l = c.in_ok-c.ensures in is_refused _ _ _ _ (search checks) (derive_yes _ _ l c.if-t-ge-SLOTS.false c.see.ensures.visits)

pub returns : goal.returns
unfolding derive
returns c =
    let l = c.in_ok-c.ensures in
    let h = l.capability in
    is_done _ _ _ (search checks) (rw (← h, ← c.derived-made.ensures) c.done.ensures)
    (derive_yes _ _ l c.if-t-ge-SLOTS.false c.see.ensures.visits)
