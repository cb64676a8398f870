-- Answers for `mail::receive`. Assumes nothing.
use native.Mathlib.Omega.{arith}
use Rattle.std.proofs.lemmas.Result.{err_from_is_err_and}
use Rattle.rules.specs.Turn.{receive}
use Rattle.look.proofs.Checks.{checks, is_done}
use Rattle.look.proofs.Visits.{seen_most}
use Rattle.mail.proofs.Laws.{full-low, receive-refused, receive-taken, effect_taken, flag_taken}
use Rattle.mail.proofs.receive.Goals as goal

pub returns-in_err-m : goal.returns-in_err-m
returns-in_err-m c =
    let p = err_from_is_err_and c.from_residual.result c.from_residual.ensures.1 in
    let l = c.in_err-m.ensures in
    rw (p.1, p.2) (receive-refused _ _ _ _ _ _ _ (search checks) l.visits)

pub returns-then-t-gt-SLOTS : goal.returns-then-t-gt-SLOTS
returns-then-t-gt-SLOTS c = let l = c.in_ok-m.ensures in receive-refused _ _ _ _ _ _ _ (search checks) l.visits

pub returns-then-g-eq0 : goal.returns-then-g-eq0
returns-then-g-eq0 c =
    let l = c.in_ok-m.ensures in
    let h = l.capability in
    receive-refused _ _ _ _ _ _ _ (search checks) l.visits

pub moves_to-requires-clause-m_in_range : goal.moves_to-requires-clause-m_in_range
moves_to-requires-clause-m_in_range c = full-low _ _ _ c.if-g-eq0.false c.message-g.ensures

pub moves_to-requires-clause-visits_left : goal.moves_to-requires-clause-visits_left
moves_to-requires-clause-visits_left c = let v = c.in_ok-m.ensures.visits in omega (arith, seen_most c.args.x)

pub returns : goal.returns
unfolding receive
returns c =
    let l = c.in_ok-m.ensures in
    let h = l.capability in
    let m = c.moves_to.ensures in
    is_done _ _ _ (search checks)
    (rw (← h, ← c.message-g.ensures, ← effect_taken m, ← flag_taken m, c.taken-effect.ensures.0, c.of.ensures, c.taken-effect.ensures.1))
    (receive-taken l (search checks) m)
