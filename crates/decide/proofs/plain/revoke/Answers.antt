-- Answers for `decide::plain::revoke`. Assumes nothing.
use Rattle.rules.specs.Turn.{revoke}
use Rattle.look.proofs.Checks.{looked_refused, looked_done}
use Rattle.decide.proofs.plain.revoke.Goals as goal

pub returns-in_err-any_slot : goal.returns-in_err-any_slot
unfolding revoke
returns-in_err-any_slot c = looked_refused _ _ c.from_residual.ensures.1 c.in_err-any_slot.ensures

pub returns : goal.returns
unfolding revoke
returns c = looked_done _ _ c.in_ok-any_slot.ensures c.done.ensures
