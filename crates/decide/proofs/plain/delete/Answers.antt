-- Answers for `decide::plain::delete`. Assumes nothing.
use Rattle.rules.specs.Turn.{delete}
use Rattle.look.proofs.Checks.{looked_refused, looked_done}
use Rattle.decide.proofs.plain.delete.Goals as goal

pub returns-in_err-any_slot : goal.returns-in_err-any_slot
unfolding delete
returns-in_err-any_slot c = looked_refused _ _ c.from_residual.ensures.1 c.in_err-any_slot.ensures

pub returns : goal.returns
unfolding delete
returns c = looked_done _ _ c.in_ok-any_slot.ensures c.done.ensures
