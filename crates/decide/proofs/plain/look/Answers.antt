-- Answers for `decide::plain::look`. Assumes nothing.
use Rattle.rules.specs.Turn.{look}
use Rattle.look.proofs.Checks.{looked_refused, looked_done}
use Rattle.decide.proofs.plain.look.Goals as goal

pub returns-in_err-c : goal.returns-in_err-c
unfolding look
returns-in_err-c c = looked_refused _ _ c.from_residual.ensures.1 c.in_err-c.ensures

pub returns : goal.returns
unfolding look
returns c = looked_done _ _ c.in_ok-c.ensures (rw (← c.in_ok-c.ensures.capability, c.of.ensures))
