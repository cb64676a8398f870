-- Answers for `decide::plain::ring`. Assumes nothing.
use Rattle.rules.specs.Turn.{ring}
use Rattle.look.proofs.Checks.{looked_refused, looked_done}
use Rattle.decide.proofs.plain.ring.Goals as goal

pub returns-in_err-c : goal.returns-in_err-c
unfolding ring
returns-in_err-c c = looked_refused _ _ c.from_residual.ensures.1 c.in_err-c.ensures

pub returns : goal.returns
unfolding ring
returns c = looked_done _ _ c.in_ok-c.ensures (rw (← c.in_ok-c.ensures.capability) c.done.ensures)
