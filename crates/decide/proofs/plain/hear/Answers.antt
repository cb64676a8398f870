-- Answers for `decide::plain::hear`. Assumes nothing.
use Rattle.rules.specs.Turn.{hear}
use Rattle.look.proofs.Checks.{looked_refused, looked_done}
use Rattle.decide.proofs.plain.hear.Goals as goal

pub returns-in_err-c : goal.returns-in_err-c
unfolding hear
returns-in_err-c c = looked_refused _ _ c.from_residual.ensures.1 c.in_err-c.ensures

pub returns : goal.returns
unfolding hear
returns c = looked_done _ _ c.in_ok-c.ensures (rw (← c.in_ok-c.ensures.capability, ← c.bell.ensures) c.done.ensures)
