-- Answers for `decide::plain::load`. Assumes nothing.
use Rattle.rules.specs.Turn.{load}
use Rattle.look.proofs.Checks.{looked_refused, looked_done}
use Rattle.decide.proofs.plain.load.Goals as goal

pub returns-in_err-c : goal.returns-in_err-c
unfolding load
returns-in_err-c c = looked_refused _ _ c.from_residual.ensures.1 c.in_err-c.ensures

pub returns : goal.returns
unfolding load
returns c = looked_done _ _ c.in_ok-c.ensures (rw (← c.in_ok-c.ensures.capability, ← c.word.ensures) c.done.ensures)
