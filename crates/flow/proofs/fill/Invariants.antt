-- `flow::fill`'s loop. The invariant: the bytes below k are 1 or 0 by the test. Assumes nothing.
use Rattle.flow.specs.Answer.{Tested}
use Rattle.flow.proofs.fill.Given as goal

abbrev pub invariant-loop-k : goal.invariant-loop-k
invariant-loop-k g l = Tested (goal.F-post g l.test) l.n l.k l.initial.byte-items l.byte-items
