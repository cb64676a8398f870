-- `flow::Cells::round`'s loop. The invariant: the mailboxes below m were gone through. Assumes nothing.
use Rattle.flow.specs.Cells.{Passed}
use Rattle.flow.proofs.Cells.round.Given as goal

abbrev pub invariant-loop-m : goal.invariant-loop-m
invariant-loop-m l = Passed l.self.0 0 l.m l.initial.rows.0 l.rows.0
