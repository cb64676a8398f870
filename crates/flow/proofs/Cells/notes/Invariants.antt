-- `flow::Cells::notes`'s loop. The invariant: the cells have the entries below i. Assumes nothing.
use Rattle.flow.specs.Cells.{Noted}
use Rattle.flow.proofs.Cells.notes.Given as goal

abbrev pub invariant-loop-i : goal.invariant-loop-i
invariant-loop-i l = Noted l.accepted.image.bytes.now l.i l.self.0
