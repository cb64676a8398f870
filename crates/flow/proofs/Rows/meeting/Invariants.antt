-- `flow::Rows::meeting`'s loop. The invariant: the mask has those of the rows below a that meet the other. Assumes nothing.
use Rattle.flow.specs.Masks.{Meeting}
use Rattle.flow.proofs.Rows.meeting.Given as goal

abbrev pub invariant-loop-a : goal.invariant-loop-a
invariant-loop-a l = Meeting l.self.0 l.mask l.a l.r
