-- `flow::Rows::close`'s loop. The invariant: the rows are transitive over each domain below k. Assumes nothing.
use Rattle.flow.specs.Edges.{Closing}
use Rattle.flow.proofs.Rows.close.Given as goal

abbrev pub invariant-loop-k : goal.invariant-loop-k
invariant-loop-k l = Closing l.k l.initial.self.0 l.self.0
