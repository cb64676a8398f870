-- `flow::Cells::links`'s loop. The invariant: the rows have the direct flow over the objects below o. Assumes nothing.
use Rattle.flow.specs.Edges.{Link, Added}
use Rattle.flow.proofs.Cells.links.Given as goal

abbrev pub invariant-loop-o : goal.invariant-loop-o
invariant-loop-o l = Added (Link l.self.0 l.rows.0) 0 l.o l.initial.flows.0 l.flows.0
