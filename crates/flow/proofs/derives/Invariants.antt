-- `flow::derives`'s loop. The invariant: the rows have the direct flow of the entries below e. Assumes nothing.
use Rattle.flow.specs.Edges.{Source, Added}
use Rattle.flow.proofs.derives.Given as goal

abbrev pub invariant-loop-e : goal.invariant-loop-e
invariant-loop-e l = Added (Source l.accepted.image.bytes.now) 0 l.e l.initial.flows.0 l.flows.0
