-- `flow::united`'s loop. The invariant: the mask has what those of the cells below k that are chosen have. Assumes nothing.
use Rattle.flow.specs.Masks.{United}
use Rattle.flow.proofs.united.Given as goal

abbrev pub invariant-loop-k : goal.invariant-loop-k
invariant-loop-k l = United l.cells l.first l.k l.which l.r
