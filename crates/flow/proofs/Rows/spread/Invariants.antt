-- `flow::Rows::spread`'s loop. The invariant: the rows below a have taken the mask in where they are chosen. Assumes nothing.
use Rattle.flow.specs.Masks.{Spread}
use Rattle.flow.proofs.Rows.spread.Given as goal

abbrev pub invariant-loop-a : goal.invariant-loop-a
invariant-loop-a l = Spread l.which l.what l.a l.initial.self.0 l.self.0
