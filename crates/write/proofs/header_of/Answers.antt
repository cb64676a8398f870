-- Answers for `write::header_of`. Assumes nothing.
use native.Mathlib.Omega.{arith}
use Rattle.layout.specs.Layout.{state_of}
use Rattle.write.proofs.Filling.{in-range, headed}
use Rattle.write.proofs.header_of.Goals as goal

pub overflow_mul-head : goal.overflow_mul-head
overflow_mul-head c = let r = in-range _ c.requires in omega (arith, c.head-head.ensures.domains)

pub count-requires : goal.count-requires
count-requires c = let r = in-range _ c.requires in record { n_in_range = omega (arith, c.head-head.ensures.domains) }

pub returns : goal.returns
returns c = headed (state_of c.args.memory.now.words.now) c.requires c.head-head.ensures c.count.ensures
