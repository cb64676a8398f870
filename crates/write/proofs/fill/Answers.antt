-- Answers for `write::fill`. Assumes nothing.
use borrow.Author.Rules.{rules}
use native.Mathlib.Omega.{arith}
use Rattle.write.proofs.Filling.{filled}
use Rattle.write.proofs.fill.Goals as goal

pub returns : goal.returns
returns c = filled _ _ c.requires.ready (search rules) c.table.ensures (c.fill.ensures.after (λ y e. e)) (omega arith) c.entries.ensures
