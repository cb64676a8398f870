-- Answers for `layout::move_on`. Assumes nothing.
use Rattle.layout.proofs.Stores.{position_law, elsewhere-set}
use borrow.Author.Rules.{rules}
use Rattle.layout.proofs.move_on.Goals as goal

pub returns : goal.returns
returns c = (search (rules, position_law), λ k h. search elsewhere-set)
