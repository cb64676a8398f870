-- Answers for `layout::hand_over`. Assumes nothing.
use Rattle.layout.proofs.Stores.{hand_law}
use borrow.Author.Rules.{rules}
use Rattle.layout.proofs.hand_over.Goals as goal

pub returns-clause-stored : goal.returns-clause-stored
returns-clause-stored c = search (rules, hand_law)
