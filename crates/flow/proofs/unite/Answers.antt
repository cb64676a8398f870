-- Answers for `flow::unite`. Assumes nothing.
use Rattle.flow.proofs.Spreading.{united-past, united_more}
use borrow.Author.Rules.{rules}
use Rattle.flow.proofs.unite.Goals as goal

pub returns-then-digit-eq1 : goal.returns-then-digit-eq1
returns-then-digit-eq1 c = search (rules, united_more)

pub returns : goal.returns
returns c = search (rules, united-past)
