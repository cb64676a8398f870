-- Answers for `flow::Rows::take`. Assumes nothing.
use Rattle.flow.proofs.Spreading.{take_past, take_more}
use borrow.Author.Rules.{rules}
use Rattle.flow.proofs.Rows.take.Goals as goal

pub returns-then-digit-eq1 : goal.returns-then-digit-eq1
returns-then-digit-eq1 c = search (rules, take_more)

pub returns-else-digit-eq1 : goal.returns-else-digit-eq1
returns-else-digit-eq1 c = search (rules, take_past)
