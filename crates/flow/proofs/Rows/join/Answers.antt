-- Answers for `flow::Rows::join`. Assumes nothing.
use Rattle.flow.proofs.Closure.{joined_law}
use borrow.Author.Rules.{rules}
use Rattle.flow.proofs.Rows.join.Goals as goal

pub returns : goal.returns
returns c = search (rules, joined_law)
