-- Answers for `flow::Cells::users`. Assumes nothing.
use Rattle.flow.proofs.Closure.{users_law}
use borrow.Author.Rules.{rules}
use Rattle.flow.proofs.Cells.users.Goals as goal

pub returns : goal.returns
returns c = search (rules, users_law)
