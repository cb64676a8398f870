-- Answers for `flow::Cells::pass`. Assumes nothing.
use Rattle.flow.proofs.Reaching.{pass_law}
use borrow.Author.Rules.{rules}
use Rattle.flow.proofs.Cells.pass.Goals as goal

pub returns : goal.returns
returns c = search (rules, pass_law)
