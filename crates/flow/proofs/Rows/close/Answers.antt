-- Answers for `flow::Rows::close`. Assumes nothing.
use Rattle.flow.proofs.Closure.{closing_none, closing_more, closing_end}
use borrow.Author.Rules.{rules}
use Rattle.flow.proofs.Rows.close.Goals as goal

pub loop-k-init : goal.loop-k-init
loop-k-init c = closing_none _

pub loop-k-preserved : goal.loop-k-preserved
loop-k-preserved c = search (rules, closing_more)

pub returns : goal.returns
returns c = search (rules, closing_end)
