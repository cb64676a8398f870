-- Answers for `flow::Cells::reach`. Assumes nothing.
use Rattle.flow.proofs.Reaching.{passing_begun, passing_more, passing_end}
use borrow.Author.Rules.{rules}
use Rattle.flow.proofs.Cells.reach.Goals as goal

pub loop-before-init : goal.loop-before-init
loop-before-init c = search (rules, passing_begun)

pub loop-before-preserved : goal.loop-before-preserved
loop-before-preserved c = search (rules, passing_more)

pub returns : goal.returns
returns c = search (rules, passing_end)
