-- Answers for `flow::Cells::round`. Assumes nothing.
use Rattle.flow.proofs.Reaching.{passed_none, passed_more, passed_end}
use borrow.Author.Rules.{rules}
use Rattle.flow.proofs.Cells.round.Goals as goal

pub loop-m-init : goal.loop-m-init
loop-m-init c = passed_none _ _

pub loop-m-preserved : goal.loop-m-preserved
loop-m-preserved c = search (rules, passed_more)

pub returns : goal.returns
returns c = search (rules, passed_end)
