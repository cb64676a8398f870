-- Answers for `flow::Rows::spread`. Assumes nothing.
use Rattle.flow.proofs.Spreading.{spread_none, spread_more, spread_end}
use borrow.Author.Rules.{rules}
use Rattle.flow.proofs.Rows.spread.Goals as goal

pub loop-a-init : goal.loop-a-init
loop-a-init c = spread_none _ _ _

pub loop-a-preserved : goal.loop-a-preserved
loop-a-preserved c = search (rules, spread_more)

pub returns : goal.returns
returns c = search (rules, spread_end)
