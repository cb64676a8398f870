-- Answers for `flow::Cells::links`. Assumes nothing.
use Rattle.flow.proofs.Closure.{added_none, added_more, added_end}
use borrow.Author.Rules.{rules}
use Rattle.flow.proofs.Cells.links.Goals as goal

pub loop-o-init : goal.loop-o-init
loop-o-init c = added_none _

pub loop-o-preserved : goal.loop-o-preserved
loop-o-preserved c = search (rules, added_more)

pub returns : goal.returns
returns c = search (rules, added_end)
