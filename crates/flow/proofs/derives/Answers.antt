-- Answers for `flow::derives`. Assumes nothing.
use Rattle.flow.proofs.Closure.{added_none, added_more, added_last}
use borrow.Author.Rules.{rules}
use Rattle.flow.proofs.derives.Goals as goal

pub loop-e-init : goal.loop-e-init
loop-e-init c = added_none _

pub loop-e-preserved : goal.loop-e-preserved
loop-e-preserved c = search (rules, added_more)

pub returns : goal.returns
returns c = search (rules, added_last)
