-- Answers for `flow::Rows::total`. Assumes nothing.
use Rattle.flow.proofs.Spreading.{sums_none, sums_more}
use borrow.Author.Rules.{rules}
use Rattle.flow.proofs.Rows.total.Goals as goal

pub loop-row-init : goal.loop-row-init
loop-row-init c = (search rules, sums_none _)

pub loop-row-preserved : goal.loop-row-preserved
loop-row-preserved c = (search rules, rw c.from-t.ensures (sums_more _ _ _ c.loop-row.invariant.1))
