-- Answers for `tree::mark_derived`. Assumes nothing.
use native.Mathlib.Omega.{arith}
use Rattle.std.proofs.Common.{rules}
use Rattle.tree.proofs.Marking.{sweeping_begun, sweeping_more}
use Rattle.tree.proofs.Counting.{searching_begun, searching_more, searching_end}
use Rattle.tree.proofs.mark_derived.Goals as goal

pub loop-before-init : goal.loop-before-init
loop-before-init c = (
  omega arith,
  rw (c.root-found.ensures.count, c.root-found.ensures.marks) (sweeping_begun _ _ c.requires.p_in_range),
  rw (c.root-found.ensures.count, c.root-found.ensures.marks) (searching_begun _ 0 1 (omega arith)),
)

pub loop-before-preserved : goal.loop-before-preserved
loop-before-preserved c = (search rules, search sweeping_more, search (searching_more, arith))

pub returns-clause-searched : goal.returns-clause-searched
returns-clause-searched c = search (rules, searching_end)
