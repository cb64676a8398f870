-- Answers for `tree::sweep`. Assumes nothing.
use native.Mathlib.Omega.{arith}
use Rattle.std.proofs.Common.{rules}
use Rattle.tree.proofs.Marking.{swept_none, swept_more}
use Rattle.tree.proofs.Counting.{marks_none, marks_more}
use Rattle.tree.proofs.sweep.Goals as goal

pub loop-to-init : goal.loop-to-init
loop-to-init c = (omega arith, omega arith, swept_none _ c.args.found.now.right, marks_none _ _)

pub loop-to-preserved : goal.loop-to-preserved
loop-to-preserved c = (search rules, search rules, search swept_more, search marks_more)
