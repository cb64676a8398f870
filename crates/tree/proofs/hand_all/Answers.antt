-- Answers for `tree::hand_all`. Assumes nothing.
use native.Mathlib.Omega.{arith}
use Rattle.std.proofs.Common.{rules}
use Rattle.tree.proofs.Dropping.{handed_none, handed_more}
use Rattle.tree.proofs.hand_all.Goals as goal

pub loop-child-init : goal.loop-child-init
loop-child-init c = (omega arith, omega arith, handed_none _ _ _)

pub loop-child-preserved : goal.loop-child-preserved
loop-child-preserved c = (search rules, search rules, search (rules, handed_more))
