-- Answers for `tree::clear_marked`. Assumes nothing.
use native.Mathlib.Omega.{arith}
use Rattle.std.proofs.Common.{rules}
use Rattle.tree.proofs.Pruning.{emptied_none, emptied_more, visits_none, visits_more, visits-below}
use Rattle.tree.proofs.clear_marked.Goals as goal

pub loop-q-init : goal.loop-q-init
loop-q-init c = (omega arith, visits_none _ _ _, emptied_none _ _ _)

pub clear-requires-clause-visits_left : goal.clear-requires-clause-visits_left
clear-requires-clause-visits_left c = search (rules, visits-below)

pub loop-q-preserved : goal.loop-q-preserved
loop-q-preserved c = (search rules, search visits_more, search emptied_more)
