-- Answers for `tree::root`. Assumes nothing.
use mathlib.Core.Path.{refl}
use Rattle.tree.specs.Sweeps.{root_mark}
use Rattle.tree.proofs.Marking.{root_marks}
use Rattle.tree.proofs.root.Goals as goal

pub invariant_of-found : goal.invariant_of-found
unfolding root_mark
invariant_of-found c = record { right = root_marks _ c.requires.p_in_range }

pub returns-clause-marks : goal.returns-clause-marks
unfolding root_mark
returns-clause-marks c = refl
