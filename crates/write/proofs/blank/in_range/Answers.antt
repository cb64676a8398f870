-- Answers for `write::blank::in_range`. Assumes nothing.
use mathlib.Core.Path.{refl}
use Rattle.rules.specs.Image.{between}
use Rattle.write.proofs.blank.in_range.Goals as goal

pub returns : goal.returns
unfolding between
returns c = refl
