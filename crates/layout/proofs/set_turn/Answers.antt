-- Answers for `layout::set_turn`. Assumes nothing.
use mathlib.Core.Path.{refl}
use Rattle.layout.specs.Stored.{turning}
use Rattle.layout.proofs.set_turn.Goals as goal

pub returns : goal.returns
unfolding turning
returns c = refl
