-- Answers for `layout::set_head`. Assumes nothing.
use mathlib.Core.Path.{refl}
use Rattle.layout.specs.Stored.{headed}
use Rattle.layout.proofs.set_head.Goals as goal

pub returns : goal.returns
unfolding headed
returns c = refl
