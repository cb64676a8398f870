-- Answers for `image::fits`. Assumes nothing.
use Rattle.rules.specs.Image.{fitting}
use Rattle.rules.specs.State.{within}
use mathlib.Core.Path.{refl}
use Rattle.image.proofs.fits.Goals as goal

pub returns : goal.returns
unfolding fitting within
returns c = refl
