-- Answers for `image::Image::place`. Assumes nothing.
use mathlib.Core.Path.{refl}
use native.Mathlib.Omega.{arith}
use Rattle.image.proofs.Indexing.{place_law}
use Rattle.image.proofs.Image.place.Goals as goal

pub returns : goal.returns
returns c = place_law _ _ _ _ _ c.requires.formed (omega arith) refl c.entry.ensures.exact c.place.ensures
