-- Answers for `image::Header::entries_at`. Assumes nothing.
use Rattle.rules.specs.Image.{entries_at, padded}
use native.Mathlib.Omega.{arith}
use Rattle.image.proofs.Header.entries_at.Goals as goal

pub returns : goal.returns
unfolding entries_at padded
returns c = omega arith
