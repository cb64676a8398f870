-- Answers for `image::length_right`. Assumes nothing.
use Rattle.rules.specs.Image.{right_length, length_for}
use Rattle.image.proofs.length_right.Goals as goal

pub returns : goal.returns
unfolding right_length length_for
returns c = cc
