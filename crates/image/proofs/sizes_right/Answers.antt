-- Answers for `image::sizes_right`. Assumes nothing.
use Rattle.rules.specs.Image.{right_sizes, between}
use Rattle.image.proofs.sizes_right.Goals as goal

pub returns : goal.returns
unfolding right_sizes between
returns c = cc
