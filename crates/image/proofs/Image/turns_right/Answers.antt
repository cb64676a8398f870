-- Answers for `image::Image::turns_right`. Assumes nothing.
use Rattle.image.proofs.Form.{turns_law}
use borrow.Author.Rules.{rules}
use Rattle.image.proofs.Image.turns_right.Goals as goal

pub returns : goal.returns
returns c = search (rules, turns_law)
