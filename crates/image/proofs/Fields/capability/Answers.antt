-- Answers for `image::Fields::capability`. Assumes nothing.
use Rattle.rules.specs.Image.{capability_given}
use borrow.Author.Rules.{rules}
use Rattle.image.proofs.Fields.capability.Goals as goal

pub returns : goal.returns
unfolding capability_given
returns c = (cc, search rules)
