-- Answers for `image::Index::ends`. Assumes nothing.
use Rattle.image.proofs.Marks.{pass_none, pass-turn, pass-stop, pass_end}
use borrow.Author.Rules.{rules}
use Rattle.image.proofs.Index.ends.Goals as goal

pub loop-i-init : goal.loop-i-init
loop-i-init c = search (rules, pass_none)

pub returns-then-not-climb : goal.returns-then-not-climb
returns-then-not-climb c = search (rules, pass-stop)

pub loop-i-preserved : goal.loop-i-preserved
loop-i-preserved c = search (rules, pass-turn)

pub returns : goal.returns
returns c = search (rules, pass_end)
