-- Answers for `image::Index::climb`. Assumes nothing.
use Rattle.image.proofs.Marks.{zeros_fewer, climb_start, climb_on, climb_top, climb_met}
use borrow.Author.Rules.{rules}
use Rattle.image.proofs.Index.climb.Goals as goal

pub loop-marks-init : goal.loop-marks-init
loop-marks-init c = search (rules, climb_start)

pub returns-then-source-eq0 : goal.returns-then-source-eq0
returns-then-source-eq0 c = search (rules, climb_top)

pub loop-marks-smaller : goal.loop-marks-smaller
loop-marks-smaller c = search (rules, zeros_fewer)

pub loop-marks-preserved : goal.loop-marks-preserved
loop-marks-preserved c = search (rules, climb_on)

pub returns : goal.returns
returns c = search (rules, climb_met)
