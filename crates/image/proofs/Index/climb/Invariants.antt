-- `image::Index::climb`'s loop. Assumes nothing.
use Rattle.image.specs.Sources.{given_by}
use Rattle.image.proofs.Marks.{Climbing, zeros}
use Rattle.image.proofs.Index.climb.Given as goal

abbrev pub invariant-loop-marks : goal.invariant-loop-marks
invariant-loop-marks l = Climbing (given_by l.self.image.bytes.now) l.initial.marks l.from l.mark l.p l.marks

abbrev pub decreases-loop-marks : goal.decreases-loop-marks
decreases-loop-marks l = zeros l.marks
