-- `image::Index::ends`'s loop. Assumes nothing.
use Rattle.image.proofs.Marks.{Passed}
use Rattle.image.proofs.Index.ends.Given as goal

abbrev pub invariant-loop-i : goal.invariant-loop-i
invariant-loop-i l = Passed l.self.image.bytes.now l.i l.marks
