-- `image::Index::of`'s loop. Assumes nothing.
use Rattle.image.proofs.Indexing.{Filled}
use Rattle.image.proofs.Index.of.Given as goal

abbrev pub invariant-loop-i : goal.invariant-loop-i
invariant-loop-i l = Filled l.image.bytes.now l.i l.numbers
