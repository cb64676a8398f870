-- Answers for `image::Index::of`. Assumes nothing.
use native.Mathlib.Omega.{arith}
use Rattle.image.proofs.Indexing.{fill_none, fill-turn, fill_end}
use Rattle.image.proofs.Index.of.Goals as goal

pub loop-i-init : goal.loop-i-init
loop-i-init c = rw c.requires.none (fill_none _ _ (omega arith))

pub loop-i-preserved : goal.loop-i-preserved
loop-i-preserved c = fill-turn _ _ _ _ _ (omega arith) c.loop-i.invariant c.place.ensures.0 c.place.ensures.1

pub invariant_of-result : goal.invariant_of-result
invariant_of-result c = record { formed = c.requires.formed; indexed = fill_end _ _ _ c.loop-i-test.false c.loop-i.invariant }
