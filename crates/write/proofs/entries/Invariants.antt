-- `write::entries`'s loop. The invariant: the entries of the places below p are written. Assumes nothing.
use Rattle.layout.specs.Layout.{state_of}
use Rattle.write.proofs.Entering.{Entered}
use Rattle.write.proofs.entries.Given as goal

abbrev pub invariant-loop-p : goal.invariant-loop-p
invariant-loop-p l = Entered (state_of l.memory.words.now).capability l.p l.at l.bytes
