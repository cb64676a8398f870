-- `boot::entries`'s loop. The invariant: memory has the entries below i. Assumes nothing.
use Rattle.boot.specs.Booted.{Entered}
use Rattle.boot.proofs.entries.Given as goal

abbrev pub invariant-loop-i : goal.invariant-loop-i
invariant-loop-i l = Entered l.accepted.image.bytes.now l.initial.mem l.mem l.i
