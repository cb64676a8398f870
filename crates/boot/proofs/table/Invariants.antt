-- `boot::table`'s loop. The invariant: memory has the turns below i. Assumes nothing.
use Rattle.boot.specs.Booted.{Tabled}
use Rattle.boot.proofs.table.Given as goal

abbrev pub invariant-loop-i : goal.invariant-loop-i
invariant-loop-i l = Tabled l.accepted.image.bytes.now l.initial.mem l.mem l.i
