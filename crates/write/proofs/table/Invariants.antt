-- `write::table`'s loop. The invariant: the first k turns are written. Assumes nothing.
use mathlib.Core.Path.{◌≡◌}
use mathlib.Core.List.{map}
use lib.ListN.{take}
use Rattle.layout.specs.Layout.{state_of}
use Rattle.write.specs.Laid.{low}
use Rattle.write.proofs.table.Given as goal

abbrev pub invariant-loop-k : goal.invariant-loop-k
invariant-loop-k l = take l.k l.turns ≡ map low (take l.k (state_of l.memory.words.now).turns)
