-- `tree::mark_derived`'s loop. The invariant: there were no more sweeps than marks before the last of them, which the measure counts up to
-- the number of places. Assumes nothing.
use Prim.Native.Nat.{◌+◌, ◌-◌, ◌*◌, ◌≤◌}
use Rattle.rules.specs.Sizes.{places}
use Rattle.tree.specs.Tree.{places_of}
use Rattle.tree.specs.Sweeps.{root_mark}
use Rattle.tree.proofs.Marking.{Sweeping}
use Rattle.tree.proofs.Counting.{Searching}
use Rattle.tree.proofs.mark_derived.Given as goal

abbrev pub invariant-loop-before : goal.invariant-loop-before
invariant-loop-before l =
    (l.visits ≤ l.fn.visits + places * l.before) × Sweeping (places_of l.memory.words.now) l.p l.before l.found.count l.found.marks
    × Searching (places_of l.memory.words.now) (root_mark l.p) l.before l.found.count l.found.marks l.fn.visits l.visits

abbrev pub decreases-loop-before : goal.decreases-loop-before
decreases-loop-before l = places - l.before
