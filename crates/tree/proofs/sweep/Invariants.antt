-- `tree::sweep`'s loop. The invariant: the places below `to` have been visited once each. Assumes nothing.
use mathlib.Core.Path.{◌≡◌}
use Prim.Native.Nat.{◌+◌, ◌≤◌}
use Rattle.rules.specs.Sizes.{places}
use Rattle.tree.specs.Tree.{places_of}
use Rattle.tree.specs.Marks.{Swept}
use Rattle.tree.specs.Sweeps.{marks_to}
use Rattle.tree.proofs.sweep.Given as goal

abbrev pub invariant-loop-to : goal.invariant-loop-to
invariant-loop-to l =
    (l.to ≤ places) × (l.visits ≡ l.fn.visits + l.to)
    × Swept (places_of l.memory.words.now) 0 l.to l.fn.found.count l.fn.found.marks l.found.count l.found.marks
    × (l.found.marks ≡ marks_to (places_of l.memory.words.now) l.to l.fn.found.marks)
