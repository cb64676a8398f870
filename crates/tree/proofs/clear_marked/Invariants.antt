-- `tree::clear_marked`'s loop. The invariant: each place below q that is to be empty is, at a visit to each. Assumes nothing.
use mathlib.Core.Path.{◌≡◌}
use Prim.Native.Nat.{◌+◌, ◌≤◌}
use Rattle.rules.specs.Sizes.{places}
use Rattle.layout.specs.Stored.{Stored}
use Rattle.tree.specs.Marks.{to_empty, emptying}
use Rattle.tree.proofs.clear_marked.Given as goal

abbrev pub invariant-loop-q : goal.invariant-loop-q
invariant-loop-q l =
    (l.q ≤ places) × (l.visits ≡ l.fn.visits + to_empty l.found.marks l.p l.q) × Stored Unit (emptying l.q l.found.marks l.p) l.fn.mem l.mem
