-- `tree::hand_all`'s loop. The invariant: each place below child has been visited once and has its new source. Assumes nothing.
use mathlib.Core.Path.{◌≡◌}
use Prim.Native.Nat.{◌+◌, ◌≤◌}
use Rattle.rules.specs.Sizes.{places}
use Rattle.layout.specs.Stored.{Stored}
use Rattle.tree.specs.Tree.{handing}
use Rattle.tree.proofs.hand_all.Given as goal

abbrev pub invariant-loop-child : goal.invariant-loop-child
invariant-loop-child l = (l.child ≤ places) × (l.visits ≡ l.fn.visits + l.child) × Stored Unit (handing l.child l.x l.y) l.fn.mem l.mem
