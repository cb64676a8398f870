-- `flow::Rows::total`'s loop. The invariant: t is the sum of the rows before this one. Assumes nothing.
use mathlib.Core.Path.{◌≡◌}
use Prim.Native.Nat.{◌*◌, ◌≤◌}
use Rattle.flow.specs.Masks.{sums}
use Rattle.flow.proofs.Rows.total.Given as goal

abbrev pub invariant-loop-row : goal.invariant-loop-row
invariant-loop-row l = (l.t ≤ 4294967295 * l.row-index) × (l.t ≡ sums l.self.0 l.row-index)
