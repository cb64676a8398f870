-- `flow::Cells::reach`'s loop. The measure is what the sum before the last round is below its greatest. Assumes nothing.
use Prim.Native.Nat.{◌-◌, ◌*◌, ◌≤◌}
use Rattle.flow.proofs.Reaching.{Passing}
use Rattle.flow.proofs.Cells.reach.Given as goal

abbrev pub invariant-loop-before : goal.invariant-loop-before
invariant-loop-before l = (l.after ≤ 4294967295 * 16) × Passing l.self.0 l.before l.after l.rows.0

abbrev pub decreases-loop-before : goal.decreases-loop-before
decreases-loop-before l = 4294967295 * 16 - l.before
