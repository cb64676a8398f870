-- `compose::gift::rights`' loop. The invariant: the rights are at most all three. Assumes nothing.
use Prim.Native.Nat.{◌≤◌}
use Rattle.compose.proofs.gift.rights.Given as goal

abbrev pub invariant-loop-letter : goal.invariant-loop-letter
invariant-loop-letter l = l.rights.0 ≤ 7
