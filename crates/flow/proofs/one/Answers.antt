-- Answers for `flow::one`. Assumes nothing.
use native.Mathlib.Omega.{arith}
use lib.Pow.{shl_exact}
use Rattle.flow.proofs.one.Goals as goal

pub returns : goal.returns
returns c = omega (arith, shl_exact {a = 1} 1 c.args.d 32 (omega arith) (omega arith))
