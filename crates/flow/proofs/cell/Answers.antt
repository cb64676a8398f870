-- Answers for `flow::cell`. Assumes nothing.
use native.Mathlib.Omega.{arith}
use Rattle.flow.specs.Cells.{cell_of}
use Rattle.flow.proofs.cell.Goals as goal

pub returns : goal.returns
unfolding cell_of
returns c = omega arith
