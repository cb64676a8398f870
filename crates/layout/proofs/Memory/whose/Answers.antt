-- Answers for `layout::Memory::whose`. Assumes nothing.
use Rattle.std.proofs.Common.{rules}
use Rattle.layout.proofs.Cells.{whose_law}
use Rattle.layout.proofs.Memory.whose.Goals as goal

pub returns : goal.returns
returns c = search (rules, whose_law)
