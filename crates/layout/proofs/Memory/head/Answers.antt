-- Answers for `layout::Memory::head`. Assumes nothing.
use Rattle.layout.proofs.Cells.{head_read}
use Rattle.layout.proofs.Memory.head.Goals as goal

pub returns : goal.returns
returns c = search head_read
