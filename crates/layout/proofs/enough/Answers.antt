-- Answers for `layout::enough`. Assumes nothing.
use Rattle.layout.proofs.Cells.{enough_law}
use Rattle.layout.proofs.enough.Goals as goal

pub returns-then-mem-ge-FRAMES : goal.returns-then-mem-ge-FRAMES
returns-then-mem-ge-FRAMES c = rw c.words_for.ensures (enough_law c.args.mem.now)
