-- Answers for `layout::Memory::see`. Assumes nothing.
use Rattle.layout.proofs.Cells.{see_law}
use borrow.Author.Rules.{rules}
use Rattle.layout.proofs.Memory.see.Goals as goal

pub returns-clause-capability : goal.returns-clause-capability
returns-clause-capability c = see_law c.args.self.now.words.now c.args.p (search rules)
