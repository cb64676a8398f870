-- Answers for `layout::Memory::source_of`. Assumes nothing.
use Rattle.layout.proofs.Cells.{source_law}
use borrow.Author.Rules.{rules}
use Rattle.layout.proofs.Memory.source_of.Goals as goal

pub returns-clause-source : goal.returns-clause-source
returns-clause-source c = search (rules, source_law)
