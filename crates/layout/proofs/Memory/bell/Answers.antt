-- Answers for `layout::Memory::bell`. Assumes nothing.
use Rattle.layout.proofs.Cells.{bell_at, bell-past}
use borrow.Author.Rules.{rules}
use Rattle.layout.proofs.Memory.bell.Goals as goal

pub returns-then-b-lt-BELLS : goal.returns-then-b-lt-BELLS
returns-then-b-lt-BELLS c = search (rules, bell_at)

pub returns-else-b-lt-BELLS : goal.returns-else-b-lt-BELLS
returns-else-b-lt-BELLS c = search (rules, bell-past)
