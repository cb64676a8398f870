-- Answers for `layout::Memory::turn_at`. Assumes nothing.
use Rattle.std.proofs.Common.{rules}
use Rattle.layout.proofs.Cells.{turn_at, turn_outside}
use Rattle.layout.proofs.Memory.turn_at.Goals as goal

pub returns-then-i-lt-TURNS_MOST : goal.returns-then-i-lt-TURNS_MOST
returns-then-i-lt-TURNS_MOST c = search (rules, turn_at)

pub returns-else-i-self : goal.returns-else-i-self
returns-else-i-self c = turn_outside _ _ c.else-i-self.either
