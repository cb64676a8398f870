-- Answers for `layout::Memory::word`. Assumes nothing.
use native.Mathlib.Omega.{arith}
use Rattle.std.proofs.Common.{rules}
use Rattle.layout.proofs.Cells.{frames_law, word_in, word_outside}
use Rattle.layout.proofs.Memory.word.Goals as goal

pub bounds-self-word_at : goal.bounds-self-word_at
bounds-self-word_at c = omega (arith, frames_law c.args.self.now.words.now)

pub returns-then-w-lt-FRAME_WORDS : goal.returns-then-w-lt-FRAME_WORDS
returns-then-w-lt-FRAME_WORDS c = search (rules, word_in)

pub returns-else-f-self : goal.returns-else-f-self
returns-else-f-self c = word_outside _ _ _ c.else-f-self.either
