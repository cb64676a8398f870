-- Answers for `layout::set_word`. Assumes nothing.
use native.Mathlib.Omega.{arith}
use mathlib.Core.Logic.{⊎_elim}
use Rattle.std.proofs.Common.{rules}
use Rattle.layout.proofs.Stores.{word_law, stored-nothing}
use Rattle.layout.proofs.Cells.{frames_law}
use Rattle.layout.proofs.set_word.Goals as goal

pub bounds-mem-word_at : goal.bounds-mem-word_at
bounds-mem-word_at c = omega (arith, frames_law c.args.mem.now)

pub returns-then-w-lt-FRAME_WORDS : goal.returns-then-w-lt-FRAME_WORDS
returns-then-w-lt-FRAME_WORDS c = search (rules, word_law)

pub returns-else-f-mem : goal.returns-else-f-mem
returns-else-f-mem c =
    stored-nothing (λ o. ⊎_elim (λ b. let h = b.1 in let g = o.1 in omega arith) (λ h. let g = o.0 in omega (arith, frames_law c.args.mem.now)) c.else-f-mem.either)
