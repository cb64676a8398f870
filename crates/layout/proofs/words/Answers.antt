-- Answers for `layout::words`. Assumes nothing.
use Rattle.std.proofs.Common.{rules}
use Rattle.layout.proofs.Cells.{words_in, words_outside}
use Rattle.layout.proofs.words.Goals as goal

pub returns-then-frames-le-FRAMES_MOST : goal.returns-then-frames-le-FRAMES_MOST
returns-then-frames-le-FRAMES_MOST c = search (rules, words_in)

pub returns-else-frames-ge1 : goal.returns-else-frames-ge1
returns-else-frames-ge1 c = words_outside _ c.else-frames-ge1.either
