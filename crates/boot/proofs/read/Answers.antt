-- Answers for `boot::read`. Assumes nothing.
use mathlib.Core.Path.{sym}
use native.Mathlib.Omega.{arith}
use Rattle.boot.proofs.Loading.{words_right, booted-short, booted-done}
use Rattle.boot.proofs.read.Goals as goal

pub returns-then-mem-words : goal.returns-then-mem-words
returns-then-mem-words c =
    let a = c.in_ok-accepted in
    let w = rw a.ensures.same at (words_right _ a.accepted.not_refused a.accepted.image.frames_is c.words-words.ensures) in
    booted-short (sym a.ensures.refusal) w (omega arith)

pub load-requires-clause-words_is : goal.load-requires-clause-words_is
load-requires-clause-words_is c =
    words_right _ c.in_ok-accepted.accepted.not_refused c.in_ok-accepted.accepted.image.frames_is c.words-words.ensures

pub returns : goal.returns
returns c =
    let a = c.in_ok-accepted in
    let w = rw a.ensures.same at (words_right _ a.accepted.not_refused a.accepted.image.frames_is c.words-words.ensures) in
    booted-done (sym a.ensures.refusal) w (omega arith) (rw a.ensures.same at c.load.ensures)
