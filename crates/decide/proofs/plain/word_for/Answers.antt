-- Answers for `decide::plain::word_for`. Assumes nothing.
use native.Mathlib.Omega.{arith}
use Rattle.std.proofs.lemmas.Result.{err_from_is_err_and}
use Rattle.look.proofs.Checks.{checks}
use Rattle.decide.proofs.plain.word_for.Goals as goal

pub returns-in_err-c : goal.returns-in_err-c
returns-in_err-c c =
    let p = err_from_is_err_and c.from_residual.result c.from_residual.ensures.1 in
    let l = c.in_err-c.ensures in
    rw (p.1, p.2) (search checks)

pub returns-then-w-lt-FRAME_WORDS : goal.returns-then-w-lt-FRAME_WORDS
returns-then-w-lt-FRAME_WORDS c = let l = c.in_ok-c.ensures in search checks

pub returns-else-w-lt-FRAME_WORDS : goal.returns-else-w-lt-FRAME_WORDS
returns-else-w-lt-FRAME_WORDS c =
    let l = c.in_ok-c.ensures in record { refusal = search checks; capability = tt; slot = omega arith; visits = l.visits }
