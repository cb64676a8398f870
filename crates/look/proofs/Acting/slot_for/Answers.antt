-- Answers for `look::Acting::slot_for`. Assumes nothing.
use Rattle.std.proofs.lemmas.Result.{err_from_is_err_and}
use Rattle.rules.specs.Turn.{slot_for_refusal}
use Rattle.look.proofs.Checks.{checks}
use Rattle.look.proofs.Acting.slot_for.Goals as goal

pub returns-in_err-c : goal.returns-in_err-c
unfolding slot_for_refusal
returns-in_err-c c =
    let p = err_from_is_err_and c.from_residual.result c.from_residual.ensures.1 in
    let l = c.in_err-c.ensures in
    rw (p.1, p.2) (search checks)

pub returns-then-c-number : goal.returns-then-c-number
unfolding slot_for_refusal
returns-then-c-number c = rw (← c.number.ensures) (search checks)

pub returns-then-right-c : goal.returns-then-right-c
unfolding slot_for_refusal
returns-then-right-c c = search checks

pub returns : goal.returns
unfolding slot_for_refusal
returns c = search checks
