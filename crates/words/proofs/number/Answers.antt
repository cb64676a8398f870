-- Answers for `words::number`. Assumes nothing.
use Rattle.std.proofs.Common.{arith, ◌≡◌, get_or}
use Rattle.std.proofs.lemmas.Int.Digits.{digits_more, digits_value_more}
use Rattle.words.proofs.number.Goals as goal

pub loop-b-preserved : goal.loop-b-preserved
loop-b-preserved c =
    let i = c.loop-b.invariant in
    let v = c.in_ok-digit.ensures.value in
    let product = c.in_ok-checked_mul.ensures.1 in
    let sum = c.in_ok-number.ensures.1 in
    let at : c.from.result ≡ get_or c.args.word.now c.loop-b.b-index 0 = c.from.ensures in
    let inside = c.loop-b-test.true in
    (digits_more 10 _ _ inside i.0 (rw (← at) v.0), rw (digits_value_more 10 _ _ inside, ← at, ← i.1, ← v.1) (omega arith))
