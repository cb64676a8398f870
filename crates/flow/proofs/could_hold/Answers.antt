-- Answers for `flow::could_hold`. Assumes nothing.
use native.Mathlib.Omega.{arith}
use Rattle.std.proofs.lemmas.Result.{err_from_is_err_and}
use Rattle.image.proofs.Refused.{number-positive}
use Rattle.flow.proofs.Entries.{noted_none}
use Rattle.flow.proofs.Answers.{held-refused, held-short, held-written}
use borrow.Author.Rules.{rules}
use Rattle.flow.proofs.could_hold.Goals as goal

pub returns-in_err-accepted : goal.returns-in_err-accepted
returns-in_err-accepted c =
    let p = err_from_is_err_and c.from_residual.result c.from_residual.ensures.1 in
    rw (p.1, p.2) (held-refused _ c.in_err-accepted.ensures.refusal (number-positive _))

pub returns-then-out-d : goal.returns-then-out-d
returns-then-out-d c =
    let a = c.in_ok-accepted in
    let d = rw a.ensures.same at a.accepted.image.domains_is in
    let n = rw a.ensures.same at a.accepted.image.entries_is in
    held-short 0 _ _ a.ensures.refusal (omega arith) d n c.if-out-d.true

pub holders-requires-clause-none : goal.holders-requires-clause-none
holders-requires-clause-none c = noted_none _

pub returns : goal.returns
returns c =
    let a = c.in_ok-accepted in
    let d = rw a.ensures.same at a.accepted.image.domains_is in
    let n = rw a.ensures.same at a.accepted.image.entries_is in
    held-written 0 _ _ a.ensures.refusal (omega arith) d n c.if-out-d.false (search rules)
