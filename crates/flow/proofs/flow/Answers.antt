-- Answers for `flow::flow`. Assumes nothing.
use native.Mathlib.Omega.{arith}
use Rattle.std.proofs.lemmas.Result.{err_from_is_err_and}
use Rattle.image.proofs.Refused.{number-positive}
use Rattle.flow.proofs.Answers.{flows-refused, flows-short, flows-written}
use borrow.Author.Rules.{rules}
use Rattle.flow.proofs.flow.Goals as goal

pub returns-in_err-accepted : goal.returns-in_err-accepted
returns-in_err-accepted c =
    let p = err_from_is_err_and c.from_residual.result c.from_residual.ensures.1 in
    rw (p.1, p.2) (flows-refused _ c.in_err-accepted.ensures.refusal (number-positive _))

pub returns-then-out-n : goal.returns-then-out-n
returns-then-out-n c =
    let a = c.in_ok-accepted in
    let d = rw a.ensures.same at a.accepted.image.domains_is in
    flows-short 0 _ a.ensures.refusal (omega arith) d c.if-out-n.true

pub returns : goal.returns
returns c =
    let a = c.in_ok-accepted in
    let d = rw a.ensures.same at a.accepted.image.domains_is in
    flows-written 0 _ a.ensures.refusal (omega arith) d c.if-out-n.false (rw a.ensures.same at c.weave.ensures) (search rules)
