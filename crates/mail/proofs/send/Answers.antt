-- Answers for `mail::send`. Assumes nothing.
use native.Mathlib.Omega.{arith}
use Rattle.std.proofs.lemmas.Result.{err_from_is_err_and}
use Rattle.rules.specs.Turn.{send}
use Rattle.look.proofs.Checks.{checks, stands, refuses, goes_on, is_refused, is_done}
use Rattle.look.proofs.Visits.{seen_most}
use Rattle.mail.proofs.Laws.{carried, send-refused, send-seen}
use Rattle.mail.proofs.send.Goals as goal

pub returns-in_err-s : goal.returns-in_err-s
unfolding send
returns-in_err-s c =
    let p = err_from_is_err_and c.from_residual.result c.from_residual.ensures.1 in
    let l = c.in_err-s.ensures in
    rw (p.1, p.2) (is_refused _ _ _ _ (search checks) (send-refused _ _ l))

pub along-requires : goal.along-requires
along-requires c = record { visits_left = let v = c.in_ok-s.ensures.visits in omega (arith, seen_most c.args.op.first) }

pub returns-in_err-c : goal.returns-in_err-c
unfolding send
returns-in_err-c c =
    let p = err_from_is_err_and c.from_residual-in_err-c.result c.from_residual-in_err-c.ensures.1 in
    let l = c.in_ok-s.ensures in
    let m = c.in_err-c.ensures in
    rw (p.1, p.2) (is_refused _ _ _ _ (stands _ _ _ _ (carried l m)) (send-seen l m))

pub returns-then-message-ne0 : goal.returns-then-message-ne0
unfolding send
returns-then-message-ne0 c =
    let l = c.in_ok-s.ensures in
    let m = c.in_ok-c.ensures in
    let h = l.capability in
    is_refused _ _ _ _ (refuses _ _ _ (carried l m) (search checks)) (send-seen l m)

pub returns : goal.returns
unfolding send
returns c =
    let l = c.in_ok-s.ensures in
    let m = c.in_ok-c.ensures in
    let h = l.capability in
    let i = m.capability in
    is_done _ _ _ (goes_on _ _ _ (carried l m) (search checks)) (rw (← h, ← i, ← c.written.ensures) c.done.ensures) (send-seen l m)
