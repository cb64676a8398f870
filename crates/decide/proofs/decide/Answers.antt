-- Answers for `decide::decide`. Assumes nothing.
use mathlib.Core.Path.{refl}
use native.Mathlib.Omega.{arith}
use Rattle.rules.specs.Turn.{named, decided, conclude}
use Rattle.decide.specs.Visits.{looks}
use Rattle.decide.proofs.Numbers.{by_number, by_no_number}
use Rattle.decide.proofs.decide.Goals as goal

pub returns-in-0 : goal.returns-in-0
unfolding named decided conclude looks
returns-in-0 c = by_number _ _ _ 0 c.in-0.is (record { decision = c.idle.ensures; visits = omega arith })

pub returns-in-1 : goal.returns-in-1
unfolding named decided looks
returns-in-1 c = by_number _ _ _ 1 c.in-1.is c.load.ensures

pub returns-in-2 : goal.returns-in-2
unfolding named decided looks
returns-in-2 c = by_number _ _ _ 2 c.in-2.is c.store.ensures

pub returns-in-3 : goal.returns-in-3
unfolding named decided looks
returns-in-3 c = by_number _ _ _ 3 c.in-3.is c.derive.ensures

pub returns-in-4 : goal.returns-in-4
unfolding named decided looks
returns-in-4 c = by_number _ _ _ 4 c.in-4.is c.delete.ensures

pub returns-in-5 : goal.returns-in-5
unfolding named decided looks
returns-in-5 c = by_number _ _ _ 5 c.in-5.is c.revoke.ensures

pub returns-in-6 : goal.returns-in-6
unfolding named decided looks
returns-in-6 c = by_number _ _ _ 6 c.in-6.is c.ring.ensures

pub returns-in-7 : goal.returns-in-7
unfolding named decided looks
returns-in-7 c = by_number _ _ _ 7 c.in-7.is c.hear.ensures

pub returns-in-8 : goal.returns-in-8
unfolding named decided looks
returns-in-8 c = by_number _ _ _ 8 c.in-8.is c.send.ensures

pub returns-in-9 : goal.returns-in-9
unfolding named decided looks
returns-in-9 c = by_number _ _ _ 9 c.in-9.is c.receive.ensures

pub returns-in-10 : goal.returns-in-10
unfolding named decided looks
returns-in-10 c = by_number _ _ _ 10 c.in-10.is c.look.ensures

pub returns-in_default : goal.returns-in_default
returns-in_default c = by_no_number _ _ _ (omega arith) refl
