-- Answers for `turn::turn`. Assumes nothing.
use mathlib.Core.Path.{refl}
use native.Mathlib.Omega.{arith}
use Rattle.layout.proofs.Stores.{enough-kept}
use Rattle.turn.proofs.Turning.{low, enough_of, apply-named, apply-allowed, turned-short, turned-done}
use Rattle.turn.proofs.turn.Goals as goal

pub returns-then-not-enough : goal.returns-then-not-enough
returns-then-not-enough c = rw c.refused.ensures (turned-short c.enough.ensures c.if-not-enough.true)

pub apply-requires-clause-enough : goal.apply-requires-clause-enough
apply-requires-clause-enough c = enough_of _ c.enough.ensures c.if-not-enough.false

pub apply-requires-clause-named : goal.apply-requires-clause-named
apply-requires-clause-named c = apply-named _ _ _ c.decided-effect.ensures.decision (low _)

pub apply-requires-clause-visits_left : goal.apply-requires-clause-visits_left
apply-requires-clause-visits_left c = apply-allowed _ _ _ c.decided-effect.ensures.decision c.decided-effect.ensures.visits (omega arith)

pub move_on-requires : goal.move_on-requires
move_on-requires c = enough-kept c.apply.ensures.stored (enough_of _ c.enough.ensures c.if-not-enough.false)

pub returns : goal.returns
returns c =
    turned-done _ (enough_of _ c.enough.ensures c.if-not-enough.false) refl c.decided-effect.ensures.decision c.decided-effect.ensures.visits c.apply.ensures c.move_on.ensures.0 c.move_on.ensures.1
