-- Answers for `turn::effect::ring`. Assumes nothing.
use mathlib.Core.Path.{ap}
use lib.Bits.{bit_or}
use Rattle.turn.proofs.Effects.{applied_ring}
use Rattle.turn.proofs.effect.ring.Goals as goal

pub returns : goal.returns
returns c = λ v. applied_ring (ap (λ x. bit_or x c.args.badge) c.bell.ensures) c.set_bell.ensures
