-- Answers for `turn::effect::hush`. Assumes nothing.
use Rattle.turn.proofs.Effects.{applied_hush}
use Rattle.turn.proofs.effect.hush.Goals as goal

pub returns : goal.returns
returns c = λ v. applied_hush c.set_bell.ensures
