-- Answers for `turn::effect::store`. Assumes nothing.
use Rattle.turn.proofs.Effects.{applied_store}
use Rattle.turn.proofs.effect.store.Goals as goal

pub returns : goal.returns
returns c = λ v. applied_store c.set_word.ensures
