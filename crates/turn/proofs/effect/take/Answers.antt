-- Answers for `turn::effect::take`. Assumes nothing.
use Rattle.turn.proofs.Effects.{applied_take}
use borrow.Author.Rules.{rules}
use Rattle.turn.proofs.effect.take.Goals as goal

pub returns : goal.returns
returns c = search (rules, applied_take)
