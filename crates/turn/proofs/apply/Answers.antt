-- Answers for `turn::apply`: the effects that are no call, or whose callee's promise is not its own. Assumes nothing.
use Rattle.turn.proofs.Effects.{applied_nothing, applied_put, applied_drop, applied_prune, applied_on}
use Rattle.turn.proofs.apply.Goals as goal

pub returns-in-Nothing : goal.returns-in-Nothing
returns-in-Nothing c = applied_on c.in-Nothing.is applied_nothing

pub returns-in-Store : goal.returns-in-Store
returns-in-Store c = applied_on c.in-Store.is (c.store.ensures _)

pub returns-in-Ring : goal.returns-in-Ring
returns-in-Ring c = applied_on c.in-Ring.is (c.ring.ensures _)

pub returns-in-Hush : goal.returns-in-Hush
returns-in-Hush c = applied_on c.in-Hush.is (c.hush.ensures _)

pub returns-in-Put : goal.returns-in-Put
returns-in-Put c = applied_on c.in-Put.is (applied_put c.place.ensures.stored c.place.ensures.visits)

pub returns-in-Drop : goal.returns-in-Drop
returns-in-Drop c = applied_on c.in-Drop.is (applied_drop c.drop_place.ensures.visits c.drop_place.ensures.stored)

pub returns-in-Prune : goal.returns-in-Prune
returns-in-Prune c = applied_on c.in-Prune.is (applied_prune c.prune.ensures.within c.prune.ensures.stored c.prune.ensures.counted)
