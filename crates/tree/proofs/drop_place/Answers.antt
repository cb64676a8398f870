-- Answers for `tree::drop_place`. Assumes nothing.
use Rattle.tree.proofs.Dropping.{dropped_all}
use Rattle.tree.proofs.drop_place.Goals as goal

pub returns-clause-stored : goal.returns-clause-stored
returns-clause-stored c = search dropped_all
