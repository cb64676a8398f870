-- Answers for `rules::Rights::have`. Assumes nothing.
use Rattle.rules.specs.State.{within}
use Rattle.rules.proofs.Rights.have.Goals as goal

pub returns : goal.returns
unfolding within
returns c = search
