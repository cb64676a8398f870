-- Answers for `tree::clear`. Assumes nothing.
use Rattle.tree.proofs.Pruning.{clear_free, clear-root, clear-marked, visits_free, visits-root, visits-marked}
use Rattle.tree.proofs.clear.Goals as goal

pub returns-then-found-q-eq0-clause-visits : goal.returns-then-found-q-eq0-clause-visits
returns-then-found-q-eq0-clause-visits c = search visits_free

pub returns-then-found-q-eq0-clause-stored : goal.returns-then-found-q-eq0-clause-stored
returns-then-found-q-eq0-clause-stored c = search clear_free

pub returns-then-q-p-clause-visits : goal.returns-then-q-p-clause-visits
returns-then-q-p-clause-visits c = search visits-root

pub returns-then-q-p-clause-stored : goal.returns-then-q-p-clause-stored
returns-then-q-p-clause-stored c = search clear-root

pub returns-clause-visits : goal.returns-clause-visits
returns-clause-visits c = search visits-marked

pub returns-clause-stored : goal.returns-clause-stored
returns-clause-stored c = search clear-marked
