-- Answers for `tree::prune`. Assumes nothing.
use Rattle.std.proofs.Common.{rules}
use Rattle.tree.proofs.Counting.{visits-found}
use Rattle.tree.proofs.Pruning.{pruned_all, visits_all}
use Rattle.tree.proofs.prune.Goals as goal

pub returns-clause-within : goal.returns-clause-within
returns-clause-within c = search (rules, visits_all)

pub returns-clause-stored : goal.returns-clause-stored
returns-clause-stored c = search pruned_all

pub returns-clause-counted : goal.returns-clause-counted
returns-clause-counted c = search visits-found
