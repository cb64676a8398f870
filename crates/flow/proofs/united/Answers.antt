-- Answers for `flow::united`. Assumes nothing.
use Rattle.flow.proofs.Spreading.{united_none, united_end}
use borrow.Author.Rules.{rules}
use Rattle.flow.proofs.united.Goals as goal

pub loop-k-init : goal.loop-k-init
loop-k-init c = united_none _ _ _

pub unite-r-requires : goal.unite-r-requires
unite-r-requires c = record { cell_in_range = search rules; k_in_range = search rules; united = search rules }

pub loop-k-preserved : goal.loop-k-preserved
loop-k-preserved c = search rules

pub returns : goal.returns
returns c = search (rules, united_end)
