-- Answers for `meterkernel::operation`. Assumes nothing.
use borrow.Author.Rules.{rules}
use Rattle.meterkernel.specs.Entries.{operation_in}
use Rattle.meterkernel.proofs.operation.Goals as goal

pub returns : goal.returns
unfolding operation_in
returns c = search rules
