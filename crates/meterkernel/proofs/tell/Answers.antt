-- Answers for `meterkernel::tell`. Assumes nothing.
use borrow.Author.Rules.{rules}
use Rattle.meterkernel.proofs.Calls.{told_six}
use Rattle.meterkernel.proofs.tell.Goals as goal

pub returns : goal.returns
returns c = search (rules, told_six)
