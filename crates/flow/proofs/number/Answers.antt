-- Answers for `flow::number`. Assumes nothing.
use Rattle.flow.proofs.Entries.{number-frame, number-mailbox, number-bell}
use borrow.Author.Rules.{rules}
use Rattle.flow.proofs.number.Goals as goal

pub returns-then-kind-number : goal.returns-then-kind-number
returns-then-kind-number c = search (rules, number-frame)

pub returns-then-kind-number-2 : goal.returns-then-kind-number-2
returns-then-kind-number-2 c = search (rules, number-mailbox)

pub returns : goal.returns
returns c = search (rules, number-bell)
