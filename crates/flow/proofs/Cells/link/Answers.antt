-- Answers for `flow::Cells::link`. Assumes nothing.
use Rattle.flow.proofs.Closure.{link-frame, link-mailbox, link-bell}
use borrow.Author.Rules.{rules}
use Rattle.flow.proofs.Cells.link.Goals as goal

pub returns-then-o-lt-MAILBOX_FIRST : goal.returns-then-o-lt-MAILBOX_FIRST
returns-then-o-lt-MAILBOX_FIRST c = search (rules, link-frame)

pub returns-then-o-lt-BELL_FIRST : goal.returns-then-o-lt-BELL_FIRST
returns-then-o-lt-BELL_FIRST c = search (rules, link-mailbox)

pub returns : goal.returns
returns c = search (rules, link-bell)
