-- Answers for `layout::Memory::message`. Assumes nothing.
use Rattle.layout.proofs.Cells.{message_at, message-past}
use borrow.Author.Rules.{rules}
use Rattle.layout.proofs.Memory.message.Goals as goal

pub returns-then-m-ge-MAILBOXES : goal.returns-then-m-ge-MAILBOXES
returns-then-m-ge-MAILBOXES c = search (rules, message-past)

pub returns : goal.returns
returns c = search (rules, message_at)
