-- Answers for `layout::set_message`. Assumes nothing.
use Rattle.layout.proofs.Stores.{message_law, stored-nothing}
use borrow.Author.Rules.{rules}
use Rattle.layout.proofs.set_message.Goals as goal

pub returns-then-m-lt-MAILBOXES : goal.returns-then-m-lt-MAILBOXES
returns-then-m-lt-MAILBOXES c = search (rules, message_law)

pub returns-else-m-lt-MAILBOXES : goal.returns-else-m-lt-MAILBOXES
returns-else-m-lt-MAILBOXES c = stored-nothing (search rules)
