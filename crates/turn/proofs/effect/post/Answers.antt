-- Answers for `turn::effect::post`. Assumes nothing.
use Rattle.std.proofs.Common.{rules}
use Rattle.turn.proofs.Effects.{applied_none, applied_post}
use Rattle.turn.proofs.effect.post.Goals as goal

pub returns-then-m-lt-MAILBOXES : goal.returns-then-m-lt-MAILBOXES
returns-then-m-lt-MAILBOXES c = search (rules, applied_post)

pub returns-else-m-lt-MAILBOXES : goal.returns-else-m-lt-MAILBOXES
returns-else-m-lt-MAILBOXES c = search (rules, applied_none)
