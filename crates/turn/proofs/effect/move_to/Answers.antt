-- Answers for `turn::effect::move_to`. Assumes nothing.
use Rattle.std.proofs.Common.{rules}
use Rattle.turn.proofs.Effects.{applied_no_move, applied_move}
use Rattle.turn.proofs.effect.move_to.Goals as goal

pub returns-then-m-lt-MAILBOXES : goal.returns-then-m-lt-MAILBOXES
returns-then-m-lt-MAILBOXES c = search (rules, applied_move)

pub returns-else-m-lt-MAILBOXES : goal.returns-else-m-lt-MAILBOXES
returns-else-m-lt-MAILBOXES c = search (rules, applied_no_move)
