-- Answers for `layout::set_bell`. Assumes nothing.
use Rattle.layout.proofs.Stores.{bell_law, stored-nothing}
use borrow.Author.Rules.{rules}
use Rattle.layout.proofs.set_bell.Goals as goal

pub returns-then-b-lt-BELLS : goal.returns-then-b-lt-BELLS
returns-then-b-lt-BELLS c = search (rules, bell_law)

pub returns-else-b-lt-BELLS : goal.returns-else-b-lt-BELLS
returns-else-b-lt-BELLS c = stored-nothing (search rules)
