-- Answers for `flow::derive`. Assumes nothing.
use Rattle.flow.proofs.Closure.{source_some, source_none}
use borrow.Author.Rules.{rules}
use Rattle.flow.proofs.derive.Goals as goal

pub returns-then-e-lt-DOMAINS_MOST : goal.returns-then-e-lt-DOMAINS_MOST
returns-then-e-lt-DOMAINS_MOST c = search (rules, source_some)

pub returns-else-e-lt-DOMAINS_MOST : goal.returns-else-e-lt-DOMAINS_MOST
returns-else-e-lt-DOMAINS_MOST c = search (rules, source_none)
