-- Answers for `flow::weave`. Assumes nothing.
use Rattle.flow.proofs.Entries.{accepted_law, noted_none}
use Rattle.flow.proofs.Flowing.{whole_law}
use borrow.Author.Rules.{rules}
use Rattle.flow.proofs.weave.Goals as goal

pub holders-requires-clause-none : goal.holders-requires-clause-none
holders-requires-clause-none c = noted_none _

pub returns : goal.returns
returns c = let a = accepted_law _ c.args.accepted.now.not_refused in search (rules, whole_law)
