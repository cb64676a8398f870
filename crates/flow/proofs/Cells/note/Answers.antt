-- Answers for `flow::Cells::note`. Assumes nothing.
use Rattle.flow.proofs.Entries.{noted_more}
use borrow.Author.Rules.{rules}
use Rattle.flow.proofs.Cells.note.Goals as goal

pub returns : goal.returns
returns c = search (rules, noted_more)
