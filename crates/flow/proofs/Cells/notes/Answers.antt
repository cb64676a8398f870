-- Answers for `flow::Cells::notes`. Assumes nothing.
use Rattle.flow.proofs.Entries.{noted_end}
use borrow.Author.Rules.{rules}
use Rattle.flow.proofs.Cells.notes.Goals as goal

pub returns : goal.returns
returns c = search (rules, noted_end)
