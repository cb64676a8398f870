-- Answers for `image::Index::source_tied`. Assumes nothing.
use Rattle.image.proofs.Tied.{tied_none, tied_beyond, tied-found}
use borrow.Author.Rules.{rules}
use Rattle.image.proofs.Index.source_tied.Goals as goal

pub returns-then-c-eq0 : goal.returns-then-c-eq0
returns-then-c-eq0 c = search (rules, tied_none)

pub returns-then-e-ge-SLOTS : goal.returns-then-e-ge-SLOTS
returns-then-e-ge-SLOTS c = search (rules, tied_beyond)

pub returns : goal.returns
returns c = search (rules, tied-found)
