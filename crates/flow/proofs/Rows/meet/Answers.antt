-- Answers for `flow::Rows::meet`. Assumes nothing.
use Rattle.flow.proofs.Spreading.{meeting-past, meeting_more}
use borrow.Author.Rules.{rules}
use Rattle.flow.proofs.Rows.meet.Goals as goal

pub returns-then-both-eq0 : goal.returns-then-both-eq0
returns-then-both-eq0 c = search (rules, meeting-past)

pub returns : goal.returns
returns c = search (rules, meeting_more)
