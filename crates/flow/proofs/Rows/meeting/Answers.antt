-- Answers for `flow::Rows::meeting`. Assumes nothing.
use Rattle.flow.proofs.Spreading.{meeting_none, meeting_end}
use borrow.Author.Rules.{rules}
use Rattle.flow.proofs.Rows.meeting.Goals as goal

pub loop-a-init : goal.loop-a-init
loop-a-init c = meeting_none _ _

pub meet-r-requires : goal.meet-r-requires
meet-r-requires c = record { a_in_range = search rules; meeting = search rules }

pub loop-a-preserved : goal.loop-a-preserved
loop-a-preserved c = search rules

pub returns : goal.returns
returns c = search (rules, meeting_end)
