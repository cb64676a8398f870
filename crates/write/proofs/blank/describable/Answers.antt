-- Answers for `write::blank::describable`. Assumes nothing.
use Rattle.write.proofs.Tests.{range_fails, mail_fails, words_fail, bells_fail, position-tells}
use Rattle.write.proofs.blank.describable.Goals as goal

pub returns-then-not-in_range : goal.returns-then-not-in_range
returns-then-not-in_range c = range_fails c.head-h.ensures c.in_range.ensures (c.if-not-in_range.true)

pub returns-then-not-mailboxes_empty : goal.returns-then-not-mailboxes_empty
returns-then-not-mailboxes_empty c = mail_fails c.head-h.ensures c.in_range.ensures (c.if-not-in_range.false) c.mailboxes_empty.ensures (c.if-not-mailboxes_empty.true)

pub returns-then-not-frames_zero : goal.returns-then-not-frames_zero
returns-then-not-frames_zero c = words_fail c.head-h.ensures c.in_range.ensures (c.if-not-in_range.false) c.mailboxes_empty.ensures (c.if-not-mailboxes_empty.false) c.frames_zero.ensures (c.if-not-frames_zero.true)

pub returns-then-not-bells_zero : goal.returns-then-not-bells_zero
returns-then-not-bells_zero c = bells_fail c.head-h.ensures c.in_range.ensures (c.if-not-in_range.false) c.mailboxes_empty.ensures (c.if-not-mailboxes_empty.false) c.frames_zero.ensures (c.if-not-frames_zero.false) c.bells_zero.ensures (c.if-not-bells_zero.true)

pub returns : goal.returns
returns c = position-tells c.head-h.ensures c.in_range.ensures (c.if-not-in_range.false) c.mailboxes_empty.ensures (c.if-not-mailboxes_empty.false) c.frames_zero.ensures (c.if-not-frames_zero.false) c.bells_zero.ensures (c.if-not-bells_zero.false)
