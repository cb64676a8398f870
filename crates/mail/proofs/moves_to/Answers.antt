-- Answers for `mail::moves_to`. Assumes nothing.
use native.Mathlib.Omega.{arith}
use Rattle.mail.proofs.Laws.{stays_no, stays_none, stays-full, moves-there, moves_no, moves_yes, taking_no, taking_none, taking_yes}
use Rattle.mail.proofs.moves_to.Goals as goal

pub returns-then-t-ge-SLOTS : goal.returns-then-t-ge-SLOTS
returns-then-t-ge-SLOTS c = moves_no _ _ _ _ (search stays_no) (search (taking_no, arith))

pub returns-then-see-eq0 : goal.returns-then-see-eq0
returns-then-see-eq0 c = moves_no _ _ _ _ (search stays_none) (search taking_none)

pub returns-then-see-ne0 : goal.returns-then-see-ne0
returns-then-see-ne0 c =
    moves_no _ _ _ _ (stays-full _ _ _ _ _ c.if-see-ne0.true c.see-2.ensures.capability)
    (taking_yes _ _ _ _ _ _ c.if-see-eq0.false c.see.ensures.capability c.if-t-ge-SLOTS.false _ c.see.ensures.visits c.see-2.ensures.visits)

pub returns : goal.returns
returns c =
    moves_yes _ _ _ _
    (moves-there _ _ _ _ _ _ c.if-see-eq0.false c.see.ensures.capability c.if-t-ge-SLOTS.false c.if-see-ne0.false c.see-2.ensures.capability)
    (taking_yes _ _ _ _ _ _ c.if-see-eq0.false c.see.ensures.capability c.if-t-ge-SLOTS.false _ c.see.ensures.visits c.see-2.ensures.visits)
