-- Answers for `image::Image::rises`. Assumes nothing.
use mathlib.Core.Path.{◌∙◌, ap}
use native.Mathlib.Omega.{arith}
use Rattle.image.proofs.Form.{later_all, rises_from, rises_all, rises-turn, rises-stop, rises_end}
use borrow.Author.Rules.{rules}
use Rattle.image.proofs.Image.rises.Goals as goal

pub loop-i-init : goal.loop-i-init
loop-i-init c = ap (rises_from 0) (later_all _) ∙ rises_all _

pub returns-then-place-next : goal.returns-then-place-next
returns-then-place-next c = rises-stop _ _ _ _ _ _ (omega arith) c.entry.ensures.exact c.place-place.ensures c.if-place-next.true c.loop-i.invariant

pub loop-i-preserved : goal.loop-i-preserved
loop-i-preserved c = rises-turn _ _ _ _ _ _ (omega arith) c.entry.ensures.exact c.place-place.ensures c.if-place-next.false c.loop-i.invariant

pub returns : goal.returns
returns c = search (rules, rises_end)
