-- Answers for `write::entries`. Assumes nothing.
use mathlib.Core.Path.{◌∙◌}
use native.Mathlib.Omega.{arith}
use Rattle.write.proofs.Entering.{entered_none, entered_same, entry_fits, entered_more, entered_all}
use Rattle.write.proofs.entries.Goals.{then-c-ne0, else-c-ne0}
use Rattle.write.proofs.entries.Goals as goal

pub loop-p-init : goal.loop-p-init
loop-p-init c = entered_none _ _

pub loop-p-preserved : goal.loop-p-preserved
loop-p-preserved c =
    elim c.if-c-ne0.branch [
      | then-c-ne0 w ↦
          let fits = entry_fits _ c.see-c.ensures.capability c.loop-p.invariant w.if-c-ne0.true _ c.loop-p-test.true (c.loop-p.auto.bytes ∙ c.requires.bytes_fit) in
          rw (w.at-is, w.bytes-is) (entered_more _ c.see-c.ensures.capability c.loop-p.invariant w.if-c-ne0.true _ fits (w.copy_from_slice.ensures.after ∙ w.entry.ensures))
      | else-c-ne0 w ↦ rw (w.at-is, w.bytes-is) (entered_same _ c.see-c.ensures.capability c.loop-p.invariant w.if-c-ne0.false)
    ]

pub returns : goal.returns
returns c = entered_all _ _ (omega arith) (omega arith) (c.loop-p.auto.bytes ∙ c.requires.bytes_fit) c.loop-p.invariant
