-- Answers for `write::written`. In each, as far as the code has come: the memory is long enough, and an image describes the state.
-- Assumes nothing.
use mathlib.Core.Path.{sym, ◌∙◌}
use native.Mathlib.Omega.{arith}
use Rattle.rules.specs.Image.{padded, entries_at, length_for}
use Rattle.write.proofs.Filling.{entries-most}
use Rattle.write.proofs.Writing.{wrote-unwritable, wrote-small, wrote-image}
use Rattle.write.proofs.written.Goals as goal

pub returns-then-not-describable : goal.returns-then-not-describable
returns-then-not-describable c = wrote-unwritable _ c.args.memory.now.enough (sym c.describable.ensures ∙ c.if-not-describable.true)

pub returns-then-image-size : goal.returns-then-image-size
returns-then-image-size c =
    wrote-small _ c.args.memory.now.enough (sym c.describable.ensures ∙ c.if-not-describable.false) c.header_of-h.ensures c.size_for-size.ensures c.if-image-size.true

pub overflow_cast-result : goal.overflow_cast-result
unfolding length_for entries_at padded
overflow_cast-result c =
    let most = entries-most _ _ c.header_of-h.ensures in
    omega (arith, c.size_for-size.ensures, c.header_of-h.ensures.turns_in_range)

pub returns : goal.returns
returns c =
    wrote-image _ c.args.memory.now.enough (sym c.describable.ensures ∙ c.if-not-describable.false) c.header_of-h.ensures c.size_for-size.ensures c.if-image-size.false c.fill.ensures
