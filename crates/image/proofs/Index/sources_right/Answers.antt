-- Answers for `image::Index::sources_right`. In each, `t`: the test of every entry against its source. Assumes nothing.
use mathlib.Core.Path.{◌∙◌}
use Rattle.image.proofs.Form.{each_same}
use Rattle.image.proofs.Tied.{linked_law, ends_law, untied_law}
use Rattle.image.proofs.Index.sources_right.Goals as goal

pub returns-then-not-sources_tied : goal.returns-then-not-sources_tied
returns-then-not-sources_tied c =
    let t = c.sources_tied.ensures ∙ each_same _ _ _ c.args.self.now.image.entries_is in
    untied_law _ c.args.self.now.formed _ t c.if-not-sources_tied.true

pub ends-requires : goal.ends-requires
ends-requires c =
    let t = c.sources_tied.ensures ∙ each_same _ _ _ c.args.self.now.image.entries_is in
    linked_law _ c.args.self.now.formed _ c.args.self.now.indexed _ t c.if-not-sources_tied.false

pub returns : goal.returns
returns c =
    let t = c.sources_tied.ensures ∙ each_same _ _ _ c.args.self.now.image.entries_is in
    ends_law _ c.args.self.now.formed _ t c.if-not-sources_tied.false _ c.ends.ensures
