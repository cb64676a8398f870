-- Answers for `image::Accepted::of`. Assumes nothing.
use mathlib.Core.Path.{refl, sym}
use Rattle.std.proofs.lemmas.Result.{err_from_is_err_and}
use Rattle.image.proofs.Refused.{refused_some}
use Rattle.image.proofs.Tied.{refused-before, formed_law, accepted_law, refused_law}
use Rattle.image.proofs.Accepted.of.Goals as goal

pub returns-in_err-image-clause-refusal : goal.returns-in_err-image-clause-refusal
returns-in_err-image-clause-refusal c =
    let p = err_from_is_err_and c.from_residual.result c.from_residual.ensures.1 in
    rw (p.1, p.2) (refused-before _ _ c.in_err-image.ensures.refusal (refused_some _))

pub of-requires-clause-formed : goal.of-requires-clause-formed
of-requires-clause-formed c = rw c.in_ok-image.ensures.same (formed_law _ _ c.in_ok-image.ensures.refusal refl)

pub returns-then-not-sources_right-clause-refusal : goal.returns-then-not-sources_right-clause-refusal
returns-then-not-sources_right-clause-refusal c =
    let s = rw (c.of.ensures, c.in_ok-image.ensures.same) at c.sources_right.ensures in
    refused_law _ _ c.in_ok-image.ensures.refusal refl _ s c.if-not-sources_right.true

pub returns-clause-refusal : goal.returns-clause-refusal
returns-clause-refusal c =
    let s = rw (c.of.ensures, c.in_ok-image.ensures.same) at c.sources_right.ensures in
    accepted_law _ _ c.in_ok-image.ensures.refusal refl _ s c.if-not-sources_right.false

pub invariant_of-result : goal.invariant_of-result
invariant_of-result c =
    let s = rw (c.of.ensures, c.in_ok-image.ensures.same) at c.sources_right.ensures in
    let z = accepted_law _ _ c.in_ok-image.ensures.refusal refl _ s c.if-not-sources_right.false in
    record { not_refused = rw c.in_ok-image.ensures.same (sym z) }
