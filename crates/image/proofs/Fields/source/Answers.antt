-- Answers for `image::Fields::source`. Assumes nothing.
use native.Mathlib.Omega.{arith}
use Rattle.image.proofs.Indexing.{source_none, source_some}
use Rattle.image.proofs.Fields.source.Goals as goal
use Rattle.image.proofs.Fields.source.Goals.{else-self-eq-NO_DOMAIN-via-then-self-eq-NO_DOMAIN+else-self-eq0, else-self-eq-NO_DOMAIN-via-else-self-eq-NO_DOMAIN}

pub returns-then-self-eq0 : goal.returns-then-self-eq0
returns-then-self-eq0 c = (source_none _ c.if-self-eq-NO_DOMAIN.true c.if-self-eq0.true, omega arith)

pub returns : goal.returns
returns c = (
  source_some _
      (λ d x. elim c.else-self-eq-NO_DOMAIN.branch [ else-self-eq-NO_DOMAIN-via-then-self-eq-NO_DOMAIN+else-self-eq0 w ↦ w.if-self-eq0.false x | else-self-eq-NO_DOMAIN-via-else-self-eq-NO_DOMAIN w ↦ w.if-self-eq-NO_DOMAIN.false d ]),
  omega arith,
)
