-- Answers for `image::entry`. Assumes nothing.
use native.Mathlib.Omega.{arith}
use Rattle.rules.specs.Image.{entry_at}
use Rattle.image.proofs.entry.Goals as goal

pub returns : goal.returns
unfolding entry_at
returns c = record {
  exact =
      cc;
  domain = omega arith;
  slot = omega arith;
  kind = omega arith;
  rights = omega arith;
  object = omega arith;
  badge = omega arith;
  source_domain = omega arith;
  source_slot = omega arith;
}
