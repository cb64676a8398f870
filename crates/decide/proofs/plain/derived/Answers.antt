-- Answers for `decide::plain::derived`. Assumes nothing.
use native.Mathlib.Numerals.{add-one}
use Rattle.rules.specs.Turn.{derived}
use Rattle.decide.proofs.plain.derived.Goals as goal

pub returns : goal.returns
unfolding derived
returns c = cc (add-one c.args.place)
