-- Answers for `mail::copied`. Assumes nothing.
use native.Mathlib.Numerals.{add-one}
use Rattle.rules.specs.Turn.{copied}
use Rattle.mail.proofs.copied.Goals as goal

pub returns : goal.returns
unfolding copied
returns c = cc (add-one c.args.place)
