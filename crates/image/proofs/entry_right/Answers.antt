-- Answers for `image::entry_right`. Assumes nothing.
use Rattle.image.proofs.Form.{kind_law, unkind_law}
use Rattle.image.proofs.entry_right.Goals as goal

pub returns-in_default : goal.returns-in_default
returns-in_default c = let (k, f, m, b) = c.in_default.ensures in unkind_law _ _ _ f m b

pub returns : goal.returns
returns c = kind_law c.in-Ok.kind _ _ _ _ _ c.in-Ok.ensures c.eq.ensures c.objects.ensures
