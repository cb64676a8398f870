-- Rule 2 of document 03, section 1, asks for WRITE and GRANT together in one triple. Assumes nothing.
use mathlib.Core.Path.{refl, sym, subst}
use Rattle.rules.specs.State.{MAILBOX, WRITE, GRANT}
use Rattle.rules.specs.Flow.{For, image, passed}
use Rattle.rules.specs.Authority.{ApartIsNotEnough}

pub apart_is_not_enough : ApartIsNotEnough
apart_is_not_enough i none d t (image {e} m) = (e, m, refl, refl)
apart_is_not_enough i none d t (passed {a} {m = m} {g = g} c w h r v u) =
    let (e, k, l, f) = apart_is_not_enough i none a g c in
    absurd (none m e k (subst (For MAILBOX m WRITE) (sym f) w) (subst (For MAILBOX m GRANT) (sym f) h))
