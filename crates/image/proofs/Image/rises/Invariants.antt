-- `image::Image::rises`'s loop. Assumes nothing.
use mathlib.Core.Path.{◌≡◌}
use Rattle.rules.specs.Image.{rising}
use Rattle.image.specs.Sources.{entries_of}
use Rattle.image.proofs.Form.{later, rises_from}
use Rattle.image.proofs.Image.rises.Given as goal

abbrev pub invariant-loop-i : goal.invariant-loop-i
invariant-loop-i l = rises_from l.next (later l.self.bytes.now l.i) ≡ rising (entries_of l.self.bytes.now)
