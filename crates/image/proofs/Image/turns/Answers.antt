-- Answers for `image::Image::turns`. Assumes nothing.
use native.Mathlib.Omega.{arith}
use Prim.Native.Nat.{◌+◌, ◌-◌}
use mathlib.Core.Path.{◌≡◌}
use Rattle.rules.specs.Image.{size_t, table_of}
use Rattle.image.proofs.Image.turns.Goals as goal

pub returns : goal.returns
unfolding table_of
returns c =
    let n : 8 + c.args.self.now.header.turns - 8 ≡ size_t c.args.self.now.bytes.now = omega arith in
    rw n
