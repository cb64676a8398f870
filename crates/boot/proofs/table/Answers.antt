-- Answers for `boot::table`. Assumes nothing.
use native.Mathlib.Omega.{arith}
use mathlib.Core.Path.{◌≡◌}
use Rattle.rules.specs.Image.{size_t}
use Rattle.boot.proofs.Loading.{right, turns-low, tabled_next}
use Rattle.boot.proofs.table.Goals as goal

pub loop-i-init : goal.loop-i-init
loop-i-init c = c.requires.tabled

pub set_turn-requires : goal.set_turn-requires
set_turn-requires c =
    let t = turns-low (right _ c.args.accepted.now.not_refused) c.turns-turn-items.ensures in
    record { mem_long_enough = omega arith; i_in_range = omega arith }

pub loop-i-preserved : goal.loop-i-preserved
loop-i-preserved c =
    tabled_next c.set_turn.ensures (omega arith) (right _ c.args.accepted.now.not_refused) c.turns-turn-items.ensures c.loop-i-test.true c.from.ensures c.loop-i.invariant

pub returns : goal.returns
returns c =
    let t = turns-low (right _ c.args.accepted.now.not_refused) c.turns-turn-items.ensures in
    let z : c.loop-i.i ≡ size_t c.args.accepted.now.image.bytes.now = omega arith in
    rw z at c.loop-i.invariant
