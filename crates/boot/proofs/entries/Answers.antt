-- Answers for `boot::entries`. Assumes nothing.
use native.Mathlib.Omega.{arith}
use mathlib.Core.Path.{◌≡◌}
use Rattle.rules.specs.Image.{size_c}
use Rattle.boot.proofs.Loading.{entered_enough, fetched_place, fetched_entered}
use Rattle.boot.proofs.entries.Goals as goal

pub loop-i-init : goal.loop-i-init
loop-i-init c = c.requires.entered

pub place-requires-clause-enough : goal.place-requires-clause-enough
place-requires-clause-enough c = entered_enough c.loop-i.invariant c.requires.mem_long_enough

pub place-requires-clause-p_in_range : goal.place-requires-clause-p_in_range
place-requires-clause-p_in_range c = fetched_place c.args.accepted.now.not_refused (omega arith) c.entry-entry.ensures c.place-p.ensures

pub loop-i-preserved : goal.loop-i-preserved
loop-i-preserved c =
    fetched_entered c.args.accepted.now.not_refused (omega arith) c.entry-entry.ensures c.place-p.ensures c.capability.ensures.0 c.loop-i.invariant c.place.ensures.stored

pub returns : goal.returns
returns c =
    let z : c.loop-i.i ≡ size_c c.args.accepted.now.image.bytes.now = omega arith in
    rw z at c.loop-i.invariant
