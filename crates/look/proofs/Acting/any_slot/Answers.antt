-- Answers for `look::Acting::any_slot`. Assumes nothing.
use Prim.Native.Nat.{◌≤◌}
use native.Mathlib.Omega.{arith}
use Rattle.rules.specs.Sizes.{slots}
use Rattle.rules.specs.Turn.{any_slot_refusal}
use Rattle.look.specs.Looks.{seen}
use Rattle.look.proofs.Checks.{checks}
use Rattle.look.proofs.Visits.{seen_no}
use Rattle.look.proofs.Acting.any_slot.Goals as goal

pub returns-then-x-ge-SLOTS : goal.returns-then-x-ge-SLOTS
unfolding any_slot_refusal
returns-then-x-ge-SLOTS c =
    let h : slots ≤ c.args.x = omega arith in record { refusal = search checks; capability = tt; slot = omega arith; visits = search seen_no }

pub returns-then-c-eq0 : goal.returns-then-c-eq0
unfolding any_slot_refusal seen
returns-then-c-eq0 c = search checks

pub returns : goal.returns
unfolding any_slot_refusal seen
returns c = search checks
