-- Answers for `mail::along`. Assumes nothing.
use native.Mathlib.Omega.{arith}
use borrow.Author.Tests.{lt-ltb, le-ltb}
use Prim.Native.Nat.{◌<◌, ◌≤◌}
use Rattle.rules.specs.Sizes.{slots}
use Rattle.look.proofs.Checks.{checks}
use Rattle.mail.proofs.Laws.{along_no, along_no_grant, along_yes}
use Rattle.mail.proofs.along.Goals as goal

pub returns-then-c-gt-SLOTS : goal.returns-then-c-gt-SLOTS
returns-then-c-gt-SLOTS c =
    let h : slots ≤ c.args.c = omega arith in
    record { refusal = search checks; capability = tt; visits = search (along_no, arith) }

pub returns-then-c-eq-SLOTS : goal.returns-then-c-eq-SLOTS
returns-then-c-eq-SLOTS c =
    let h : slots ≤ c.args.c = omega arith in
    record { refusal = search checks; capability = rw (le-ltb _ slots h); visits = search (along_no, arith) }

pub returns-then-rights-ne-GRANT : goal.returns-then-rights-ne-GRANT
returns-then-rights-ne-GRANT c =
    let h : c.args.c < slots = omega arith in
    record { refusal = search checks depth 7; capability = tt; visits = search (along_no_grant, arith) }

pub returns-then-held-eq0 : goal.returns-then-held-eq0
returns-then-held-eq0 c =
    let h : c.args.c < slots = omega arith in
    record { refusal = search checks; capability = tt; visits = search along_yes }

pub returns : goal.returns
returns c =
    let h : c.args.c < slots = omega arith in
    record {
      refusal = search checks;
      capability = rw (lt-ltb _ slots h, ← c.see-held.ensures.capability) c.copied.ensures;
      visits = search along_yes;
    }
