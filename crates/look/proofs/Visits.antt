-- The laws of the visits that the checks of every operation share: of a slot that is looked up, and of what comes after checks.
-- Assumes nothing.
use mathlib.Core.Path.{◌≡◌}
use mathlib.Core.Bool.{Bool, true, false, cond}
use Prim.Native.Nat.{ℕ, zero, suc, ◌+◌, ◌≤◌, ◌<◌}
use native.Mathlib.Omega.{arith}
use lib.Dec.{ltb}
use borrow.Author.Tests.{lt-ltb, le-ltb}
use Rattle.rules.specs.Sizes.{slots}
use Rattle.look.specs.Looks.{seen, unless}
use Rattle.rules.specs.Refusal.{number_of}
use Rattle.rules.specs.declared.Refusal.{Refusal}
use Rattle.look.proofs.Checks.{refused_number}

module _ (v a : ℕ) where
  -- no slot: nothing more is visited; a slot: it is
  pub seen_no : (x : ℕ) → slots ≤ x → v ≡ a → v ≡ a + seen x
  unfolding seen
  seen_no x h e = rw (le-ltb x slots h) (omega arith)

  pub seen_yes : (x : ℕ) → x < slots → v ≡ a + 1 → v ≡ a + seen x
  unfolding seen
  seen_yes x h e = rw (lt-ltb x slots h) e

  -- after checks that came to e, which was a refusal; and which was none
  pub unless-refused : (n : ℕ) {e : ℕ} (x : Refusal) → number_of x ≡ e → v ≡ a → v ≡ a + unless e n
  unfolding unless
  unless-refused n x q p = let k = refused_number x in rw (← q, k.1) (omega arith)

  pub unless-done : (n : ℕ) {e : ℕ} → 0 ≡ e → v ≡ a + n → v ≡ a + unless e n
  unfolding unless
  unless-done n q p = rw (← q) p

-- ---- at most

pub one_most : (t : Bool) → cond t 1 0 ≤ 1
one_most true = omega arith
one_most false = omega arith

pub seen_most : (x : ℕ) → seen x ≤ 1
unfolding seen
seen_most x = one_most (ltb x slots)

pub unless-most : (e n : ℕ) → unless e n ≤ n
unfolding unless
unless-most zero n = omega arith
unless-most (suc e) n = omega arith
