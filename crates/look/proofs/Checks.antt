-- The laws by which a way through the code of an operation is seen to be the rules' way, whatever the operation: the checks in order, how
-- an operation ends, and what the tests come to. The proof of an operation opens its rule and searches with the set checks.
-- Assumes nothing.
use mathlib.Core.Path.{◌≡◌, refl, ◌∙◌}
use mathlib.Core.Bool.{Bool, true, false, not, ◌&&◌, ◌||◌}
use Prim.Native.Nat.{ℕ, zero, suc, ◌+◌, ◌<◌}
use native.Mathlib.Nat.{le_of_lt}
use native.Mathlib.Omega.{arith}
use lib.Dec.{eqb, leb}
use lib.Bits.{bit_and}
use borrow.Author.Tests.{lt-ltb, le-ltb, le-leb, lt-leb, eq-eqb, ne_eqb, eqb-false}
use Rattle.rules.specs.State.{State, within}
use Rattle.rules.specs.Turn.{◌then◌else◌, present, conclude}
use Rattle.rules.specs.declared.Capability.{Capability}
use Rattle.rules.specs.declared.Message.{Message}
use Rattle.rules.specs.declared.Answer.{Answer}
use Rattle.rules.specs.declared.Effect.{Effect}
use Rattle.rules.specs.declared.Decision.{Decision}
use Rattle.rules.specs.declared.Refusal.{Refusal}
use Rattle.rules.specs.declared.Refusal.TheVariants.{NoOperation, NoSlot, EmptySlot, WrongKind, NoRight, OutOfRange, TakenSlot, MailboxFull, MailboxEmpty, ImageShort, ImageSizes, ImageLength, ImageTurns, ImageEntry, ImageOrder, ImageSource, Unwritable, BufferShort, TooShort}
use Rattle.rules.specs.Refusal.{number_of}
use Rattle.look.specs.Looks.{Decides, Looks, seen}
use Rattle.std.specs.Prelude.{Result, Ok, Err, IsErrAnd}
use Rattle.std.proofs.lemmas.Result.{err_from_is_err_and}

-- ---- checks in order

-- a refusal is not 0
pub refused_number : (x : Refusal) → (k : ℕ) × (number_of x ≡ suc k)
refused_number NoOperation = (0, refl)
refused_number NoSlot = (1, refl)
refused_number EmptySlot = (2, refl)
refused_number WrongKind = (3, refl)
refused_number NoRight = (4, refl)
refused_number OutOfRange = (5, refl)
refused_number TakenSlot = (6, refl)
refused_number MailboxFull = (7, refl)
refused_number MailboxEmpty = (8, refl)
refused_number ImageShort = (19, refl)
refused_number ImageSizes = (20, refl)
refused_number ImageLength = (21, refl)
refused_number ImageTurns = (22, refl)
refused_number ImageEntry = (23, refl)
refused_number ImageOrder = (24, refl)
refused_number ImageSource = (25, refl)
refused_number Unwritable = (26, refl)
refused_number BufferShort = (27, refl)
refused_number TooShort = (28, refl)

-- the first refusal stands, whatever is checked after it
pub stands : (x : Refusal) (e : ℕ) (b : Bool) (n : ℕ) → number_of x ≡ e → number_of x ≡ (e then b else n)
unfolding ◌then◌else◌
stands x e b n h = let p = refused_number x in rw (← h, p.1)

pub stands_at : (k e : ℕ) (b : Bool) (n : ℕ) → eqb k 0 ≡ false → k ≡ e → k ≡ (e then b else n)
unfolding ◌then◌else◌
stands_at zero e b n h p = absurd (eqb-false 0 0 h refl)
stands_at (suc k) e b n h p = rw (← p)

-- a check that refuses
pub refuses : (e : ℕ) (b : Bool) (n : ℕ) → 0 ≡ e → b ≡ false → n ≡ (e then b else n)
unfolding ◌then◌else◌
refuses e b n p q = rw (← p, q)

-- a check that lets the operation go on
pub goes_on : (e : ℕ) (b : Bool) (n : ℕ) → 0 ≡ e → b ≡ true → 0 ≡ (e then b else n)
unfolding ◌then◌else◌
goes_on e b n p q = rw (← p, q)

-- ---- the end of an operation: refused, or done

module _ {v before looked : ℕ} (e : ℕ) (f : Effect) (a : Answer) where
  pub is_refused : (x : Refusal) → number_of x ≡ e → v ≡ before + looked → Decides (Err x) v (conclude e f a) before looked
  unfolding conclude
  is_refused x q l = let p = refused_number x in record { decision = rw (← q, p.1); visits = l }

  pub is_done : {r : Decision} → 0 ≡ e → r ≡ record { effect = f; answer = a } → v ≡ before + looked → Decides (Ok r) v (conclude e f a) before looked
  unfolding conclude
  is_done q p l = record { decision = p ∙ rw (← q); visits = l }

-- ---- an operation that only looks slot x up: what looking it up was refused with; and its end

module _ (f : Effect) (a : Answer) {s : State} {d x e before after : ℕ} where
  pub looked_refused : {r : Result Decision Refusal} {y : Refusal} → IsErrAnd r (λ z. z ≡ y) → Looks (Err y) after s d x e before
      → Decides r after (conclude e f a) before (seen x)
  looked_refused {r} q l = let p = err_from_is_err_and r q in rw (p.1, p.2) (is_refused _ _ _ _ l.refusal l.visits)

  pub looked_done : {r : Decision} {k : Capability} → Looks (Ok k) after s d x e before → r ≡ record { effect = f; answer = a }
      → Decides (Ok r) after (conclude e f a) before (seen x)
  looked_done l p = is_done _ _ _ l.refusal p l.visits

-- ---- tests: what each comes to, from what the code found

pub not_yes : (b : Bool) → b ≡ true → not b ≡ false
not_yes b e = rw e

pub not_no : (b : Bool) → b ≡ false → not b ≡ true
not_no b e = rw e

pub either : (a b : Bool) → b ≡ true → (a || b) ≡ true
either true b e = refl
either false b e = e

pub first_of : (a b : Bool) → a ≡ true → (a || b) ≡ true
first_of a b e = rw e

pub neither : (a b : Bool) → a ≡ false → b ≡ false → (a || b) ≡ false
neither a b e f = rw (e, f)

pub both : (a b : Bool) → a ≡ true → b ≡ true → (a && b) ≡ true
both a b e f = rw (e, f)

pub not_first : (a b : Bool) → a ≡ false → (a && b) ≡ false
not_first a b e = rw e

pub not_second : (a b : Bool) → b ≡ false → (a && b) ≡ false
not_second true b e = e
not_second false b e = refl

pub below-leb : (a b : ℕ) → a < b → leb a b ≡ true
below-leb a b h = le-leb a b (le_of_lt h)

pub is_within : (r a : ℕ) → bit_and r a ≡ r → within r a ≡ true
unfolding within
is_within r a n = eq-eqb _ _ n

pub not_within : (r a : ℕ) → (bit_and r a ≡ r → ⊥) → within r a ≡ false
unfolding within
not_within r a n = ne_eqb _ _ n

-- of what capability h holds, which the code has as c
module _ (c h : Capability) where
  pub holds_law : (c.kind ≡ 0 → ⊥) → c ≡ h → present h.kind ≡ true
  unfolding present
  holds_law n e = rw (← e, ne_eqb c.kind 0 n)

  pub empty_law : c.kind ≡ 0 → c ≡ h → present h.kind ≡ false
  unfolding present
  empty_law n e = rw (← e, eq-eqb c.kind 0 n)

  pub kind_law : (k : ℕ) → c.kind ≡ k → c ≡ h → eqb h.kind k ≡ true
  kind_law k n e = rw (← e) (eq-eqb _ _ n)

  pub not_kind_law : (k : ℕ) → (c.kind ≡ k → ⊥) → c ≡ h → eqb h.kind k ≡ false
  not_kind_law k n e = rw (← e) (ne_eqb _ _ n)

  pub right_law : (r : ℕ) → bit_and r c.rights ≡ r → c ≡ h → within r h.rights ≡ true
  right_law r n e = rw (← e) (is_within r c.rights n)

  pub not_right_law : (r : ℕ) → (bit_and r c.rights ≡ r → ⊥) → c ≡ h → within r h.rights ≡ false
  not_right_law r n e = rw (← e) (not_within r c.rights n)

  -- of what its mailbox holds, which the code has as g
  pub full_law : (s : State) (g : Message) → (g.full ≡ 0 → ⊥) → g ≡ s.message c.object → c ≡ h → present (s.message h.object).full ≡ true
  unfolding present
  full_law s g n i e = rw (← e, ← i, ne_eqb g.full 0 n)

  pub not_full_law : (s : State) (g : Message) → g.full ≡ 0 → g ≡ s.message c.object → c ≡ h → present (s.message h.object).full ≡ false
  unfolding present
  not_full_law s g n i e = rw (← e, ← i, eq-eqb g.full 0 n)

pub ruleset order = (stands, stands_at, refuses, goes_on)

pub ruleset tests = (not_yes, not_no, either, first_of, neither, both, not_first, not_second, ne_eqb, lt-ltb, le-ltb, le-leb, lt-leb, below-leb, is_within, not_within)

pub ruleset contents = (holds_law, empty_law, kind_law, not_kind_law, right_law, not_right_law, full_law, not_full_law)

pub ruleset checks = (order, tests, contents, arith)
