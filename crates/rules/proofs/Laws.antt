-- Laws of the small definitions: tests, checks in order, rights, one value set. Callers use these and not the definitions' text.
-- Assumes nothing.
use mathlib.Core.Path.{◌≡◌, refl, sym, ap, ◌∙◌, subst}
use mathlib.Core.Bool.{Bool, true, false, cond, not, ◌&&◌, ◌||◌, true≢false, false≢true}
use mathlib.Core.Logic.{◌⊎◌, inl, inr}
use Prim.Native.Nat.{ℕ, zero, suc, ◌/◌, ◌%◌, min}
use native.Mathlib.Omega.{arith}
use lib.Dec.{eqb}
use lib.Bits.{bit_and, and_step, and_self, and_comm}
use lib.Arith.{bin_ind}
use borrow.Author.Tests.{eqb-true, eq-eqb, ne_eqb}
use Rattle.rules.specs.State.{within}
use Rattle.rules.specs.Turn.{◌then◌else◌, present, set, refusal, conclude}
use Rattle.rules.specs.declared.Answer.{Answer}
use Rattle.rules.specs.declared.Effect.{Effect}
use Rattle.rules.specs.declared.Effect.TheVariants.{Nothing}
use Rattle.rules.specs.declared.Decision.{Decision}

-- ---- tests

pub both : (a b : Bool) → (a && b) ≡ true → (a ≡ true) × (b ≡ true)
both true b h = (refl, h)
both false b h = absurd (false≢true h)

pub either : (a b : Bool) → (a || b) ≡ true → (a ≡ true) ⊎ (b ≡ true)
either true b h = inl refl
either false b h = inr h

-- a test either passes or fails
pub decided_by : (b : Bool) → (b ≡ true) ⊎ (b ≡ false)
decided_by true = inl refl
decided_by false = inr refl

pub not_both : {b : Bool} → b ≡ true → b ≡ false → ⊥
not_both p q = true≢false (sym p ∙ q)

pub flips : (b : Bool) → not b ≡ true → b ≡ false
flips true h = absurd (false≢true h)
flips false h = refl

-- ---- checks in order

-- all checks passed: this one, and those before it
pub passes : (e : ℕ) (b : Bool) (n : ℕ) → (e then b else suc n) ≡ 0 → (e ≡ 0) × (b ≡ true)
unfolding ◌then◌else◌
passes zero true n h = (refl, refl)
passes zero false n h = absurd (omega arith)
passes (suc e) b n h = absurd (omega arith)

-- a decision that refuses has no effect, and an answer with no words
abbrev pub Leaves : Decision → Type 0
Leaves d = (d.answer.status ≡ 0 → ⊥) → (d.effect ≡ Nothing) × (d.answer ≡ refusal d.answer.status)

pub leaves : (e : ℕ) (f : Effect) (a : Answer) → a.status ≡ 0 → Leaves (conclude e f a)
unfolding conclude
leaves zero f a z h = absurd (h z)
leaves (suc e) f a z h = (refl, refl)

-- what P needs of a decision's effect: it holds of no effect, and of f where no check refused
pub concluded : (P : Effect → Type 0) (e : ℕ) (f : Effect) (a : Answer) → P Nothing → (e ≡ 0 → P f) → P (conclude e f a).effect
unfolding conclude
concluded P zero f a n h = h refl
concluded P (suc e) f a n h = n

-- what P needs of a decision's effect and answer: it holds of each refusal, and of f and a where no check refused
pub concluded_both : (P : Effect → Answer → Type 0) (e : ℕ) (f : Effect) (a : Answer) → ((n : ℕ) → P Nothing (refusal (suc n)))
    → (e ≡ 0 → P f a) → P (conclude e f a).effect (conclude e f a).answer
unfolding conclude
concluded_both P zero f a r h = h refl
concluded_both P (suc e) f a r h = r e

pub unrefused : (e : ℕ) (f : Effect) (a : Answer) → e ≡ 0 → (conclude e f a).effect ≡ f
unfolding conclude
unrefused zero f a h = refl
unrefused (suc e) f a h = absurd (omega arith)

-- ---- nothing and something

pub present-true : (n : ℕ) → present n ≡ true → n ≡ 0 → ⊥
unfolding present
present-true zero h = absurd (false≢true h)
present-true (suc n) h = λ e. omega arith

pub present-false : (n : ℕ) → not (present n) ≡ true → n ≡ 0
unfolding present
present-false zero h = refl
present-false (suc n) h = absurd (not_both h (ap (λ b. not (not b)) (ne_eqb (suc n) 0 (λ e. omega arith))))

-- ---- rights

-- the digits of a meet
and_half : (a b : ℕ) → (bit_and a b / 2 ≡ bit_and (a / 2) (b / 2)) × (bit_and a b % 2 ≡ min (a % 2) (b % 2))
and_half a b = omega (arith, and_step a b)

and_assoc : (a b c : ℕ) → bit_and (bit_and a b) c ≡ bit_and a (bit_and b c)
and_assoc =
    bin_ind (λ a. (b c : ℕ) → bit_and (bit_and a b) c ≡ bit_and a (bit_and b c)) (λ b c. refl)
    (λ a ih b c.
    let left : bit_and (bit_and a b / 2) (c / 2) ≡ bit_and (bit_and (a / 2) (b / 2)) (c / 2) = ap (λ x. bit_and x (c / 2)) (and_half a b).0 in
    let right : bit_and (a / 2) (bit_and b c / 2) ≡ bit_and (a / 2) (bit_and (b / 2) (c / 2)) = ap (bit_and (a / 2)) (and_half b c).0 in
    omega (arith, and_step (bit_and a b) c, and_step a (bit_and b c), left, right, ih (b / 2) (c / 2), (and_half a b).1, (and_half b c).1))

pub within_trans : (a b c : ℕ) → within a b ≡ true → within b c ≡ true → within a c ≡ true
unfolding within
within_trans a b c h k =
    let p : bit_and a b ≡ a = eqb-true _ _ h in
    let q : bit_and b c ≡ b = eqb-true _ _ k in
    eq-eqb _ _ (ap (λ x. bit_and x c) (sym p) ∙ (and_assoc a b c ∙ (ap (bit_and a) q ∙ p)))

pub within-refl : (a : ℕ) → within a a ≡ true
unfolding within
within-refl a = eq-eqb _ _ (and_self a)

-- what DERIVE leaves of rights a
pub within-meet : (a r : ℕ) → within (bit_and a r) a ≡ true
unfolding within
within-meet a r =
    eq-eqb _ _ (ap (λ x. bit_and x a) (and_comm a r) ∙ (and_assoc r a a ∙ (ap (bit_and r) (and_self a) ∙ and_comm r a)))

-- ---- one value set

pub set_here : {A : Type 0} (f : ℕ → A) (i : ℕ) (v : A) → set f i v i ≡ v
unfolding set
set_here f i v = rw (eq-eqb i i refl)

pub set_there : {A : Type 0} (f : ℕ → A) (i : ℕ) (v : A) (j : ℕ) → (j ≡ i → ⊥) → set f i v j ≡ f j
unfolding set
set_there f i v j h = rw (ne_eqb j i h)

-- each value satisfies Q, the new one too
pub set-each : {A : Type 0} (Q : ℕ → A → Type 0) (f : ℕ → A) (i : ℕ) (v : A) → ((j : ℕ) → Q j (f j)) → Q i v → (j : ℕ) → Q j (set f i v j)
unfolding set
set-each Q f i v each h j = go (eqb j i) refl
  where
    go : (t : Bool) → eqb j i ≡ t → Q j (cond t v (f j))
    go true e = subst (λ x. Q x v) (sym (eqb-true j i e)) h
    go false e = each j
