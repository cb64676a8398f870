-- The laws of masks: a domain in a mask, in two together, in a mask of one, and in both of two masks that meet. Assumes nothing.
use mathlib.Core.Path.{◌≡◌, refl, sym, ap, ◌∙◌, subst}
use mathlib.Core.Logic.{◌⊎◌, inl, inr, ⊎_elim}
use Prim.Native.Nat.{ℕ, zero, suc, ◌+◌, ◌*◌, ◌/◌, ◌%◌, ◌^◌, ◌≤◌, ◌<◌, min, max}
use native.Mathlib.Nat.{div-eq_of_lt, div-one}
use native.Mathlib.Omega.{arith}
use lib.Arith.{bin_ind}
use lib.Dec.{ltb}
use lib.Pow.{shr-shr, pow-lt}
use lib.Bits.{bit_and, bit_or, and_step, or_step, and_shr, or_shr, or_add_and, and_le_r, and_zero_l, shifted_half, shifted_even}
use borrow.Author.Tests.{ltb-true, ltb-false}
use Rattle.rules.proofs.Laws.{decided_by}
use Rattle.rules.proofs.Places.{same?}
use Rattle.flow.specs.Masks.{In, Meets}

-- below a number or not
pub below? : (a b : ℕ) → (a < b) ⊎ (b ≤ a)
below? a b = ⊎_elim (λ e. inl (ltb-true a b e)) (λ e. inr (ltb-false a b e)) (decided_by (ltb a b))

-- ---- one digit

digit-most : (d x : ℕ) → x / 2 ^ d % 2 ≤ 1
digit-most d x = let y = x / 2 ^ d in let h : y % 2 ≤ 1 = omega arith in h

-- in a mask or not
pub in? : (d x : ℕ) → In d x ⊎ (In d x → ⊥)
in? d x = ⊎_elim (λ e. inl (record { digit = e })) (λ n. inr (λ i. n i.digit)) (same? (x / 2 ^ d % 2) 1)

half_or : (p q : ℕ) → bit_or p q % 2 ≡ max (p % 2) (q % 2)
half_or p q = omega (arith, or_step p q)

half_and : (p q : ℕ) → bit_and p q % 2 ≡ min (p % 2) (q % 2)
half_and p q = omega (arith, and_step p q)

or_digit : (x y d : ℕ) → bit_or x y / 2 ^ d % 2 ≡ max (x / 2 ^ d % 2) (y / 2 ^ d % 2)
or_digit x y d = ap (λ n. n % 2) (or_shr x y d) ∙ half_or (x / 2 ^ d) (y / 2 ^ d)

and_digit : (x y d : ℕ) → bit_and x y / 2 ^ d % 2 ≡ min (x / 2 ^ d % 2) (y / 2 ^ d % 2)
and_digit x y d = ap (λ n. n % 2) (and_shr x y d) ∙ half_and (x / 2 ^ d) (y / 2 ^ d)

-- ---- two masks together

max_one : (a b c : ℕ) → a ≡ max b c → a ≡ 1 → b ≤ 1 → c ≤ 1 → (b ≡ 1) ⊎ (c ≡ 1)
max_one a b c e h f g = ⊎_elim (λ z. inl z) (λ n. inr (omega arith)) (same? b 1)

pub in_or : {d : ℕ} (x y : ℕ) → In d (bit_or x y) → In d x ⊎ In d y
in_or {d} x y i =
    ⊎_elim (λ e. inl (record { digit = e })) (λ e. inr (record { digit = e }))
    (max_one _ _ _ (or_digit x y d) i.digit (digit-most d x) (digit-most d y))

max_l : (a b c : ℕ) → a ≡ max b c → b ≡ 1 → c ≤ 1 → a ≡ 1
max_l a b c e h g = omega arith

max_r : (a b c : ℕ) → a ≡ max b c → c ≡ 1 → b ≤ 1 → a ≡ 1
max_r a b c e h g = omega arith

pub or_left : {d x : ℕ} (y : ℕ) → In d x → In d (bit_or x y)
or_left {d} {x} y i = record { digit = max_l _ _ _ (or_digit x y d) i.digit (digit-most d y) }

pub or_right : {d y : ℕ} (x : ℕ) → In d y → In d (bit_or x y)
or_right {d} {y} x i = record { digit = max_r _ _ _ (or_digit x y d) i.digit (digit-most d x) }

-- what takes something in does not get smaller
pub or_most : (x y : ℕ) → x ≤ bit_or x y
or_most x y = omega (arith, or_add_and x y, and_le_r x y)

-- ---- none, and one alone

zero_div : (m : ℕ) → 0 < m → 0 / m ≡ 0
zero_div m h = div-eq_of_lt h

pow_pos : (d : ℕ) → 0 < 2 ^ d
pow_pos zero = omega arith
pow_pos (suc d) = let h = pow-lt {i = 0} {j = suc d} (omega arith) in omega arith

pub in_none : {d : ℕ} → In d 0 → ⊥
in_none {d} i = let z = zero_div (2 ^ d) (pow_pos d) in let e = i.digit in omega (arith, ap (λ n. n % 2) z)

-- digit k + 1 of a number is digit k of its half
shift : (x k : ℕ) → x / 2 ^ suc k ≡ x / 2 / 2 ^ k
shift x k = sym (shr-shr x 1 k ∙ ap (λ n. x / 2 ^ n) (let z : 1 + k ≡ suc k = omega arith in z))

pow_half : (d : ℕ) → 2 ^ suc d / 2 ≡ 2 ^ d
pow_half d = let h = shifted_half 1 d in ap (λ n. n / 2) (let z : 2 ^ suc d ≡ 1 * 2 ^ suc d = omega arith in z) ∙ (h ∙ (let z : 1 * 2 ^ d ≡ 2 ^ d = omega arith in z))

pow_even : (d : ℕ) → 2 ^ suc d % 2 ≡ 0
pow_even d = ap (λ n. n % 2) (let z : 2 ^ suc d ≡ 1 * 2 ^ suc d = omega arith in z) ∙ shifted_even 1 d

in_half : {k x : ℕ} → In (suc k) x → In k (x / 2)
in_half {k} {x} i = record { digit = ap (λ n. n % 2) (sym (shift x k)) ∙ i.digit }

half_in : {k x : ℕ} → In k (x / 2) → In (suc k) x
half_in {k} {x} i = record { digit = ap (λ n. n % 2) (shift x k) ∙ i.digit }

first_digit : (x : ℕ) → x / 2 ^ 0 % 2 ≡ x % 2
first_digit x = ap (λ n. n % 2) (div-one x)

pub in_one : (k d : ℕ) → In k (2 ^ d) → k ≡ d
in_one zero zero i = refl
in_one zero (suc d) i = absurd (omega (arith, i.digit, first_digit (2 ^ suc d), pow_even d))
in_one (suc k) zero i = absurd (in_none (in_half i))
in_one (suc k) (suc d) i = ap suc (in_one k d (subst (In k) (pow_half d) (in_half i)))

pub one_in : (d : ℕ) → In d (2 ^ d)
one_in zero = record { digit = refl }
one_in (suc d) = half_in (subst (In d) (sym (pow_half d)) (one_in d))

-- ---- two masks that meet

min_both : (a b c : ℕ) → a ≡ min b c → b ≡ 1 → c ≡ 1 → a ≡ 1
min_both a b c e h g = omega arith

pub meets_some : {x y : ℕ} → Meets x y → bit_and x y ≡ 0 → ⊥
meets_some {x} {y} m e =
    in_none {d = m.domain} (subst (In m.domain) e
    (record { digit = min_both _ _ _ (and_digit x y m.domain) m.left.digit m.right.digit }))

low_both : (x y : ℕ) → min (x % 2) (y % 2) ≡ 1 → Meets x y
low_both x y e =
    record {
      domain = 0;
      left = record { digit = first_digit x ∙ (let h : x % 2 ≡ 1 = omega arith in h) };
      right = record { digit = first_digit y ∙ (let h : y % 2 ≡ 1 = omega arith in h) };
    }

pub some_meet : (x y : ℕ) → (bit_and x y ≡ 0 → ⊥) → Meets x y
some_meet =
    bin_ind (λ x. (y : ℕ) → (bit_and x y ≡ 0 → ⊥) → Meets x y) (λ y n. absurd (n (and_zero_l y)))
    (λ x ih y n. ⊎_elim (λ e. low_both x y e) (λ k. up x y (ih (y / 2) (λ z. n (rest x y z k)))) (same? (min (x % 2) (y % 2)) 1))
  where
    up : (x y : ℕ) → Meets (x / 2) (y / 2) → Meets x y
    up x y m = record { domain = suc m.domain; left = half_in m.left; right = half_in m.right }

    rest : (x y : ℕ) → bit_and (x / 2) (y / 2) ≡ 0 → (min (x % 2) (y % 2) ≡ 1 → ⊥) → bit_and x y ≡ 0
    rest x y z k = omega (arith, and_step x y)

pub meets_turn : {x y : ℕ} → Meets x y → Meets y x
meets_turn m = record { domain = m.domain; left = m.right; right = m.left }
