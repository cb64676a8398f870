-- The laws of rows: which meet a mask, what some have together, what is added to some, their sum, and the rows that have themselves alone.
-- Each loop has three: before the first row, one row on, and after the last. Assumes nothing.
use mathlib.Core.Path.{◌≡◌, refl, sym, ap, ◌∙◌, subst}
use mathlib.Core.List.{List}
use mathlib.Core.Logic.{◌⊎◌, inl, inr, ⊎_elim}
use Prim.Native.Nat.{ℕ, zero, suc, ◌+◌, ◌/◌, ◌%◌, ◌^◌, ◌≤◌, ◌<◌}
use native.Mathlib.Omega.{arith}
use native.Mathlib.Numerals.{add-one}
use lib.ListN.{length, get_or, set, length-set}
use lib.Seq.{get_or-set_same, get_or-set_other}
use lib.Bits.{bit_and, bit_or}
use Rattle.rules.proofs.Places.{same?}
use Rattle.flow.specs.Masks.{In, Meets, row, Meeting, OneOf, United, Taken, Spread, sums}
use Rattle.flow.proofs.Bits.{below?, in?, in_or, or_left, or_right, or_most, in_none, in_one, one_in, meets_some, some_meet}

-- ---- those that meet a mask

module _ (rows : List ℕ) (mask : ℕ) where
  pub meeting_none : Meeting rows mask 0 0
  meeting_none = record { told = λ a i. absurd (in_none i); every = λ a l m. absurd (omega arith) }

  -- a row that does not meet it
  pub meeting-past : {n r : ℕ} → bit_and (row rows n) mask ≡ 0 → Meeting rows mask n r → Meeting rows mask (n + 1) r
  meeting-past {n} {r} e m =
      record {
        told = λ a i. (let h = (m.told a i).0 in omega arith, (m.told a i).1);
        every = λ a l s. ⊎_elim (λ z. absurd (meets_some (subst (λ k. Meets (row rows k) mask) z s) e))
            (λ z. m.every a (omega arith) s) (same? a n);
      }

  -- a row that does
  pub meeting_more : {n r x : ℕ} → (bit_and (row rows n) mask ≡ 0 → ⊥) → x ≡ 2 ^ n → Meeting rows mask n r → Meeting rows mask (n + 1) (bit_or r x)
  meeting_more {n} {r} {x} k e m =
      record {
        told = λ a i. ⊎_elim
            (λ j. (let h = (m.told a j).0 in omega arith, (m.told a j).1))
            (λ j. let z = in_one a n (subst (In a) e j) in
            (omega arith, subst (λ k. Meets (row rows k) mask) (sym z) (some_meet _ _ k)))
            (in_or r x i);
        every = λ a l s. ⊎_elim (λ z. or_right r (subst (In a) (ap (λ k. 2 ^ k) z ∙ sym e) (one_in a)))
            (λ z. or_left x (m.every a (omega arith) s)) (same? a n);
      }

  pub meeting_end : {n r : ℕ} → n ≤ 16 → 16 ≤ n → Meeting rows mask n r → Meeting rows mask 16 r
  meeting_end {n} {r} h g m = subst (λ k. Meeting rows mask k r) (let z : n ≡ 16 = omega arith in z) m

-- ---- what some of the cells have together

module _ (cells : List ℕ) (first which : ℕ) where
  -- one cell more
  further : {n c : ℕ} → OneOf cells first n which c → OneOf cells first (n + 1) which c
  further o = record { number = o.number; low = let h = o.low in omega arith; chosen = o.chosen; inside = o.inside }

  pub united_none : United cells first 0 which 0
  united_none = record { told = λ c i. absurd (in_none i); every = λ c o. absurd (let h = o.low in omega arith) }

  -- one of those before, or the last
  earlier : {n c : ℕ} → OneOf cells first (n + 1) which c
      → OneOf cells first n which c ⊎ ((In n which) × (In c (get_or cells (first + n) 0)))
  earlier {n} {c} o =
      ⊎_elim (λ z. inr (subst (λ k. In k which) z o.chosen, subst (λ k. In c (get_or cells (first + k) 0)) z o.inside))
      (λ z. inl (record { number = o.number; low = let h = o.low in omega arith; chosen = o.chosen; inside = o.inside })) (same? o.number n)

  -- a cell that is not chosen
  pub united-past : {n r : ℕ} → (which / 2 ^ n % 2 ≡ 1 → ⊥) → United cells first n which r → United cells first (n + 1) which r
  united-past k u =
      record {
        told = λ c i. further (u.told c i);
        every = λ c o. ⊎_elim (λ p. u.every c p) (λ p. absurd (k p.0.digit)) (earlier o);
      }

  -- a cell that is
  pub united_more : {n r : ℕ} → which / 2 ^ n % 2 ≡ 1 → United cells first n which r
      → United cells first (n + 1) which (bit_or r (get_or cells (first + n) 0))
  united_more {n} {r} e u =
      record {
        told = λ c i. ⊎_elim (λ j. further (u.told c j))
            (λ j. record { number = n; low = omega arith; chosen = record { digit = e }; inside = j }) (in_or r _ i);
        every = λ c o. ⊎_elim (λ p. or_left _ (u.every c p)) (λ p. or_right r p.1) (earlier o);
      }

  pub united_end : {n m r : ℕ} → n ≤ m → m ≤ n → United cells first n which r → United cells first m which r
  united_end {n} {m} {r} h g u = subst (λ k. United cells first k which r) (let z : n ≡ m = omega arith in z) u

-- ---- what is added to some of the rows

module _ (which what : ℕ) where
  pub spread_none : (rows : List ℕ) → Spread which what 0 rows rows
  spread_none rows = record { long = refl; taken = λ a l i. absurd (omega arith); kept = λ a k. refl }

  -- a row that is not chosen
  pub take_past : {rows : List ℕ} (a : ℕ) → (which / 2 ^ a % 2 ≡ 1 → ⊥) → Taken which what a rows rows
  take_past a k = record { long = refl; taken = λ i. absurd (k i.digit); kept = λ x h. refl }

  -- a row that is
  pub take_more : {rows : List ℕ} (a : ℕ) → which / 2 ^ a % 2 ≡ 1 → a < length rows
      → Taken which what a rows (set rows a (bit_or (get_or rows a 0) what))
  take_more {rows} a e h =
      record {
        long = length-set rows a _;
        taken = λ i. get_or-set_same rows a _ 0 h;
        kept = λ x k. get_or-set_other rows a x _ 0 (λ z. k z (record { digit = e }));
      }

  pub spread_more : {n : ℕ} {before now after : List ℕ} → Spread which what n before now → Taken which what n now after
      → Spread which what (n + 1) before after
  spread_more {n} {before} {now} {after} s t =
      record {
        long = t.long ∙ s.long;
        taken = λ a l i. ⊎_elim
            (λ z. subst (λ k. row after k ≡ bit_or (row before k) what) (sym z)
            (t.taken (subst (λ k. In k which) z i) ∙ ap (λ x. bit_or x what) (s.kept n (λ l i. absurd (omega arith)))))
            (λ z. t.kept a (λ y. absurd (z y)) ∙ s.taken a (omega arith) i) (same? a n);
        kept = λ a k. t.kept a (λ z i. k (omega arith) (subst (λ j. In j which) (sym z) i)) ∙ s.kept a (λ l i. k (omega arith) i);
      }

  pub spread_end : {n : ℕ} {before now : List ℕ} → n ≤ 16 → 16 ≤ n → Spread which what n before now → Spread which what 16 before now
  spread_end {n} {before} {now} h g s = subst (λ k. Spread which what k before now) (let z : n ≡ 16 = omega arith in z) s

-- what is in a row then was, or is what its row has taken in
pub spread_was : {which what n : ℕ} {before after : List ℕ} (a c : ℕ) → Spread which what n before after → In c (row after a)
    → In c (row before a) ⊎ ((a < n) × (In a which) × (In c what))
spread_was {which} {what} {n} {before} {after} a c s i = go (in? a which) (below? a n)
  where
    go : (In a which ⊎ (In a which → ⊥)) → (a < n) ⊎ (n ≤ a) → In c (row before a) ⊎ ((a < n) × (In a which) × (In c what))
    go (inl w) (inl l) = ⊎_elim (λ j. inl j) (λ j. inr (l, w, j)) (in_or (row before a) what (subst (In c) (s.taken a l w) i))
    go (inl w) (inr g) = inl (subst (In c) (s.kept a (λ l j. absurd (omega arith))) i)
    go (inr k) z = inl (subst (In c) (s.kept a (λ l j. k j)) i)

-- and what was in a row is
pub spread-stays : {which what n : ℕ} {before after : List ℕ} (a c : ℕ) → Spread which what n before after → In c (row before a) → In c (row after a)
spread-stays {which} {what} {n} {before} {after} a c s i = go (in? a which) (below? a n)
  where
    go : (In a which ⊎ (In a which → ⊥)) → (a < n) ⊎ (n ≤ a) → In c (row after a)
    go (inl w) (inl l) = subst (In c) (sym (s.taken a l w)) (or_left what i)
    go (inl w) (inr g) = subst (In c) (sym (s.kept a (λ l j. absurd (omega arith)))) i
    go (inr k) z = subst (In c) (sym (s.kept a (λ l j. k j))) i

-- what a row takes in is in it
pub spread_new : {which what n : ℕ} {before after : List ℕ} (a c : ℕ) → Spread which what n before after → a < n → In a which → In c what
    → In c (row after a)
spread_new {before = before} a c s l w i = subst (In c) (sym (s.taken a l w)) (or_right (row before a) i)

-- ---- the sum

pub sums_none : (rows : List ℕ) → 0 ≡ sums rows 0
unfolding sums
sums_none rows = refl

pub sums_more : (rows : List ℕ) (n t : ℕ) → t ≡ sums rows n → t + row rows n ≡ sums rows (n + 1)
unfolding sums
sums_more rows n t e = rw (add-one n) (omega arith)

module _ (before after : List ℕ) (each : (a : ℕ) → row before a ≤ row after a) where
  -- rows that have not got smaller have a sum that has not
  pub sums-most : (n : ℕ) → sums before n ≤ sums after n
  unfolding sums
  sums-most zero = omega arith
  sums-most (suc n) = let h = sums-most n in let g = each n in omega arith

  -- and where it is the same, each of them is
  pub sums_same : (n : ℕ) → sums after n ≡ sums before n → (a : ℕ) → a < n → row after a ≡ row before a
  unfolding sums
  sums_same zero e a l = absurd (omega arith)
  sums_same (suc n) e a l =
      let h = sums-most n in
      let g = each n in
      ⊎_elim (λ z. subst (λ k. row after k ≡ row before k) (sym z) (omega arith))
      (λ z. sums_same n (omega arith) a (omega arith)) (same? a n)

-- what is added does not make a row smaller
pub spread-most : {which what n : ℕ} {before after : List ℕ} → Spread which what n before after → (a : ℕ) → row before a ≤ row after a
spread-most {which} {what} {n} {before} {after} s a = go (in? a which) (below? a n)
  where
    go : (In a which ⊎ (In a which → ⊥)) → (a < n) ⊎ (n ≤ a) → row before a ≤ row after a
    go (inl w) (inl l) = omega (arith, s.taken a l w, or_most (row before a) what)
    go (inl w) (inr g) = omega (arith, s.kept a (λ l j. absurd (omega arith)))
    go (inr k) z = omega (arith, s.kept a (λ l j. k j))
