-- Which sweeps REVOKE makes: a visit and a sweep as functions of the marks, and the number of sweeps up to the first that makes no mark.
-- Assumes nothing.
use mathlib.Core.Path.{◌≡◌, refl, sym, ap, ◌∙◌}
use mathlib.Core.Bool.{Bool, true, false}
use mathlib.Core.List.{List}
use mathlib.Core.Logic.{⊎_elim}
use Prim.Native.Nat.{ℕ, suc, ◌+◌, ◌-◌, ◌*◌, ◌≤◌, ◌<◌}
use native.Mathlib.Omega.{arith}
use native.Mathlib.Numerals.{add-one}
use lib.Dec.{ltb}
use lib.ListN.{get_or, set, get_or-eq_default}
use lib.Seq.{set-get_or}
use borrow.Author.Tests.{eq-eqb, ne_eqb, ltb-true, ltb-false}
use Rattle.rules.specs.Sizes.{places}
use Rattle.rules.specs.State.{Places}
use Rattle.rules.proofs.Places.{same?}
use Rattle.tree.specs.Marks.{counted, Marks, Swept, to_empty}
use Rattle.tree.specs.Sweeps.{marking, marks_to, marks_after, Sweeps, Searched, root_mark, PruneVisits}

module _ (at : Places) {n : ℕ} {marks : List ℕ} (q x : ℕ) (e : x ≡ (at q).source) (m : Marks n marks) where
  -- ---- one visit: the source is not marked, is no place, the place is marked already, or is marked now

  pub marking_other : (get_or marks x 0 ≡ 1 → ⊥) → marks ≡ marking at q marks
  unfolding marking
  marking_other h = rw (← e, ne_eqb (get_or marks x 0) 1 h)

  pub marking-past : places < x → marks ≡ marking at q marks
  marking-past h = marking_other (λ g. let l = m.long in let z = get_or-eq_default marks 0 {n = x} (omega arith) in omega arith)

  pub marking_already : get_or marks x 0 ≡ 1 → (get_or marks (q + 1) 0 ≡ 0 → ⊥) → marks ≡ marking at q marks
  unfolding marking
  marking_already g h = rw (← e, eq-eqb (get_or marks x 0) 1 g) (sym (sym (ap (set marks (suc q)) one) ∙ set-get_or marks (suc q) 0))
    where
      one : get_or marks (suc q) 0 ≡ 1
      one = let l = m.most (suc q) in let k = rw (add-one q) at h in omega arith

  pub marking_new : get_or marks x 0 ≡ 1 → set marks (q + 1) 1 ≡ marking at q marks
  unfolding marking
  marking_new g = rw (← e, eq-eqb (get_or marks x 0) 1 g, add-one q)

module _ (at : Places) where
  -- ---- a sweep: no place yet, one place on, and after the last

  pub marks_none : (marks : List ℕ) → marks ≡ marks_to at 0 marks
  unfolding marks_to
  marks_none marks = refl

  pub marks_more : (before : List ℕ) {now after : List ℕ} (q : ℕ) → now ≡ marks_to at q before → after ≡ marking at q now → after ≡ marks_to at (q + 1) before
  unfolding marks_to
  marks_more before q e g = rw (add-one q) (g ∙ ap (marking at q) e)

  -- ---- all sweeps

  -- sweep number j, counted from 0, makes no mark
  abbrev Idle : List ℕ → ℕ → Type 0
  Idle start j = marks_after at (suc j) start ≡ marks_after at j start

-- so many sweeps from those marks, of which the last took b marks to m: each but the last made a mark, and the last did where b is below m
pub record Searching (at : Places) (start : List ℕ) (b m : ℕ) (now : List ℕ) (before visits : ℕ) : Type 0 where
  pub sweeps : ℕ
  pub found : now ≡ marks_after at sweeps start
  pub visited : visits ≡ before + places * sweeps
  pub earlier : (j : ℕ) → suc j < sweeps → Idle at start j → ⊥
  pub last : b < m → (j : ℕ) → suc j ≡ sweeps → Idle at start j → ⊥
  pub none : m ≡ b → (j : ℕ) → suc j ≡ sweeps → Idle at start j
  pub some : m ≡ b → 0 < sweeps

module _ (at : Places) {start : List ℕ} {v : ℕ} where
  -- no sweep yet; a sweep more; and after one that made no mark
  pub searching_begun : (b m : ℕ) → b < m → Searching at start b m start v v
  unfolding marks_after
  searching_begun b m h =
      record {
        sweeps = 0;
        found = refl;
        visited = omega arith;
        earlier = λ j g. absurd (omega arith);
        last = λ l j g. absurd (omega arith);
        none = λ l j g. absurd (omega arith);
        some = λ l. absurd (omega arith);
      }

  pub searching_more : {b m o n r : ℕ} {now after : List ℕ} → Searching at start b m now v n → b < m → Swept at 0 places m now o after
      → after ≡ marks_to at places now → Marks m now → r ≡ n + places → Searching at start m o after v r
  unfolding marks_after
  searching_more {b} {m} {o} {now = now} {after} s h w e k g =
      record {
        sweeps = suc s.sweeps;
        found = e ∙ ap (marks_to at places) s.found;
        visited = let c = s.visited in omega arith;
        earlier = λ j l. ⊎_elim (λ z. s.last h j z) (λ z. s.earlier j (omega arith)) (same? (suc j) s.sweeps);
        last = λ l j z i. absurd (let y = same_count (at_last j z ∙ i ∙ was j z) in omega arith);
        none = λ l j z. sym (at_last j z) ∙ w.same l ∙ sym (was j z);
        some = λ l. omega arith;
      }
    where
      was : (j : ℕ) → suc j ≡ suc s.sweeps → marks_after at j start ≡ now
      was j z = ap (λ i. marks_after at i start) (let y : j ≡ s.sweeps = omega arith in y) ∙ sym s.found

      at_last : (j : ℕ) → suc j ≡ suc s.sweeps → after ≡ marks_after at (suc j) start
      at_last j z = e ∙ ap (marks_to at places) (sym (was j z))

      same_count : after ≡ now → o ≡ m
      same_count y = w.marks.count ∙ ap (λ l. counted l places) y ∙ sym k.count

  pub searching_end : {b m n : ℕ} {now : List ℕ} → Searching at start b m now v n → b ≤ m → m ≤ b → Searched at start now v n
  searching_end {b} {m} {now = now} s h g =
      record {
        sweeps = s.sweeps - 1;
        each = record { more = λ j l. s.earlier j (let k = least in omega arith); last = none };
        found = s.found ∙ still;
        visited = let c = s.visited in let k = least in omega arith;
      }
    where
      equal : m ≡ b
      equal = omega arith

      least : 0 < s.sweeps
      least = s.some equal

      none : marks_after at (suc (s.sweeps - 1)) start ≡ marks_after at (s.sweeps - 1) start
      none = s.none equal (s.sweeps - 1) (let k = least in omega arith)

      still : marks_after at s.sweeps start ≡ marks_after at (s.sweeps - 1) start
      still = ap (λ k. marks_after at k start) (let z : s.sweeps ≡ suc (s.sweeps - 1) = (let k = least in omega arith) in z) ∙ none

-- ---- the whole of REVOKE's visits

pub visits-found : {at : Places} {marks : List ℕ} {p v n r : ℕ} → Searched at (root_mark p) marks v n
    → r ≡ n + to_empty marks p places → PruneVisits at p v r
unfolding root_mark
visits-found {at} {marks} {p} {v} {n} {r} s e =
    record {
      sweeps = s.sweeps;
      each = s.each;
      visited = let c = s.visited in let f = ap (λ l. to_empty l p places) s.found in omega arith;
    }

-- there is one number of sweeps, and one of visits
sweeps_one : {at : Places} {start : List ℕ} {j k : ℕ} → Sweeps at start j → Sweeps at start k → j ≡ k
sweeps_one {j = j} {k} a b = go (ltb j k) (ltb k j) refl refl
  where
    go : (t u : Bool) → ltb j k ≡ t → ltb k j ≡ u → j ≡ k
    go true u h g = absurd (b.more j (ltb-true j k h) a.last)
    go false true h g = absurd (a.more k (ltb-true k j g) b.last)
    go false false h g = let x = ltb-false j k h in let y = ltb-false k j g in omega arith

pub visits_one : {at : Places} {p before r t : ℕ} → PruneVisits at p before r → PruneVisits at p before t → r ≡ t
visits_one {at} {p} {before} a b =
    a.visited
    ∙ (ap (λ k. before + (places * (k + 1) + to_empty (marks_after at k (root_mark p)) p places)) (sweeps_one a.each b.each) ∙ sym b.visited)
