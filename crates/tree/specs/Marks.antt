-- The marks by which REVOKE finds what is derived from a place: a number for each source number, 1 where it is marked and else 0. Source
-- number 0 is no source and is never marked; source number q + 1 is place q. Assumes nothing.
use Rattle.std.specs.Prelude.{◌≡◌, Bool, cond, not, ◌&&◌, List, ◌⊎◌, ℕ, zero, suc, ◌+◌, ◌≤◌, ◌<◌, eqb, ltb, length, get_or}
use Rattle.rules.specs.Sizes.{places}
use Rattle.rules.specs.State.{State, Places, nothing, Derived}
use Rattle.rules.specs.Turn.{with_places}
use Rattle.layout.specs.Stored.{placed}

-- source number x is marked
abbrev pub Marked : List ℕ → ℕ → Type 0
Marked marks x = get_or marks x 0 ≡ 1

-- how many of the places below n are marked
unfoldable pub counted : List ℕ → ℕ → ℕ
counted marks zero = 0
counted marks (suc q) = counted marks q + get_or marks (suc q) 0

-- no mark yet
pub record Blank (marks : List ℕ) : Type 0 where
  pub long : length marks ≡ suc places
  pub none : (x : ℕ) → get_or marks x 0 ≡ 0

-- marks, n of them
pub record Marks (n : ℕ) (marks : List ℕ) : Type 0 where
  pub long : length marks ≡ suc places
  pub none : get_or marks 0 0 ≡ 0
  pub most : (x : ℕ) → get_or marks x 0 ≤ 1
  pub count : n ≡ counted marks places

-- place p is marked, and whatever else is marked is derived from it
pub record Rooted (at : Places) (p : ℕ) (marks : List ℕ) : Type 0 where
  pub root : Marked marks (suc p)
  pub derived : (q : ℕ) → Marked marks (suc q) → (q ≡ p) ⊎ Derived at p q

-- place q is marked where its source is
abbrev pub Follows : Places → List ℕ → ℕ → Type 0
Follows at marks q = Marked marks (at q).source → Marked marks (suc q)

-- the places from a up to b were visited, and n marks became m, each new one at a place whose source is marked; where no mark is new, each of
-- these places is marked where its source is
pub record Swept (at : Places) (a b n : ℕ) (before : List ℕ) (m : ℕ) (after : List ℕ) : Type 0 where
  pub marks : Marks m after
  pub more : n ≤ m
  pub same : m ≡ n → after ≡ before
  pub rooted : (p : ℕ) → Rooted at p before → Rooted at p after
  pub follows : m ≡ n → (q : ℕ) → a ≤ q → q < b → Follows at after q

-- place p is marked, whatever else is marked is derived from it, and each place is marked where its source is
pub record Closed (at : Places) (p : ℕ) (marks : List ℕ) : Type 0 where
  pub long : length marks ≡ suc places
  pub none : get_or marks 0 0 ≡ 0
  pub most : (x : ℕ) → get_or marks x 0 ≤ 1
  pub rooted : Rooted at p marks
  pub follows : (q : ℕ) → q < places → Follows at marks q

-- place q is to be emptied: it is marked, and it is not p
unfoldable pub chosen : List ℕ → ℕ → ℕ → Bool
chosen marks p q = not (eqb (get_or marks (suc q) 0) 0) && not (eqb q p)

-- how many of the places below n are to be emptied
unfoldable pub to_empty : List ℕ → ℕ → ℕ → ℕ
to_empty marks p zero = 0
to_empty marks p (suc q) = to_empty marks p q + cond (chosen marks p q) 1 0

-- place q is empty where it is to be; and so is each place below n
unfoldable pub clearing : List ℕ → ℕ → ℕ → State → State
clearing marks p q s = cond (chosen marks p q) (placed q nothing s) s

unfoldable pub emptying : ℕ → List ℕ → ℕ → State → State
emptying n marks p s = with_places s (λ q. cond (ltb q n && chosen marks p q) nothing (s.capability q))
