-- What the sweeps share: one place on, other words for the same change of memory, and that there is no source past the last place.
-- Assumes nothing.
use mathlib.Core.Path.{◌≡◌, refl, sym, ◌∙◌, subst}
use mathlib.Core.Bool.{Bool, true, false}
use mathlib.Core.List.{List}
use Prim.Native.Nat.{ℕ, ◌+◌, ◌≤◌}
use native.Mathlib.Omega.{arith}
use lib.Dec.{ltb}
use borrow.Author.Tests.{ltb-true, ltb-false, lt-ltb, le-ltb}
use Rattle.rules.specs.Sizes.{places}
use Rattle.rules.specs.State.{State}
use Rattle.layout.specs.Layout.{size, cells, of_cells, state_of}
use Rattle.layout.specs.Stored.{Stored}

-- one place on, any other place is below or not as before
pub below-same : (q n : ℕ) → (q ≡ n → ⊥) → ltb q n ≡ ltb q (n + 1)
below-same q n k = go (ltb q n) refl
  where
    go : (t : Bool) → ltb q n ≡ t → ltb q n ≡ ltb q (n + 1)
    go true h = let l = ltb-true q n h in h ∙ sym (lt-ltb q (n + 1) (omega arith))
    go false h = let l = ltb-false q n h in h ∙ sym (le-ltb q (n + 1) (omega arith))

-- what was done to the state in memory, said in other words
pub stored_as : {p q : Type 0} {f g : State → State} {m n : List ℕ} → (q → p) → (q → f (state_of m) ≡ g (state_of m)) → Stored p f m n → Stored q g m n
stored_as h e s = record { long = s.long; frames = s.frames; behind = s.behind; exact = λ o. s.exact (h o) ∙ e o }

-- a sweep that has come to its end
pub stored_end : {p : Type 0} (f : ℕ → State → State) {m n : List ℕ} {q e : ℕ} → q ≤ e → e ≤ q → Stored p (f q) m n → Stored p (f e) m n
stored_end {p} f {m} {n} {q} {e} h g s = subst (λ k. Stored p (f k) m n) (let z : q ≡ e = omega arith in z) s

-- past the last place there is no source
abbrev pub Ends : State → Type 0
Ends s = (q : ℕ) → places ≤ q → (s.capability q).source ≡ 0

pub ends : (m : List ℕ) → Ends (state_of m)
unfolding state_of of_cells cells size
ends m q h = rw (le-ltb q places h)
