-- What an effect does to the places: a capability set, a place dropped, what is derived from a place pruned, a mailbox emptied. An
-- invariant of the shape 'each place, with what it holds, satisfies Q' goes through a drop and a pruning here, and through a setting by
-- set-each. Assumes nothing.
use mathlib.Core.Path.{◌≡◌, refl, ◌∙◌}
use mathlib.Core.Bool.{Bool, true, false, cond}
use mathlib.Core.Logic.{◌⊎◌, inl, inr}
use Prim.Native.Nat.{ℕ, suc}
use lib.Dec.{eqb}
use borrow.Author.Tests.{eqb-true, eqb-false, eq-eqb, ne_eqb}
use Rattle.rules.specs.State.{State, Places, room, nothing, Source, derived_from}
use Rattle.rules.specs.Turn.{dropped, pruned, apply}
use Rattle.rules.specs.declared.Capability.{Capability}
use Rattle.rules.specs.declared.Effect.TheVariants.{Take, Move}
use Rattle.rules.proofs.Laws.{set_here, set_there}

-- two places are the same or not
pub same? : (a b : ℕ) → (a ≡ b) ⊎ (a ≡ b → ⊥)
same? a b = go (eqb a b) refl
  where
    go : (t : Bool) → eqb a b ≡ t → (a ≡ b) ⊎ (a ≡ b → ⊥)
    go true e = inl (eqb-true a b e)
    go false e = inr (eqb-false a b e)

-- c with another source
abbrev pub resourced : Capability → ℕ → Capability
resourced c x = record { kind = c.kind; rights = c.rights; object = c.object; badge = c.badge; source = x }

module _ (at : Places) (p : ℕ) where
  pub dropped-here : dropped at p p ≡ nothing
  unfolding dropped
  dropped-here = rw (eq-eqb p p refl)

  -- whatever had p as its source gets p's source instead
  pub dropped_child : (q : ℕ) → (q ≡ p → ⊥) → Source at p q → dropped at p q ≡ resourced (at q) (at p).source
  unfolding dropped
  dropped_child q h e = rw (ne_eqb q p h, eq-eqb _ _ e)

  -- any other place is as it was
  pub dropped_other : (q : ℕ) → (q ≡ p → ⊥) → (Source at p q → ⊥) → dropped at p q ≡ at q
  unfolding dropped
  dropped_other q h e = rw (ne_eqb q p h, ne_eqb _ _ e)

  pub pruned-gone : (q : ℕ) → derived_from at p q ≡ true → pruned at p q ≡ nothing
  unfolding pruned
  pruned-gone q h = rw h

  pub pruned-kept : (q : ℕ) → derived_from at p q ≡ false → pruned at p q ≡ at q
  unfolding pruned
  pruned-kept q h = rw h

-- ---- RECEIVE leaves nothing under way in its mailbox

module _ (s : State) (m : ℕ) where
  pub take_empties : (apply s (Take m)).capability (room m) ≡ nothing
  unfolding apply
  take_empties = set_here s.capability (room m) _

  pub move_empties : (p : ℕ) → (room m ≡ p → ⊥) → (apply s (Move m p)).capability (room m) ≡ nothing
  unfolding apply
  move_empties p h = set_there _ p _ (room m) h ∙ set_here s.capability (room m) _

-- ---- each place, with what it holds, satisfies Q

module _ (Q : ℕ → Capability → Type 0) (at : Places) (each : (q : ℕ) → Q q (at q)) where
  pub each-dropped : (p : ℕ) → ((q : ℕ) → Q q nothing) → ((q : ℕ) → Source at p q → Q q (resourced (at q) (at p).source))
      → (q : ℕ) → Q q (dropped at p q)
  unfolding dropped
  each-dropped p none child q = go (eqb q p) (eqb (at q).source (suc p)) refl
    where
      go : (t u : Bool) → eqb (at q).source (suc p) ≡ u
          → Q q (cond t nothing (resourced (at q) (cond u (at p).source (at q).source)))
      go true u e = none q
      go false true e = child q (eqb-true _ _ e)
      go false false e = each q

  pub each-pruned : (p : ℕ) → ((q : ℕ) → Q q nothing) → (q : ℕ) → Q q (pruned at p q)
  unfolding pruned
  each-pruned p none q = go (derived_from at p q)
    where
      go : (t : Bool) → Q q (cond t nothing (at q))
      go true = none q
      go false = each q
