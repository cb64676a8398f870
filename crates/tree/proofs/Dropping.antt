-- DELETE's sweep: source number x gives way to y, one place after the other; and what the sweep and the emptying of p come to.
-- Assumes nothing.
use mathlib.Core.Path.{◌≡◌, refl, ap, fun_ext}
use mathlib.Core.Bool.{Bool, true, false, cond}
use mathlib.Core.List.{List}
use Prim.Native.Nat.{ℕ, suc, ◌+◌, ◌<◌}
use native.Mathlib.Omega.{arith}
use lib.Dec.{eqb, ltb}
use borrow.Author.Tests.{ltb-false, lt-ltb, le-ltb, eqb-true, eqb-false, ne_eqb}
use Rattle.rules.specs.Sizes.{places}
use Rattle.rules.specs.State.{State, nothing}
use Rattle.rules.specs.Turn.{set, dropped, with_places}
use Rattle.rules.specs.declared.Capability.{Capability}
use Rattle.layout.specs.Layout.{state_of}
use Rattle.layout.specs.Stored.{Stored, placed, resourced, handed}
use Rattle.layout.proofs.Stores.{stored_then}
use Rattle.tree.specs.Tree.{dropping, handing}
use Rattle.tree.proofs.Kept.{below-same, stored_as, Ends, ends}

module _ (x y : ℕ) where
  handing-zero : (s : State) → s ≡ handing 0 x y s
  unfolding handing
  handing-zero s = ap (with_places s) (fun_ext (λ q. rw (le-ltb q 0 (omega arith))))

  handing-suc : (n : ℕ) (s : State) → handed n x y (handing n x y s) ≡ handing (n + 1) x y s
  unfolding handing handed set
  handing-suc n s = ap (with_places s) (fun_ext (λ q. go q (eqb q n) refl))
    where
      change : ℕ → Capability
      change q = resourced x y (s.capability q)

      go : (q : ℕ) (t : Bool) → eqb q n ≡ t
          → cond t (resourced x y (cond (ltb n n) (change n) (s.capability n))) (cond (ltb q n) (change q) (s.capability q))
          ≡ cond (ltb q (n + 1)) (change q) (s.capability q)
      go q true e = rw (le-ltb n n (omega arith), eqb-true q n e, lt-ltb n (n + 1) (omega arith))
      go q false e = ap (λ t. cond t (change q) (s.capability q)) (below-same q n (eqb-false q n e))

  -- before the first place, one place on, and after the last
  pub handed_none : (m : List ℕ) → Stored Unit (handing 0 x y) m m
  handed_none m = record { long = refl; frames = refl; behind = λ k h. refl; exact = λ o. handing-zero (state_of m) }

  pub handed_more : {m n o : List ℕ} (q : ℕ) → q < places → Stored Unit (handing q x y) m n → Stored (q < places) (handed q x y) n o
      → Stored Unit (handing (q + 1) x y) m o
  handed_more {m} q h a b = stored_as (λ o. (tt, h)) (λ o. handing-suc q (state_of m)) (stored_then a b)

-- the whole sweep, and then p
dropping_swept : (s : State) (p y : ℕ) → y ≡ (s.capability p).source → Ends s
    → placed p nothing (handing places (p + 1) y s) ≡ dropping p s
unfolding dropping handing placed set resourced dropped
dropping_swept s p y e past = ap (with_places s) (fun_ext (λ q. go q (eqb q p) (ltb q places) refl))
  where
    change : ℕ → ℕ → Capability
    change x q = record { kind = (s.capability q).kind; rights = (s.capability q).rights; object = (s.capability q).object; badge = (s.capability q).badge; source = x }

    go : (q : ℕ) (t u : Bool) → ltb q places ≡ u
        → cond t nothing (cond u (change (cond (eqb (s.capability q).source (p + 1)) y (s.capability q).source) q) (s.capability q))
        ≡ cond t nothing (change (cond (eqb (s.capability q).source (suc p)) (s.capability p).source (s.capability q).source) q)
    go q true u h = refl
    go q false true h = rw (e, let g : p + 1 ≡ suc p = omega arith in g)
    go q false false h = let z = past q (ltb-false q places h) in rw (ne_eqb (s.capability q).source (suc p) (λ g. omega arith))

pub dropped_all : {m n o : List ℕ} (p y : ℕ) → y ≡ ((state_of m).capability p).source → Stored Unit (handing places (p + 1) y) m n
    → Stored (p < places) (placed p nothing) n o → Stored (p < places) (dropping p) m o
dropped_all {m} p y e a b = stored_as (λ o. (tt, o)) (λ o. dropping_swept (state_of m) p y e (ends m)) (stored_then a b)
