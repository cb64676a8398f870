-- A run of the code is a run of the rules: after n turns the memory holds the state, and the domains have had the answers, that the rules
-- say. Assumes nothing.
use mathlib.Core.Path.{◌≡◌, refl, ap, ap₂, ◌∙◌}
use mathlib.Core.List.{List, ◌∷◌}
use Prim.Native.Nat.{ℕ, zero, suc, ◌≤◌, ◌<◌}
use native.Mathlib.Omega.{arith}
use Rattle.rules.specs.State.{whose}
use Rattle.rules.specs.Turn.{set, next, answer}
use Rattle.rules.specs.Image.{Bytes, image_of}
use Rattle.rules.specs.Partition.{Programs, Run, chosen, stepped, run}
use Rattle.rules.specs.declared.Answer.{Answer}
use Rattle.layout.specs.Layout.{state_of}
use Rattle.turn.specs.Turned.{Good}
use Rattle.meterkernel.specs.Demands.{heard, Runs}
use Rattle.meterkernel.proofs.Histories.{accepted, booted-good, turn-exact}

module _ {N : ℕ} {b : List ℕ} {P : Programs} {m : ℕ → List ℕ} {who : ℕ → ℕ} {x : ℕ → Answer} (bytes : Bytes b) (runs : Runs N b P m who x) where
  -- the run of the rules after n turns
  abbrev ruled : ℕ → Run
  ruled n = run (image_of b) P n

  -- the memory and the answers before turn n
  pub record As (n : ℕ) : Type 0 where
    pub good : Good (m n)
    pub state : state_of (m n) ≡ (ruled n).state
    pub past : heard who x n ≡ (ruled n).past

  whose-turn : {n : ℕ} → n < N → As n → who n ≡ whose (ruled n).state
  whose-turn {n} h a = (runs.asked n h).long a.good.enough ∙ ap whose a.state

  one_more : {n : ℕ} → n < N → As n → As (suc n)
  unfolding heard run stepped chosen
  one_more {n} h a =
      let w = whose-turn h a in
      let t = turn-exact a.good (runs.turns n h) in
      let o = ap₂ (λ f d. P d (f d)) a.past w in
      record {
        good = t.good;
        state = t.state ∙ ap₂ next a.state o;
        past = ap₂ (λ f d. set f d (x n ∷ f d)) a.past w
            ∙ ap (λ y. set (ruled n).past (whose (ruled n).state) (y ∷ (ruled n).past (whose (ruled n).state))) (t.answered ∙ ap₂ answer a.state o);
      }

  pub so_far : (n : ℕ) → n ≤ N → As n
  unfolding heard run
  so_far zero h = record { good = booted-good bytes runs.booted; state = (accepted runs.booted).loaded.state; past = refl }
  so_far (suc n) h = one_more (omega arith) (so_far n (omega arith))

  pub turn-of : (n : ℕ) → n < N → who n ≡ whose (ruled n).state
  turn-of n h = whose-turn h (so_far n (omega arith))
