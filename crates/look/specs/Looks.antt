-- The contracts that the checks of every operation share: what a decision is, and what looking a slot up gives and visits.
-- Assumes nothing.
use Rattle.std.specs.Prelude.{◌≡◌, cond, ℕ, zero, suc, ◌+◌, ◌*◌, ◌^◌, ◌<◌, ltb, Result, Ok, Err, IfOk}
use Rattle.rules.specs.Sizes.{slots}
use Rattle.rules.specs.State.{State}
use Rattle.rules.specs.Turn.{held, words, refusal}
use Rattle.rules.specs.Refusal.{number_of, status_of}
use Rattle.rules.specs.declared.Refusal.{Refusal}
use Rattle.rules.specs.declared.Capability.{Capability}
use Rattle.rules.specs.declared.Effect.{Effect}
use Rattle.rules.specs.declared.Effect.TheVariants.{Nothing}
use Rattle.rules.specs.declared.Decision.{Decision}

-- refusal n; an effect with status 0 and one word
abbrev pub refused_by : ℕ → Decision
refused_by n = record { effect = Nothing; answer = refusal n }

abbrev pub done_by : Effect → ℕ → Decision
done_by f w = record { effect = f; answer = words w 0 0 0 0 0 }

-- what checks came to, as a decision: a refusal by name is one by its number
abbrev pub decision_of : Result Decision Refusal → Decision
decision_of (Ok x) = x
decision_of (Err e) = refused_by (number_of e)

-- the decision is x, and so many places were visited for it, from before on
pub record Decides (r : Result Decision Refusal) (after : ℕ) (x : Decision) (before looked : ℕ) : Type 0 where
  pub decision : decision_of r ≡ x
  pub visits : after ≡ before + looked

-- slot number x is looked up: a visit where it is one
unfoldable pub seen : ℕ → ℕ
seen x = cond (ltb x slots) 1 0

-- n visits where the checks before them came to no refusal, else none
unfoldable pub unless : ℕ → ℕ → ℕ
unless zero n = n
unless (suc e) n = 0

-- slot x of domain d was looked up with checks that come to refusal e, its visits from before on
pub record Looks (r : Result Capability Refusal) (after : ℕ) (s : State) (d x e before : ℕ) : Type 0 where
  pub refusal : status_of r ≡ e
  pub capability : IfOk r (λ c. c ≡ held s d x)
  -- where nothing was refused x is a slot
  pub slot : x < slots + 2 ^ 32 * status_of r
  pub visits : after ≡ before + seen x
