-- The operations by their numbers: which decision is whose, and that any other number is refused. Assumes nothing.
use mathlib.Core.Path.{◌≡◌, sym, ap, ◌∙◌}
use Prim.Native.Nat.{ℕ, ◌+◌, ◌≤◌}
use lib.ListN.{get_or-eq_default}
use Rattle.rules.specs.State.{State}
use Rattle.rules.specs.Turn.{conclude, unknown, named, decided, decide}
use Rattle.rules.specs.declared.Operation.{Operation}
use Rattle.rules.specs.declared.Decision.{Decision}
use Rattle.rules.specs.declared.Refusal.{Refusal}
use Rattle.rules.specs.declared.Refusal.TheVariants.{NoOperation}
use Rattle.std.specs.Prelude.{Result, Err}
use Rattle.look.specs.Looks.{Decides}
use native.Mathlib.Omega.{arith}
use Rattle.decide.specs.Visits.{looks}

module _ (s : State) (d : ℕ) (o : Operation) {before after : ℕ} where
  pub by_number : {r : Result Decision Refusal} (n : ℕ) → o.number ≡ n → Decides r after (decided s d (named n) o) before (looks s d (named n) o)
      → Decides r after (decide s d o) before (looks s d (named o.number) o)
  unfolding decide
  by_number n e k = record { decision = k.decision ∙ ap (λ y. decided s d (named y) o) (sym e); visits = k.visits ∙ ap (λ y. before + looks s d (named y) o) (sym e) }

  pub by_no_number : 11 ≤ o.number → after ≡ before → Decides (Err NoOperation) after (decide s d o) before (looks s d (named o.number) o)
  unfolding decide decided named conclude looks
  by_no_number h k = record { decision = rw (get_or-eq_default _ unknown h); visits = rw (get_or-eq_default _ unknown h) (omega arith) }
