-- The demands at work on the worked example. Assumes nothing.
use mathlib.Core.Path.{◌≡◌, refl, sym, ap, ◌∙◌, subst}
use mathlib.Core.List.{List, [], ◌∷◌, Memᴰ}
use Prim.Native.Nat.{ℕ, zero, suc, ◌<◌}
use native.Mathlib.Omega.{arith}
use lib.ListN.{length, get_or}
use borrow.Author.Tests.{eqb-true}
use Rattle.rules.specs.State.{State, whose}
use Rattle.rules.specs.Turn.{next, answer}
use Rattle.rules.specs.Worked.{bytes, Row, row, rows, operations, played}
use Rattle.rules.specs.declared.Operation.{Operation}
use Rattle.rules.proofs.Worked.{rows-played, closed_exactly}
use Rattle.layout.specs.Layout.{state_of}
use Rattle.turn.specs.Turned.{Good, Exact}
use Rattle.boot.proofs.Loading.{worked_bytes, worked_right, worked_some}
use Rattle.meterkernel.specs.Demands.{heard}
use Rattle.meterkernel.specs.Example.{ExampleBoots, ExampleRun, metering, MeteringClosed, MeteringHearsNobody}
use Rattle.meterkernel.proofs.Histories.{accepted, turn-visits, turn-exact}
use Rattle.meterkernel.proofs.Running.{so_far}
use Rattle.meterkernel.proofs.Demands.{partitions_dont_hear}

pub example_boots : ExampleBoots
example_boots lent h =
    let (n, l, g) = worked_some lent h in (
      n,
      record {
        refused = λ k. absurd (k worked_right);
        short = λ z k. absurd (omega arith);
        accepted = λ z k. (refl, l);
      },
    )

-- states one after the other that take the operations of some rows show these rows
shown : (rs : List Row) (s : ℕ → State) (o : ℕ → Operation) → played (s 0) (operations rs) ≡ rs
    → ((n : ℕ) → n < length rs → o n ≡ (get_or rs n (row 0 0 [] 0 [])).operation) → ((n : ℕ) → n < length rs → s (suc n) ≡ next (s n) (o n))
    → (n : ℕ) → n < length rs
    → (whose (s n) ≡ (get_or rs n (row 0 0 [] 0 [])).domain) × (answer (s n) (o n) ≡ (get_or rs n (row 0 0 [] 0 [])).answer)
shown [] s o e f g n h = absurd (omega arith)
shown (r ∷ rs) s o e f g zero h =
    let first = ap (λ l. get_or l 0 (row 0 0 [] 0 [])) e in
    (ap (λ (x : Row). x.domain) first, ap (answer (s 0)) (f 0 (omega arith)) ∙ ap (λ (x : Row). x.answer) first)
shown (r ∷ rs) s o e f g (suc n) h =
    shown rs (λ k. s (suc k)) (λ k. o (suc k))
    (subst (λ t. played t (operations rs) ≡ rs) (sym (g 0 (omega arith) ∙ ap (next (s 0)) (f 0 (omega arith)))) (ap rest e))
    (λ k l. f (suc k) (omega arith)) (λ k l. g (suc k) (omega arith)) n (omega arith)
  where
    rest : List Row → List Row
    rest [] = []
    rest (x ∷ xs) = xs

pub example_run : ExampleRun
example_run P m who x r f n h =
    let (w, y) =
    shown rows (λ k. state_of (m k)) (λ k. P (who k) (heard who x k (who k)))
    (subst (λ s. played s (operations rows) ≡ rows) (sym (accepted r.booted).loaded.state) rows-played) f (λ k l. (taken k l).state) n h in
    ((r.asked n h).long (good n h).enough ∙ w, (taken n h).answered ∙ y)
  where
    good : (k : ℕ) → k < 22 → Good (m k)
    good k l = (so_far worked_bytes r k (omega arith)).good

    taken : (k : ℕ) (l : k < 22) → Exact (m k) (P (who k) (heard who x k (who k))) (m (suc k)) (x k) (turn-visits (good k l) (r.turns k l))
    taken k l = turn-exact (good k l) (r.turns k l)

pub metering-closed : MeteringClosed
metering-closed = (closed_exactly metering).1 (Memᴰ.tail (Memᴰ.head refl))

pub metering_hears_nobody : MeteringHearsNobody
metering_hears_nobody P Q e N m m' who who' x x' r r' n h =
    partitions_dont_hear.answers bytes worked_bytes metering metering-closed P Q
    (λ d k. subst (λ z. P z ≡ Q z) (sym (eqb-true d 0 k)) e) N m m' who who' x x' r r' n 0 h refl
