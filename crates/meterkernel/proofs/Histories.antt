-- What is known of a memory that came about: it is good, and its state is reached by the rules, with the record of births that the rules
-- keep. Assumes nothing.
use mathlib.Core.Path.{◌≡◌, refl, sym, subst, subst₂}
use mathlib.Core.Bool.{Bool, true, false}
use mathlib.Core.List.{List}
use mathlib.Core.Logic.{◌⊎◌, inl, inr, ⊎_elim}
use Prim.Native.Nat.{ℕ, ◌≤◌, ◌<◌}
use native.Mathlib.Omega.{arith}
use lib.Dec.{leb}
use lib.ListN.{length}
use borrow.Author.Tests.{leb-true, leb-false}
use Rattle.rules.specs.Image.{Bytes, size_f, refusal_of}
use Rattle.rules.specs.Authority.{Reached, booted, turned}
use Rattle.rules.specs.History.{Ledger, opened, recorded, Followed, booted as begun, turned as followed}
use Rattle.rules.specs.declared.Operation.{Operation}
use Rattle.rules.specs.declared.Answer.{Answer}
use Rattle.rules.proofs.Places.{same?}
use Rattle.layout.specs.Layout.{state_of, words_for}
use Rattle.turn.specs.Turned.{Good, Exact}
use Rattle.boot.specs.Booted.{Loaded, Booted}
use Rattle.boot.proofs.Loading.{boot-good}
use Rattle.meterkernel.specs.Demands.{Turn, History, booted as from, turned as on}

-- one number is at least another, or below it
pub least? : (a b : ℕ) → (a ≤ b) ⊎ (b < a)
least? a b = go (leb a b) refl
  where
    go : (t : Bool) → leb a b ≡ t → (a ≤ b) ⊎ (b < a)
    go true e = inl (leb-true a b e)
    go false e = inr (leb-false a b e)

-- an answer of 0: the bytes are an accepted image, and the memory holds its state
pub record Accepted (b m n : List ℕ) : Type 0 where
  pub right : refusal_of b ≡ 0
  pub long : words_for (size_f b) ≤ length m
  pub loaded : Loaded b m n

pub accepted : {b m n : List ℕ} → Booted b m 0 n → Accepted b m n
accepted {b} {m} {n} h = ⊎_elim long (λ k. absurd (k (sym (h.refused k).0))) (same? (refusal_of b) 0)
  where
    long : refusal_of b ≡ 0 → Accepted b m n
    long z =
        ⊎_elim (λ l. record { right = z; long = l; loaded = (h.accepted z l).1 }) (λ l. absurd (let e = (h.short z l).0 in omega arith))
        (least? (words_for (size_f b)) (length m))

pub booted-good : {b m n : List ℕ} → Bytes b → Booted b m 0 n → Good n
booted-good {b} {m} {n} y h = let a = accepted h in boot-good b m n y a.right a.long a.loaded

-- a turn on good memory
pub turn-visits : {m n : List ℕ} {o : Operation} {x : Answer} → Good m → Turn m o n x → ℕ
turn-visits g t = (t.called.turned t.words t.room g.enough).0

pub turn-exact : {m n : List ℕ} {o : Operation} {x : Answer} (g : Good m) (t : Turn m o n x) → Exact m o n x (turn-visits g t)
unfolding turn-visits
turn-exact {m} {n} g t = subst₂ (λ p y. Exact m p n y (turn-visits g t)) t.asked t.told ((t.called.turned t.words t.room g.enough).1.exact g)

-- what is known
pub record Known (b m : List ℕ) (l : Ledger) : Type 0 where
  pub good : Good m
  pub reached : Reached b (state_of m)
  pub followed : Followed b (state_of m) l

pub known : {b m : List ℕ} {l : Ledger} → History b m l → Known b m l
known {b} (from {n = n} y h) =
    let a = accepted h in
    let e = sym a.loaded.state in
    record {
      good = booted-good y h;
      reached = subst (Reached b) e (booted y a.right);
      followed = subst (λ s. Followed b s (opened s)) e (begun y a.right);
    }
known {b} (on {m = m} {l = l} {o = o} h t) =
    let k = known h in
    let x = turn-exact k.good t in
    let e = sym x.state in
    record {
      good = x.good;
      reached = subst (Reached b) e (turned k.reached o);
      followed = subst (λ s. Followed b s (recorded (state_of m) o l)) e (followed k.followed o);
    }
