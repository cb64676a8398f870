-- Whose turn it is depends on the table alone: the position counts the turns, round and round.
-- Assumes nothing.
use mathlib.Core.Path.{◌≡◌, refl, sym, ap, ap₂, ◌∙◌}
use mathlib.Core.Bool.{Bool, true, false, cond}
use mathlib.Core.List.{List}
use Prim.Native.Nat.{ℕ, zero, suc, ◌%◌, ◌≤◌, ◌<◌}
use native.Mathlib.Omega.{arith}
use native.Mathlib.Nat.{suc-mod, mod_self, mod-lt, mod-eq_of_lt, zero-mod}
use lib.Dec.{eqb}
use lib.ListN.{length, get_or}
use borrow.Author.Tests.{eqb-true, eqb-false}
use Rattle.rules.specs.State.{State, whose}
use Rattle.rules.specs.Turn.{advance, next}
use Rattle.rules.specs.Image.{Image, image_of, boot}
use Rattle.rules.specs.Partition.{Programs, stepped, run, TurnsByTable}
use Rattle.rules.specs.declared.Operation.{Operation}
use Rattle.rules.proofs.Fixed.{apply_fixed}
use Rattle.rules.proofs.Bootable.{boot-formed}

-- a state after n turns: the table is the image's, and the position is n, round and round
pub record Clock (i : Image) (n : ℕ) (s : State) : Type 0 where
  pub turns : s.turns ≡ i.turns
  pub position : s.position ≡ n % length i.turns

-- on by one, from the last to the first
on_by_one : (n t : ℕ) → 0 < t → cond (eqb (suc (n % t)) t) 0 (suc (n % t)) ≡ suc n % t
on_by_one n t h = by (eqb (suc (n % t)) t) refl
  where
    by : (b : Bool) → eqb (suc (n % t)) t ≡ b → cond b 0 (suc (n % t)) ≡ suc n % t
    by true e = sym (suc-mod n t ∙ (ap (λ k. k % t) (eqb-true _ _ e) ∙ mod_self t))
    by false e =
        let l : n % t < t = mod-lt n h in
        let ne : suc (n % t) ≡ t → ⊥ = eqb-false _ _ e in
        let m : suc (n % t) < t = omega arith in
        sym (suc-mod n t ∙ mod-eq_of_lt m)

clock_next : {i : Image} {n : ℕ} {s : State} → 1 ≤ length i.turns → Clock i n s → (o : Operation) → Clock i (suc n) (next s o)
unfolding next advance
clock_next {i} {n} {s} h c o =
    let (k, p) = apply_fixed s _ in
    record {
      turns = k.turns ∙ c.turns;
      position = ap₂ (λ p l. cond (eqb (suc p) (length l)) 0 (suc p)) (p ∙ c.position) (k.turns ∙ c.turns)
          ∙ on_by_one n (length i.turns) h;
    }

-- the clock of every run
clock : (b : List ℕ) → 1 ≤ length (image_of b).turns → (P : Programs) (n : ℕ) → Clock (image_of b) n (run (image_of b) P n).state
unfolding run stepped boot
clock b h P zero = record { turns = refl; position = sym (zero-mod _) }
clock b h P (suc n) = clock_next h (clock b h P n) _

-- after n turns it is the turn of the domain at n, round and round, whatever the programs
pub turns_by_table : TurnsByTable
unfolding whose boot
turns_by_table b y h P n =
    let c = clock b (boot-formed b y h).table.0 P n in
    ap₂ (λ l p. get_or l p 0) c.turns c.position
