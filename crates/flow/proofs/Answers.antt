-- The laws of what is written: what each byte says, and the answer at each way out. Assumes nothing.
use mathlib.Core.Path.{◌≡◌, refl, sym, ap, ◌∙◌, subst}
use mathlib.Core.Bool.{Bool, true, not, true≢false}
use mathlib.Core.List.{List, [], ◌∷◌}
use Prim.Native.Nat.{ℕ, zero, suc, ◌+◌, ◌*◌, ◌/◌, ◌%◌, ◌^◌, ◌≤◌, ◌<◌}
use native.Mathlib.Omega.{arith}
use lib.Arith.{digits_lt, digits_div, digits_mod}
use lib.Dec.{eqb, leb}
use lib.ListN.{length, get_or}
use lib.Bits.{bit_and}
use borrow.Author.Tests.{le-leb, lt-leb, eqb-true, ne_eqb}
use Rattle.rules.specs.Turn.{◌then◌else◌}
use Rattle.rules.specs.Image.{size_d, size_c, image_of, refusal_of, all_below}
use Rattle.rules.specs.Flow.{triple_of, CouldHold, Flow}
use Rattle.rules.proofs.Certificate.{below_at}
use Rattle.image.specs.Said.{said}
use Rattle.image.specs.declared.Fields.{Fields}
use Rattle.flow.specs.Masks.{In, Meets, row, Themselves}
use Rattle.flow.specs.Cells.{cell_of, entry_numbered, Accepted, Listed, Noted, Reach}
use Rattle.flow.specs.Edges.{Whole}
use Rattle.flow.specs.Answer.{Says, Tells, answer_for, Held, Flows}
use Rattle.flow.proofs.Bits.{meets_some, some_meet}
use Rattle.flow.proofs.Holding.{meets_holds, holds_meets}

-- ---- one byte

module _ {b cells rows : List ℕ} {f : Fields} (x d i : ℕ) (acc : Accepted b) (noted : Noted b (size_c b) cells) (reach : Reach cells rows)
    (low : i < size_c b) (l : Listed b i f) (e : x ≡ cell_of (triple_of (said f))) where
  the_cell : x ≡ cell_of (triple_of (entry_numbered b i))
  the_cell = e ∙ ap (λ k. cell_of (triple_of k)) l.exact

  -- the test of the masks says whether the domain could hold the triple
  pub held_says : Says (not (eqb (bit_and (get_or rows d 0) (get_or cells x 0)) 0)) (CouldHold (image_of b) d (triple_of (entry_numbered b i)))
  held_says =
      record {
        told = λ t. meets_holds acc noted reach d i low
            (subst (λ k. Meets (row rows d) (get_or cells k 0)) the_cell (some_meet _ _ (λ z. true≢false (sym (rw z at t)))));
        every = λ h. ap not (ne_eqb _ _ (λ z. meets_some (subst (λ k. Meets (row rows d) (get_or cells k 0)) (sym the_cell) (holds_meets acc noted reach d i h)) z));
      }

-- ---- what each byte says

-- each of the first n bytes y says whether P y, and the bytes behind are as before
pub record Filled (P : ℕ → Type 0) (n : ℕ) (before after : List ℕ) : Type 0 where
  pub long : length after ≡ length before
  pub tells : (y : ℕ) → y < n → Tells (get_or after y 0) (P y)
  pub behind : (y : ℕ) → n ≤ y → get_or after y 0 ≡ get_or before y 0

-- byte y of rows of n bytes stands for domain y / n and entry y % n: that domain could hold that entry's triple
abbrev pub HoldsAt : List ℕ → ℕ → ℕ → Type 0
HoldsAt b n y = CouldHold (image_of b) (y / n) (triple_of (entry_numbered b (y % n)))

-- byte y of rows of n bytes stands for domains y / n and y % n: the one is in the row of the other
abbrev pub InAt : List ℕ → ℕ → ℕ → Type 0
InAt rows n y = In (y % n) (row rows (y / n))

-- ---- the answers

answer-refused : (b out : List ℕ) (n r : ℕ) → r ≡ refusal_of b → 0 < r → r ≡ answer_for b n out
unfolding answer_for ◌then◌else◌
answer-refused b out n r e h = go (refusal_of b) e
  where
    go : (x : ℕ) → r ≡ x → r ≡ (x then leb n (length out) else 28)
    go zero e = absurd (omega arith)
    go (suc x) e = e

answer-short : (b out : List ℕ) (n r : ℕ) → r ≡ refusal_of b → r ≤ 0 → length out < n → 28 ≡ answer_for b n out
unfolding answer_for ◌then◌else◌
answer-short b out n r e h l = let z : refusal_of b ≡ 0 = omega arith in rw (z, lt-leb n (length out) l)

answer-right : (b out : List ℕ) (n r : ℕ) → r ≡ refusal_of b → r ≤ 0 → n ≤ length out → 0 ≡ answer_for b n out
unfolding answer_for ◌then◌else◌
answer-right b out n r e h l = let z : refusal_of b ≡ 0 = omega arith in rw (z, le-leb n (length out) l)

-- could_hold: refused, out too short, written
pub held-refused : {b out : List ℕ} (r : ℕ) → r ≡ refusal_of b → 0 < r → Held b out r out
held-refused {b} {out} r e h =
    record {
      answer = answer-refused b out _ r e h;
      untouched = λ n. refl;
      tells = λ z. absurd (omega arith);
      behind = λ z y l. refl;
      long = refl;
    }

pub held-short : {b out : List ℕ} (r d n : ℕ) → r ≡ refusal_of b → r ≤ 0 → d ≡ size_d b → n ≡ size_c b → length out < d * n → Held b out 28 out
held-short {b} {out} r d n e h p q l =
    record {
      answer = answer-short b out _ r e h (rw (p, q) at l);
      untouched = λ n. refl;
      tells = λ z. absurd (omega arith);
      behind = λ z y l. refl;
      long = refl;
    }

pub held-written : {b out written : List ℕ} (r d n : ℕ) → r ≡ refusal_of b → r ≤ 0 → d ≡ size_d b → n ≡ size_c b → d * n ≤ length out
    → Filled (HoldsAt b n) (size_d b * n) out written → Held b out 0 written
held-written {b} {out} {written} r d n e h p q l f =
    record {
      answer = answer-right b out _ r e h (rw (p, q) at l);
      untouched = λ z. absurd (z refl);
      tells = λ z x y u v. at x y (g.tells (x * size_c b + y) (digits_lt u v)) v;
      behind = λ z y u. g.behind y u;
      long = g.long;
    }
  where
    g : Filled (HoldsAt b (size_c b)) (size_d b * size_c b) out written
    g = subst (λ k. Filled (HoldsAt b k) (size_d b * k) out written) q f

    at : (x y : ℕ) → Tells (get_or written (x * size_c b + y) 0) (HoldsAt b (size_c b) (x * size_c b + y)) → y < size_c b
        → Tells (get_or written (x * size_c b + y) 0) (CouldHold (image_of b) x (triple_of (entry_numbered b y)))
    at x y t v = rw (digits_div x v, digits_mod x v) at t

-- flow: refused, out too short, written
pub flows-refused : {b out : List ℕ} (r : ℕ) → r ≡ refusal_of b → 0 < r → Flows b out r out
flows-refused {b} {out} r e h =
    record {
      answer = answer-refused b out _ r e h;
      untouched = λ n. refl;
      tells = λ z. absurd (omega arith);
      behind = λ z y l. refl;
      long = refl;
    }

pub flows-short : {b out : List ℕ} (r n : ℕ) → r ≡ refusal_of b → r ≤ 0 → n ≡ size_d b → length out < n * n → Flows b out 28 out
flows-short {b} {out} r n e h p l =
    record {
      answer = answer-short b out _ r e h (rw p at l);
      untouched = λ n. refl;
      tells = λ z. absurd (omega arith);
      behind = λ z y l. refl;
      long = refl;
    }

pub flows-written : {b out written rows : List ℕ} (r n : ℕ) → r ≡ refusal_of b → r ≤ 0 → n ≡ size_d b → n * n ≤ length out → Whole b rows
    → Filled (InAt rows n) (n * n) out written → Flows b out 0 written
flows-written {b} {out} {written} {rows} r n e h p l w f =
    record {
      answer = answer-right b out _ r e h (rw p at l);
      untouched = λ z. absurd (z refl);
      tells = λ z x y u v. at x y (g.tells (x * size_d b + y) (digits_lt u v)) u v;
      behind = λ z y u. g.behind y u;
      long = g.long;
    }
  where
    g : Filled (InAt rows (size_d b)) (size_d b * size_d b) out written
    g = subst (λ k. Filled (InAt rows k) (k * k) out written) p f

    at : (x y : ℕ) → Tells (get_or written (x * size_d b + y) 0) (InAt rows (size_d b) (x * size_d b + y)) → x < size_d b → y < size_d b
        → Tells (get_or written (x * size_d b + y) 0) (Flow (image_of b) x y)
    at x y t u v =
        let q : Tells (get_or written (x * size_d b + y) 0) (In y (row rows x)) = rw (digits_div x v, digits_mod x v) at t in
        record { most = q.most; told = λ z. w.told x y u (q.told z); every = λ z. q.every (w.every x y z) }

-- the rows that have themselves alone
pub themselves : Themselves (1 ∷ 2 ∷ 4 ∷ 8 ∷ 16 ∷ 32 ∷ 64 ∷ 128 ∷ 256 ∷ 512 ∷ 1024 ∷ 2048 ∷ 4096 ∷ 8192 ∷ 16384 ∷ 32768 ∷ [])
unfolding all_below
themselves = record { long = refl; itself = λ a l. eqb-true _ _ (below_at test 16 right a l) }
  where
    test : ℕ → Bool
    test a = eqb (row (1 ∷ 2 ∷ 4 ∷ 8 ∷ 16 ∷ 32 ∷ 64 ∷ 128 ∷ 256 ∷ 512 ∷ 1024 ∷ 2048 ∷ 4096 ∷ 8192 ∷ 16384 ∷ 32768 ∷ []) a) (2 ^ a)

    right : all_below 16 test ≡ true
    right = refl
