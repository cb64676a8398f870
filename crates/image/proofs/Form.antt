-- The laws of refusals 20 to 25: what each way out of the functions that test them has to show. Assumes nothing.
use mathlib.Core.Path.{◌≡◌, refl, sym, ap, ◌∙◌, fun_ext}
use mathlib.Core.Bool.{Bool, true, false, not, ◌&&◌, ◌||◌}
use mathlib.Core.List.{List, [], ◌∷◌}
use Prim.Native.Nat.{ℕ, zero, suc, ◌+◌, ◌-◌, ◌*◌, ◌/◌, ◌≤◌, ◌<◌}
use native.Mathlib.Omega.{arith}
use native.Mathlib.Numerals.{add-one}
use lib.Dec.{eqb, leb, ltb, leb-zero}
use lib.ListN.{length, take, drop}
use lib.Bits.{bit_and}
use denote.Enum.Bare.{sameb}
use borrow.Author.Tests.{eqb-true, le-ltb, le-leb, lt-leb, ne_eqb}
use Rattle.std.specs.Prelude.{◌≢◌}
use Rattle.std.specs.List.{list_all, range_with_len}
use Rattle.rules.specs.Sizes.{slots}
use Rattle.rules.specs.State.{FRAME, MAILBOX, BELL, GRANT, within, objects as objects_of}
use Rattle.rules.specs.Kind.{kind_number}
use Rattle.rules.specs.contracts.Kind.{the_type}
use Rattle.rules.specs.declared.Kind.{Kind}
use Rattle.rules.specs.declared.Kind.TheVariants.{Frame, Mailbox, Bell}
use Rattle.rules.specs.Turn.{◌then◌else◌}
use Rattle.rules.specs.Image.{Entry, header_bytes, entry_bytes, size_d, size_t, size_c, size_f, padded, entries_at, length_for, table_of, padding_of, entry_at, entries_from, image_of, place_of, all, right_sizes, right_length, right_turns, right_entry, between, rising_from, rising, refusal_of_form}
use Rattle.image.specs.Said.{Whole}
use Rattle.image.specs.Sources.{entries_of, each_entry}

-- ---- 23: the table's bytes and the padding

-- below 1 is 0
below_one : ◌≡◌ {A = ℕ → Bool} (λ x. ltb x 1) (λ x. eqb x 0)
below_one = fun_ext go
  where
    go : (x : ℕ) → ltb x 1 ≡ eqb x 0
    go zero = refl
    go (suc x) = le-ltb (suc x) 1 (omega arith) ∙ sym (ne_eqb (suc x) 0 (λ e. omega arith))

-- the library's test of each is the rules'
all_same : {A : Type 0} (f : A → Bool) (xs : List A) → list_all f xs ≡ all f xs
unfolding all
all_same f [] = refl
all_same f (x ∷ xs) = ap (λ t. f x && t) (all_same f xs)

-- the table's bytes below D, and those after it below 1
pub turns_law : (b table padding : List ℕ) (D t at : ℕ) (r s : Bool) → D ≡ size_d b → t ≡ size_t b → at ≡ header_bytes + (t + 3) / 4 * 4
    → table ≡ table_of b → padding ≡ take (at - (header_bytes + t)) (drop (header_bytes + t) b)
    → r ≡ list_all (λ x. ltb x D) table → s ≡ list_all (λ x. ltb x 1) padding → (r && s) ≡ right_turns b
unfolding right_turns padding_of padded
turns_law b table padding D t at r s d e a x y p q =
    let n : at - (header_bytes + t) ≡ (size_t b + 3) / 4 * 4 - size_t b = omega arith in
    cc (rw (x, d, all_same) at p, rw (y, n, e, below_one, all_same) at q)

-- ---- 24: one entry

and_true : (t : Bool) → (t && true) ≡ t
and_true true = refl
and_true false = refl

and_false : (t : Bool) → (t && false) ≡ false
and_false true = refl
and_false false = refl

-- an entry of a kind
pub kind_law : (k : Kind) (domains frames objects : ℕ) (m : Bool) (e : Entry) → kind_number k ≡ e.kind → m ≡ sameb the_type k Mailbox
    → objects ≡ objects_of frames (kind_number k)
    → ((ltb e.domain domains && ltb e.slot slots) && leb e.rights 7 && (not (eqb (bit_and GRANT e.rights) GRANT) || m) && ltb e.object objects && eqb e.last 0)
    ≡ right_entry domains frames e
unfolding right_entry between within
kind_law Frame domains frames objects m e h p q = rw (← h, p, q, and_true)
kind_law Mailbox domains frames objects m e h p q = rw (← h, p, q, and_true)
kind_law Bell domains frames objects m e h p q = rw (← h, p, q, and_true)

no_kind : (n : ℕ) → n ≢ FRAME → n ≢ MAILBOX → n ≢ BELL → between FRAME BELL n ≡ false
unfolding between
no_kind zero f m b = refl
no_kind (suc zero) f m b = absurd (f refl)
no_kind (suc (suc zero)) f m b = absurd (m refl)
no_kind (suc (suc (suc zero))) f m b = absurd (b refl)
no_kind (suc (suc (suc (suc n)))) f m b = rw (lt-leb (suc (suc (suc (suc n)))) 3 (omega arith), and_false)

-- an entry of no kind
pub unkind_law : (domains frames : ℕ) (e : Entry) → e.kind ≢ FRAME → e.kind ≢ MAILBOX → e.kind ≢ BELL → false ≡ right_entry domains frames e
unfolding right_entry
unkind_law domains frames e f m b = rw (no_kind e.kind f m b, and_false)

-- ---- 24: the entries from entry i on

-- entry i of the image, and the entries from it on
abbrev pub entry_of : List ℕ → ℕ → Entry
entry_of b i = entry_at b (entries_at (size_t b) + entry_bytes * i)

abbrev pub later : List ℕ → ℕ → List Entry
later b i = entries_from b (size_c b - i) (entries_at (size_t b) + entry_bytes * i)

pub later_all : (b : List ℕ) → later b 0 ≡ entries_of b
unfolding image_of
later_all b =
    let m : size_c b - 0 ≡ size_c b = omega arith in
    let n : entries_at (size_t b) + entry_bytes * 0 ≡ entries_at (size_t b) = omega arith in
    rw (m, n)

-- n entries from byte i on: the first of them and the others
entries_cons : (b : List ℕ) (n i : ℕ) → 0 < n → entries_from b n i ≡ entry_at b i ∷ entries_from b (n - 1) (i + entry_bytes)
unfolding entries_from
entries_cons b zero i l = absurd (omega arith)
entries_cons b (suc n) i l = let z : suc n - 1 ≡ n = omega arith in rw z

-- entry i and those after it
pub later_cons : (b : List ℕ) (i : ℕ) → i < size_c b → later b i ≡ entry_of b i ∷ later b (i + 1)
later_cons b i l =
    let m : size_c b - i - 1 ≡ size_c b - (i + 1) = omega arith in
    let n : entries_at (size_t b) + entry_bytes * i + entry_bytes ≡ entries_at (size_t b) + entry_bytes * (i + 1) = omega arith in
    rw (m, n) at (entries_cons b (size_c b - i) (entries_at (size_t b) + entry_bytes * i) (omega arith))

-- no entry is left
pub later_none : (b : List ℕ) (i : ℕ) → size_c b ≤ i → later b i ≡ []
unfolding entries_from
later_none b i l = let z : size_c b - i ≡ 0 = omega arith in rw z

-- n entries from entry k on, tested one by one
each_from : (f : Entry → Bool) (b : List ℕ) (x n k : ℕ) → list_all (λ i. f (entry_at b (x + entry_bytes * i))) (range_with_len k n) ≡ all f (entries_from b n (x + entry_bytes * k))
unfolding all entries_from
each_from f b x zero k = refl
each_from f b x (suc n) k =
    let e : x + entry_bytes * (k + 1) ≡ x + entry_bytes * k + entry_bytes = omega arith in
    ap (λ t. f (entry_at b (x + entry_bytes * k)) && t) (each_from f b x n (k + 1) ∙ ap (λ y. all f (entries_from b n y)) e)

-- the code's test of each entry is the rules'
pub each_same : (f : Entry → Bool) (b : List ℕ) (n : ℕ) → n ≡ size_c b → each_entry f b n ≡ all f (entries_of b)
unfolding image_of
each_same f b n e = rw e (let x : entries_at (size_t b) + entry_bytes * 0 ≡ entries_at (size_t b) = omega arith in rw x at (each_from f b (entries_at (size_t b)) (size_c b) 0))

-- every entry is right, in the header's words
pub each_right : {r : Bool} {b c : List ℕ} {D F n : ℕ} → r ≡ each_entry (right_entry D F) c n → D ≡ size_d c → F ≡ size_f c → n ≡ size_c c → c ≡ b
    → r ≡ all (right_entry (size_d b) (size_f b)) (entries_of b)
each_right {r} {b} {c} {D} {F} {n} h d f e z = rw z at (rw (d, f) at (h ∙ each_same (right_entry D F) c n e))

-- ---- 25: strictly rising order

-- the entries rise strictly, from a place on
unfoldable pub rises_from : ℕ → List Entry → Bool
rises_from next [] = true
rises_from next (e ∷ es) = leb next (place_of e) && rises_from (suc (place_of e)) es

rises-after : (e : Entry) (es : List Entry) → rises_from (suc (place_of e)) es ≡ rising_from e es
unfolding rises_from rising_from
rises-after e [] = refl
rises-after e (f ∷ fs) = ap (λ t. ltb (place_of e) (place_of f) && t) (rises-after f fs)

pub rises_all : (es : List Entry) → rises_from 0 es ≡ rising es
unfolding rises_from rising
rises_all [] = refl
rises_all (e ∷ es) = rw (leb-zero (place_of e)) (rises-after e es)

module _ (w : Bool) (b : List ℕ) (next place i : ℕ) (e : Entry) (left : i < size_c b) (here : e ≡ entry_of b i) (at : place ≡ place_of e) where
  -- one more entry that rises
  pub rises-turn : next ≤ place → rises_from next (later b i) ≡ w → rises_from (place + 1) (later b (i + 1)) ≡ w
  unfolding rises_from
  rises-turn t h = rw (later_cons b i left, ← here, ← at, le-leb next place t, ← add-one place) at h

  -- an entry that does not
  pub rises-stop : place < next → rises_from next (later b i) ≡ w → false ≡ w
  unfolding rises_from
  rises-stop t h = rw (later_cons b i left, ← here, ← at, lt-leb next place t) at h

-- no entry is left
pub rises_end : (w : Bool) (b : List ℕ) (next i : ℕ) → size_c b ≤ i → rises_from next (later b i) ≡ w → true ≡ w
unfolding rises_from
rises_end w b next i l h = rw (later_none b i l) at h

-- ---- the first that applies

-- the length that passes 22
pub whole_law : (b : List ℕ) (r : Bool) → r ≡ right_length b → r ≡ true → Whole b
unfolding right_length length_for entries_at padded
whole_law b r p t = record { long = eqb-true _ _ (sym p ∙ t) }

pub short_law : (b : List ℕ) → length b < header_bytes → ◌≡◌ {A = ℕ} 20 (refusal_of_form b)
unfolding refusal_of_form ◌then◌else◌
short_law b h = rw (lt-leb header_bytes (length b) h)

-- the tests of 21 to 25, as far as they were made: each passed but the last
module _ (b : List ℕ) (long : header_bytes ≤ length b) (r1 : Bool) (p1 : r1 ≡ right_sizes b) where
  pub sizes_law : r1 ≡ false → ◌≡◌ {A = ℕ} 21 (refusal_of_form b)
  unfolding refusal_of_form ◌then◌else◌
  sizes_law t = rw (le-leb header_bytes (length b) long, ← p1, t)

  module _ (t1 : r1 ≡ true) (r2 : Bool) (p2 : r2 ≡ right_length b) where
    pub length_law : r2 ≡ false → ◌≡◌ {A = ℕ} 22 (refusal_of_form b)
    unfolding refusal_of_form ◌then◌else◌
    length_law t = rw (le-leb header_bytes (length b) long, ← p1, t1, ← p2, t)

    module _ (t2 : r2 ≡ true) (r3 : Bool) (p3 : r3 ≡ right_turns b) where
      pub table_law : r3 ≡ false → ◌≡◌ {A = ℕ} 23 (refusal_of_form b)
      unfolding refusal_of_form ◌then◌else◌
      table_law t = rw (le-leb header_bytes (length b) long, ← p1, t1, ← p2, t2, ← p3, t)

      module _ (t3 : r3 ≡ true) (r4 : Bool) (p4 : r4 ≡ all (right_entry (size_d b) (size_f b)) (entries_of b)) where
        pub entries_law : r4 ≡ false → ◌≡◌ {A = ℕ} 24 (refusal_of_form b)
        unfolding refusal_of_form ◌then◌else◌ image_of
        entries_law t =
            rw (le-leb header_bytes (length b) long, ← p1, t1, ← p2, t2, ← p3, t3, ← p4, t)

        module _ (t4 : r4 ≡ true) (r5 : Bool) (p5 : r5 ≡ rising (entries_of b)) where
          -- those before 25 passed
          rises_is : refusal_of_form b ≡ (0 then r5 else 25)
          unfolding refusal_of_form ◌then◌else◌ image_of
          rises_is =
              rw (le-leb header_bytes (length b) long, ← p1, t1, ← p2, t2, ← p3, t3, ← p4, t4, ← p5)

          pub rises_law : r5 ≡ false → ◌≡◌ {A = ℕ} 25 (refusal_of_form b)
          unfolding ◌then◌else◌
          rises_law t = rw (rises_is, t)

          pub form_law : r5 ≡ true → ◌≡◌ {A = ℕ} 0 (refusal_of_form b)
          unfolding ◌then◌else◌
          form_law t = rw (rises_is, t)
