-- The worked examples of documents 01 and 03: the statements of specs/Worked.antt, by computation, and where they speak of every place,
-- every flow or every set, by computed tests and what is proved in general. Assumes nothing.
use mathlib.Core.Path.{◌≡◌, refl, sym, ◌∙◌}
use mathlib.Core.Bool.{Bool, true, false, cond, ◌&&◌, false≢true}
use mathlib.Core.List.Memᴰ
use mathlib.Core.List.{List, [], ◌∷◌, ◌++◌, map, Memᴰ}
use mathlib.Core.Logic.{◌⊎◌, inl, inr, ⊎_elim}
use Prim.Native.Nat.{ℕ, zero, suc, ◌<◌}
use native.Mathlib.Omega.{arith}
use lib.Dec.{eqb, ltb}
use lib.ListN.{length, get_or}
use borrow.Author.Tests.{ltb-true, ltb-false, eqb-true}
use Rattle.rules.specs.Sizes.{places}
use Rattle.rules.specs.State.{State, Places, Formed, FRAME, MAILBOX, READ, WRITE, slot, nothing, within, whose, comes_to, derived_from, objects}
use Rattle.rules.specs.Turn.{◌then◌else◌, present, holds, any_slot_refusal, slot_for_refusal, conclude, load, store, derived, derive, delete, revoke, ring, hear, copied, send, moves, receive, look, named, decided, decide, set, dropped, pruned, apply, advance, next, answer, after}
use Rattle.rules.specs.Image.{Bytes, Entry, Image, padded, entries_at, length_for, table_of, padding_of, entry_at, entries_from, image_of, sourceless, source_of, capability_given, given, boot, all, some, between, right_sizes, right_length, right_turns, right_entry, rising_from, rising, defines, fitting, right_source, refusal_of_form, refusal_of, read_as, read, source_bytes, entry_for, occupied, entries_for, bytes_for, all_below, writable, write}
use Rattle.rules.specs.Flow.{triple_of, image, Could, Writer, Reader, mailbox, derivation, Flow, itself, direct, onward, Closed}
use Rattle.rules.specs.Authority.{Reached, booted, turned}
use Rattle.rules.specs.Worked.{bytes, BytesAccepted, BytesWritten, RowsPlayed, state_after, removed, Removes, FifteenthRemoves, from_modem, told, FlowsExactly, closed_sets, ClosedExactly}
use Rattle.rules.specs.declared.Operation.{Operation}
use Rattle.rules.proofs.Laws.{both, decided_by, present-true}
use Rattle.rules.proofs.Places.{same?, pruned-gone, pruned-kept}
use Rattle.rules.proofs.Given.{all_at, some_at}
use Rattle.rules.proofs.Reached.{formed_always}
use Rattle.rules.proofs.Certificate.{Held, entry_held, same, meet, passed_on, channel, sourced, Certified, below_at, flow_bounded}

-- ---- the image, its state at boot and the state after n turns: to unfold one is to unfold all that computes it

example : Image
unfolding padded entries_at table_of entry_at entries_from image_of
example = image_of bytes

start : State
unfolding example sourceless source_of capability_given given boot
start = boot (image_of bytes)

later : ℕ → State
unfolding start within whose comes_to derived_from ◌then◌else◌ present any_slot_refusal slot_for_refusal conclude load store derived derive delete revoke ring hear copied send moves receive look named decided decide set dropped pruned apply advance next after
later n = state_after n

-- ---- document 01, section 6

-- no refusal applies to the 148 bytes
bytes-right : refusal_of bytes ≡ 0
unfolding start within comes_to objects ◌then◌else◌ length_for padding_of all some between right_sizes right_length right_turns right_entry rising_from rising defines fitting right_source refusal_of_form refusal_of
bytes-right = refl

-- the 148 bytes are accepted, and what was read is written back
pub bytes-accepted : BytesAccepted
unfolding read read_as
bytes-accepted = rw bytes-right

pub bytes-written : BytesWritten
unfolding start write writable all_below bytes_for entries_for occupied entry_for source_bytes present
bytes-written = refl

-- the 22 turns
pub rows-played : RowsPlayed
unfolding later answer
rows-played = refl

-- ---- the fifteenth turn

-- a list of numbers below 256 is bytes
bytes_of : (b : List ℕ) → all (λ x. ltb x 256) b ≡ true → Bytes b
unfolding all
bytes_of [] h i = omega arith
bytes_of (x ∷ xs) h zero = ltb-true _ _ (both (ltb x 256) _ h).0
bytes_of (x ∷ xs) h (suc i) = bytes_of xs (both (ltb x 256) _ h).1 i

-- a sequence of turns from a reached state comes to a reached state
reached_after : {b : List ℕ} {s : State} → Reached b s → (os : List Operation) → Reached b (after s os)
unfolding after
reached_after r [] = r
reached_after {s = s} r (o ∷ os) = reached_after {s = next s o} (turned r o) os

-- each of the example's states is reached
reached : (n : ℕ) → Reached bytes (state_after n)
unfolding all
reached n = reached_after (booted (bytes_of bytes refl) bytes-right) _

-- pruning what is derived from p removes the places of a list, where each of them holds a capability derived from p, and each place
-- derived from p is one of them
pruned_removes : (s : State) (p : ℕ) (ps : List ℕ) → Formed s
    → all (λ q. holds (s.capability q) && derived_from s.capability p q) ps ≡ true
    → all_below places (λ q. cond (derived_from s.capability p q) (some (eqb q) ps) true) ≡ true
    → Removes s.capability (pruned s.capability p) ps
pruned_removes s p ps f each only =
    record {
      held = λ q m. present-true _ (test q m).0;
      gone = λ q m. pruned-gone at p q (test q m).1;
      kept = λ q n.
          ⊎_elim (λ t. pruned-gone at p q t ∙ sym (empty q n t (decided_by (ltb q places)))) (pruned-kept at p q)
          (decided_by (derived_from at p q));
    }
  where
    at : Places
    at = s.capability

    test : (q : ℕ) → Memᴰ q ps → (holds (at q) ≡ true) × (derived_from at p q ≡ true)
    test q m = both _ _ (all_at (λ q. holds (at q) && derived_from at p q) m each)

    -- a derived place that is not in the list is no place, and has nothing
    empty : (q : ℕ) → (Memᴰ q ps → ⊥) → derived_from at p q ≡ true → (ltb q places ≡ true) ⊎ (ltb q places ≡ false)
        → at q ≡ nothing
    empty q n t (inl l) =
        let (x, m, e) = some_at (eqb q) ps (rw t at (below_at _ places only q (ltb-true _ _ l))) in
        absurd (n (Memᴰ.cast (eqb-true q x e) m))
    empty q n t (inr l) =
        f.empty q (⊎_elim (λ e. e) (λ h. absurd (let k = f.places_only q h in omega (arith, ltb-false))) (same? _ 0))

-- the fifteenth turn prunes what is derived from slot 0 of metering
pub fifteenth_removes : FifteenthRemoves
unfolding later all some all_below
fifteenth_removes =
    (pruned_removes (state_after 14) (slot 0 0) removed (formed_always bytes _ (reached 14)) refl refl, present-true _ refl)

-- ---- document 03, section 2

-- what each domain could hold: what the image gives, and for the modem what the program may pass to it
holdings : List Held
holdings =
    map entry_held (image_of bytes).entries
    ++ (record { domain = 3; triple = record { kind = FRAME; object = 9; rights = 3 } }
    ∷ record { domain = 3; triple = record { kind = MAILBOX; object = 3; rights = 6 } } ∷ [])

-- no more than that, and no flow but what the table says
certificate : Certified (image_of bytes) holdings told
unfolding example holdings sourceless within all some all_below same meet passed_on channel sourced
certificate =
    record {
      entries = refl;
      passing = refl;
      low = refl;
      frames = refl;
      bells_rung = refl;
      bells_heard = refl;
      mailboxes = refl;
      derivations = refl;
      reflexive = refl;
      transitive = refl;
    }

-- an entry of the image by its number
member : {A : Type 0} (xs : List A) (n : ℕ) (d : A) → n < length xs → Memᴰ (get_or xs n d) xs
member [] n d h = absurd (omega arith)
member (x ∷ xs) zero d h = Memᴰ.head refl
member (x ∷ xs) (suc n) d h = Memᴰ.tail (member xs n d (omega arith))

entry : (n : ℕ) → n < length (image_of bytes).entries
    → Memᴰ (get_or (image_of bytes).entries n (entry_at bytes 0)) (image_of bytes).entries
entry n = member _ n _

-- what an entry gives with a right
entry-could : {i : Image} {e : Entry} (r : ℕ) → Memᴰ e i.entries → within r e.rights ≡ true
    → Could i e.kind e.object r e.domain
entry-could {e = e} r m h = record { triple = triple_of e; could = image m; fit = record { kind_is = refl; object_is = refl; has = h } }

-- a mailbox flows both ways between a writer and a reader
tied : {i : Image} {m a b : ℕ} → Writer i MAILBOX m a → Reader i MAILBOX m b → (a ≡ b → ⊥) → Flow i a b × Flow i b a
tied w r n = (
  direct (record { different = n; because = mailbox (inl w) (inr r) }),
  direct (record { different = λ e. n (sym e); because = mailbox (inr r) (inl w) }),
)

-- mailbox 2 ties billing and the modem, mailbox 3 the program and the modem
billing_modem : Flow (image_of bytes) 1 3 × Flow (image_of bytes) 3 1
unfolding example within
billing_modem = tied (entry-could WRITE (entry 6 (omega arith)) refl) (entry-could READ (entry 9 (omega arith)) refl) (λ e. omega arith)

program_modem : Flow (image_of bytes) 2 3 × Flow (image_of bytes) 3 2
unfolding example within
program_modem = tied (entry-could WRITE (entry 8 (omega arith)) refl) (entry-could READ (entry 10 (omega arith)) refl) (λ e. omega arith)

-- slot 0 of billing has slot 0 of metering as its source
metering_billing : Flow (image_of bytes) 0 1
unfolding example sourceless
metering_billing =
    direct (record { different = λ (e : ◌≡◌ {A = ℕ} 0 1). omega arith; because = derivation (entry 3 (omega arith)) refl })

-- each domain flows to itself
on_itself : (a : ℕ) → a < 4 → Flow (image_of bytes) a a
unfolding example
on_itself a h = itself h

-- each yes of the modem's row, and of every row
from_modem_lem : (b : ℕ) → get_or from_modem b false ≡ true → Flow (image_of bytes) 3 b
from_modem_lem zero h = absurd (false≢true h)
from_modem_lem (suc zero) h = billing_modem.1
from_modem_lem (suc (suc zero)) h = program_modem.1
from_modem_lem (suc (suc (suc zero))) h = on_itself 3 (omega arith)
from_modem_lem (suc (suc (suc (suc b)))) h = absurd (false≢true h)

each_yes : (a b : ℕ) → told a b ≡ true → Flow (image_of bytes) a b
each_yes zero zero h = on_itself 0 (omega arith)
each_yes zero (suc b) h = onward metering_billing (onward billing_modem.0 (from_modem_lem (suc b) h))
each_yes (suc zero) b h = onward billing_modem.0 (from_modem_lem b h)
each_yes (suc (suc zero)) b h = onward program_modem.0 (from_modem_lem b h)
each_yes (suc (suc (suc zero))) b h = from_modem_lem b h
each_yes (suc (suc (suc (suc a)))) b h = absurd (false≢true h)

-- the table: each yes by a way, each no by the certificate
pub flows_exactly : FlowsExactly
flows_exactly a b = (each_yes a b, λ f. (flow_bounded certificate f).told)

-- ---- document 03, section 3

-- by the table, with each domain of the set the set has all that flow to it
shut : List Bool → Bool
shut l = all_below 4 (λ a. all_below 4 (λ b. cond (told a b && get_or l b false) (get_or l a false) true))

-- each of the closed sets passes
each_shut : all shut closed_sets ≡ true
unfolding shut all all_below
each_shut = refl

-- a set that has billing, program and modem alike, and metering with them, is one of the three
one_of_three : (k l : Bool) → (l ≡ true → k ≡ true) → Memᴰ (k ∷ l ∷ l ∷ l ∷ []) closed_sets
one_of_three true true h = Memᴰ.tail (Memᴰ.tail (Memᴰ.head refl))
one_of_three true false h = Memᴰ.tail (Memᴰ.head refl)
one_of_three false true h = absurd (false≢true (h refl))
one_of_three false false h = Memᴰ.head refl

-- two tests that imply each other are the same
alike : (a b : Bool) → (a ≡ true → b ≡ true) → (b ≡ true → a ≡ true) → a ≡ b
alike true b f g = sym (f refl)
alike false true f g = g refl
alike false false f g = refl

module _ (L : ℕ → Bool) where
  -- the set's row at a domain
  set_at : (a : ℕ) → a < 4 → get_or (L 0 ∷ L 1 ∷ L 2 ∷ L 3 ∷ []) a false ≡ L a
  set_at zero h = refl
  set_at (suc zero) h = refl
  set_at (suc (suc zero)) h = refl
  set_at (suc (suc (suc zero))) h = refl
  set_at (suc (suc (suc (suc a)))) h = absurd (omega arith)

  -- each of the closed sets is closed
  listed-closed : Memᴰ (L 0 ∷ L 1 ∷ L 2 ∷ L 3 ∷ []) closed_sets → Closed (image_of bytes) L
  unfolding example shut
  listed-closed m a b f t =
      let w = flow_bounded certificate f in
      let u = below_at _ 4 (below_at _ 4 (all_at shut m each_shut) a w.from_low) b w.to_low in
      sym (set_at a w.from_low) ∙ (rw (w.told, set_at b w.to_low, t) at u)

  -- a closed set is one of them: billing, program and modem all flow to one another
  closed-listed : Closed (image_of bytes) L → Memᴰ (L 0 ∷ L 1 ∷ L 2 ∷ L 3 ∷ []) closed_sets
  closed-listed c =
      rw (as_billing 2 (each_yes 1 2 refl) (each_yes 2 1 refl), as_billing 3 (each_yes 1 3 refl) (each_yes 3 1 refl))
      (one_of_three (L 0) (L 1) (c 0 1 (each_yes 0 1 refl)))
    where
      as_billing : (a : ℕ) → Flow (image_of bytes) 1 a → Flow (image_of bytes) a 1 → L a ≡ L 1
      as_billing a f g = alike _ _ (c 1 a f) (c a 1 g)

-- the closed sets: each of the three passes the test, and there is no other
pub closed_exactly : ClosedExactly
closed_exactly L = (closed-listed L, listed-closed L)
