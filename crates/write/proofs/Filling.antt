-- Laws of the whole image: its length, its parts, and that its numbers are bytes where the state is as section 1 says. Assumes nothing.
use mathlib.Core.Path.{◌≡◌, refl, sym, ap, ◌∙◌}
use mathlib.Core.Bool.{Bool, true, false, cond, not, ◌&&◌}
use mathlib.Core.List.{List, [], ◌∷◌, ◌++◌, map}
use mathlib.Core.Logic.{⊎_elim}
use Prim.Native.Nat.{ℕ, zero, suc, ◌+◌, ◌-◌, ◌*◌, ◌/◌, ◌%◌, ◌≤◌, ◌<◌}
use native.Mathlib.Omega.{arith}
use lib.Dec.{eqb, leb, ltb}
use lib.ListN.{length, replicate, length-append, length-replicate, get_or-eq_default}
use Rattle.std.specs.List.{filter, range_with_len}
use Rattle.std.proofs.lemmas.List.{map-append}
use borrow.Author.Tests.{leb-true, ltb-true, ltb-false, eqb-false}
use Rattle.rules.specs.Sizes.{slots, domains_most, turns_most, frames_most, mailboxes, bells, entries_most, all_slots}
use Rattle.rules.specs.State.{FRAME, MAILBOX, State, Places, slot, Holds, objects, WellFormed, Formed}
use Rattle.rules.specs.Turn.{present}
use Rattle.rules.specs.Image.{Bytes, padded, entries_at, length_for, between, bytes_of, source_bytes, entry_for, occupied, entries_for, bytes_for}
use Rattle.rules.specs.declared.Capability.{Capability}
use Rattle.rules.proofs.Laws.{both, decided_by}
use Rattle.rules.proofs.RoundTripEntries.{occupied-most, entries-bytes}
use Rattle.image.specs.declared.Header.{Header}
use Rattle.layout.specs.Layout.{Headed}
use Rattle.layout.specs.declared.Head.{Head}
use Rattle.write.specs.Written.{sized}
use Rattle.write.specs.Laid.{held, low, Ready}
use Rattle.write.proofs.Entering.{occupied_filter}

-- ---- sizes and length

range-most : (most n : ℕ) → between 1 most n ≡ true → n ≤ most
unfolding between
range-most most n h = leb-true n most (both (leb 1 n) (leb n most) h).1

-- what the test of the sizes tells
pub in-range : (s : State) → sized s ≡ true → (s.domains ≤ domains_most) × (length s.turns ≤ turns_most)
unfolding sized
in-range s h =
    let d = between 1 domains_most s.domains in
    let t = between 1 turns_most (length s.turns) in
    let (l, m) = both d t (both (d && t) (between 1 frames_most s.frames) h).0 in
    (range-most _ _ l, range-most _ _ m)

-- the slots of the state's domains
slots_of : (at : Places) (d e : ℕ) → d ≡ e → occupied at (d * slots) 0 ≡ occupied at (slot e 0) 0
slots_of at d e h = ap (λ n. occupied at n 0) (let g : d * slots ≡ slot e 0 = omega arith in g)

-- the header has as many entries as the rules say
pub headed : (s : State) {h : Head} {n : ℕ} → sized s ≡ true → Headed s h → n ≡ length (filter (held s.capability) (range_with_len 0 (h.domains * slots)))
    → Ready s (record { domains = h.domains; turns = h.turns; entries = n; frames = h.frames })
headed s {h} {n} z e o =
    let r = in-range s z in
    record {
      domains = e.domains;
      turns = e.turns;
      entries = o ∙ ap length (occupied_filter s.capability (h.domains * slots) 0);
      frames = e.frames;
      domains_in_range = omega (arith, e.domains);
      turns_in_range = omega (arith, e.turns);
    }

-- no more entries than slots
pub entries-most : (s : State) (h : Header) → Ready s h → h.entries ≤ entries_most
entries-most s h r = omega (arith, occupied-most s.capability (h.domains * slots) 0, r.domains_in_range, r.entries)

-- ---- the whole

-- the image's length is what its header says
pub size_law : (s : State) (h : Header) → Ready s h → length_for h.turns h.entries ≡ length (bytes_for s)
unfolding bytes_for length_for entries_at padded
size_law s h r =
    rw (r.turns, r.entries, slots_of s.capability _ _ r.domains) (simp (length-append, length-replicate, entries-bytes) (omega arith))

-- zeros are their own bytes
zeros_low : (n : ℕ) → map low (replicate n 0) ≡ replicate n 0
zeros_low zero = refl
zeros_low (suc n) = ap (λ l. 0 ∷ l) (zeros_low n)

-- the header, the table, the padding and the entries are the image
pub filled : {a t z e : List ℕ} {n : ℕ} (s : State) (h : Header) → Ready s h
    → a ≡ map low ((h.domains ∷ h.turns ∷ []) ++ (bytes_of h.entries ++ (bytes_of h.frames ++ (0 ∷ 0 ∷ [])))) → t ≡ map low s.turns
    → z ≡ replicate n 0 → n ≡ (h.turns + 3) / 4 * 4 - h.turns → e ≡ map low (entries_for s.capability (occupied s.capability (h.domains * slots) 0))
    → a ++ (t ++ (z ++ e)) ≡ map low (bytes_for s)
unfolding bytes_for padded
filled s h r i j k l m =
    let ps = occupied s.capability (slot s.domains 0) 0 in
    let head = (s.domains ∷ length s.turns ∷ []) ++ (bytes_of (length ps) ++ (bytes_of s.frames ++ (0 ∷ 0 ∷ []))) in
    let zeros = replicate {A = ℕ} ((length s.turns + 3) / 4 * 4 - length s.turns) 0 in
    rw (i, j, k, l, m, r.entries, slots_of s.capability _ _ r.domains, r.domains, r.turns, r.frames)
    (sym (map-append low head (s.turns ++ (zeros ++ entries_for s.capability ps)) ∙ ap (λ y. map low head ++ y)
    (map-append low s.turns (zeros ++ entries_for s.capability ps) ∙ ap (λ y. map low s.turns ++ y)
    (map-append low zeros (entries_for s.capability ps) ∙ ap (λ y. y ++ map low (entries_for s.capability ps)) (zeros_low _)))))

-- ---- bytes

-- each is a byte
record Small (l : List ℕ) : Type 0 where
  each : Bytes l

small_none : Small []
small_none = record { each = λ i. omega arith }

small_more : {x : ℕ} {l : List ℕ} → x < 256 → Small l → Small (x ∷ l)
small_more {x} {l} h g = record { each = go }
  where
    go : Bytes (x ∷ l)
    go zero = h
    go (suc i) = g.each i

small_append : (l k : List ℕ) → Small l → Small k → Small (l ++ k)
small_append [] k h g = g
small_append (x ∷ l) k h g = small_more (h.each 0) (small_append l k (record { each = λ i. h.each (suc i) }) g)

infixr 30 ◌and◌
-- one list of bytes and another
◌and◌ : {l k : List ℕ} → Small l → Small k → Small (l ++ k)
◌and◌ {l} {k} h g = small_append l k h g

small-zeros : (n : ℕ) → Small (replicate n 0)
small-zeros zero = small_none
small-zeros (suc n) = small_more (omega arith) (small-zeros n)

small_pair : {a b : ℕ} → a < 256 → b < 256 → Small (a ∷ b ∷ [])
small_pair h g = small_more h (small_more g small_none)

small_two : (n : ℕ) → n < 65536 → Small (bytes_of n)
small_two n h = small_pair (omega arith) (omega arith)

small-source : (x : ℕ) → x ≤ all_slots → Small (source_bytes x)
unfolding source_bytes
small-source zero h = small_pair (omega arith) (omega arith)
small-source (suc p) h = small_pair (omega arith) (omega arith)

-- a frame's number, a mailbox's and a bell's are below 256
objects-most : (frames kind : ℕ) → frames ≤ frames_most → objects frames kind ≤ 256
unfolding objects
objects-most frames kind h = go (eqb kind FRAME) (eqb kind MAILBOX)
  where
    go : (t u : Bool) → cond t frames (cond u mailboxes bells) ≤ 256
    go true u = h
    go false true = omega arith
    go false false = omega arith

-- the entry of a slot
small-entry : (p frames : ℕ) (c : Capability) → p < all_slots → frames ≤ frames_most → WellFormed frames c → Small (entry_for p c)
unfolding entry_for
small-entry p frames c h f w =
    let o = objects-most frames c.kind f in
    small_pair {a = p / slots} {b = p % slots} (omega arith) (omega arith) and small_pair {a = c.kind} {b = c.rights} (omega arith) (omega arith)
    and small_two c.object (omega arith) and small_two c.badge (omega arith) and small-source c.source w.source and small-zeros 2

-- the entries of n slots from p on
small-entries : (at : Places) (frames n p : ℕ) → p + n ≤ all_slots → frames ≤ frames_most → ((q : ℕ) → Holds at q → WellFormed frames (at q))
    → Small (entries_for at (occupied at n p))
unfolding occupied entries_for present
small-entries at frames zero p h f w = small_none
small-entries at frames (suc n) p h f w = go (eqb (at p).kind 0) refl (small-entries at frames n (suc p) (omega arith) f w)
  where
    go : (t : Bool) → eqb (at p).kind 0 ≡ t → Small (entries_for at (occupied at n (suc p)))
        → Small (entries_for at (cond (not t) (p ∷ occupied at n (suc p)) (occupied at n (suc p))))
    go true e rest = rest
    go false e rest = small-entry p frames (at p) (omega arith) f (w p (eqb-false _ _ e)) and rest

-- the table of turns
small-turns : (s : State) → Formed s → Small s.turns
small-turns s f = record { each = go }
  where
    go : Bytes s.turns
    go i =
        let d = f.domains.1 in
        ⊎_elim (λ l. omega (arith, f.turns i (ltb-true _ _ l))) (λ l. omega (arith, get_or-eq_default s.turns 0 (ltb-false _ _ l)))
        (decided_by (ltb i (length s.turns)))

-- the whole image
pub bytes-written : (s : State) → Formed s → Bytes (bytes_for s)
unfolding bytes_for
bytes-written s f =
    let d = f.domains in
    let t = f.table in
    let r = f.frames in
    let most = occupied-most s.capability (slot s.domains 0) 0 in
    let whole : Small (bytes_for s) =
    small_pair {a = s.domains} {b = length s.turns} (omega arith) (omega arith)
    and small_two (length (occupied s.capability (slot s.domains 0) 0)) (omega arith) and small_two s.frames (omega arith) and small-zeros 2
    and small-turns s f and small-zeros (padded (length s.turns) - length s.turns)
    and small-entries s.capability s.frames (slot s.domains 0) 0 (omega arith) r.1 f.capability in
    whole.each
