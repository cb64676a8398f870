-- The round trips of document 01, section 5: writing what was read gives the bytes back, so an image describes each state in one way only;
-- reading what was written gives the state back; and every reached state is Proper. Assumes nothing.
use mathlib.Core.Path.{◌≡◌, refl, sym, ap, ap₂, fun_ext}
use mathlib.Core.Bool.{Bool, true, false, cond, not, ◌&&◌, ◌||◌}
use mathlib.Core.List.{List, [], ◌∷◌, ◌++◌, map, append_assoc, Memᴰ}
use mathlib.Core.Logic.{◌⊎◌, inl, inr, ⊎_elim}
use Prim.Native.Nat.{ℕ, zero, suc, ◌+◌, ◌-◌, ◌/◌, ◌%◌, ◌≤◌, ◌<◌}
use native.Mathlib.Omega.{arith}
use native.Mathlib.Nat.{div-add-mod'}
use lib.Dec.{eqb, ltb}
use lib.Arith.{digits_div, digits_mod}
use lib.ListN.{length, get_or, drop, replicate, length-append, length-drop, length-map, length-replicate, get_or-replicate, take-append-drop}
use lib.Seq.{length-take-le, drop-drop, take_at, drop_at}
use borrow.Author.Tests.{ltb-true, ltb-false, lt-ltb, le-leb, eqb-true, eq-eqb}
use Rattle.rules.specs.Sizes.{slots, frames_most, frame_words, mailboxes, bells, entries_most, all_slots}
use Rattle.rules.specs.State.{slot, room, no_message, State, whose, Places, Holds, Section4, objects, Formed}
use Rattle.rules.specs.Turn.{◌then◌else◌, held, present, full, set, changed, apply, advance, next}
use Rattle.rules.specs.Image.{Entry, Image, Bytes, byte, header_bytes, entry_bytes, size_d, size_t, size_c, size_f, padded, entries_at, length_for, table_of, padding_of, entries_from, image_of, place_of, sourceless, given, boot, all, some, between, right_sizes, right_length, right_turns, right_entry, defines, refusal_of_form, refusal_of, accepted, read_as, read, source_bytes, occupied, entries_for, bytes_for, all_below, writable, image, unwritable, write}
use Rattle.rules.specs.Authority.{booted, turned, Bootable}
use Rattle.rules.specs.RoundTrip.{WrittenRead, OneWay, Proper, ReadWritten, ProperAlways}
use Rattle.rules.specs.declared.Message.{Message}
use Rattle.rules.specs.declared.Effect.{Effect}
use Rattle.rules.proofs.Laws.{both, decided_by, not_both, passes, present-false, set-each}
use Rattle.rules.proofs.Places.{same?}
use Rattle.rules.proofs.Licence.{Owns, Licence, nothing-done, stores, rings, hushes, puts, drops, prunes, posts, sends, takes, gets, licensed}
use Rattle.rules.proofs.Given.{all_of, some_at, some_of, given_from, given-here, FormRight, form-right}
use Rattle.rules.proofs.Bootable.{at_boot, accepted_exactly}
use Rattle.rules.proofs.Certificate.{below_at}
use Rattle.rules.proofs.Reached.{sound}
use Rattle.rules.proofs.RoundTripEntries.{rising-rises, rises-rising, occupied-most, occupied-places, span_drop, entries-written, entry_of, entries_of, entries-bytes, entries-read, entries_rise, For, entry-of, given_back}

-- ---- writing what was read

-- a list of nothing but 0
zeros : (l : List ℕ) → ((x : ℕ) → Memᴰ x l → x ≡ 0) → l ≡ replicate (length l) 0
zeros [] h = refl
zeros (x ∷ xs) h = ap₂ ◌∷◌ (h x (Memᴰ.head refl)) (zeros xs (λ y m. h y (Memᴰ.tail m)))

-- as many entries are read as the header says
entries-length : (b : List ℕ) (n i : ℕ) → length (entries_from b n i) ≡ n
unfolding entries_from
entries-length b zero i = refl
entries-length b (suc n) i = ap suc (entries-length b n (i + entry_bytes))

module _ (b : List ℕ) (y : Bytes b) (form : FormRight b) (able : Bootable (image_of b)) where
  -- the table has T turns
  table-length : length (table_of b) ≡ size_t b
  unfolding table_of length_for entries_at padded
  table-length = length-take-le _ _ (simp length-drop (omega (arith, form.exact)))

  -- the slot of a source is one of the 64: an entry defines it
  source-slot : (e : Entry) → Memᴰ e (image_of b).entries → sourceless e ≡ false → e.source_slot < slots
  unfolding defines
  source-slot e m n =
      let (f, k, t) = some_at (defines e) _ (able.defined m n) in
      let r = form.entry f k in
      let (d, x) = both (eqb f.domain e.source_domain) (eqb f.slot e.source_slot) t in
      omega (arith, eqb-true)

  -- the places that hold a capability are those of the entries
  places-read : occupied (at_boot b) (slot (size_d b) 0) 0 ≡ map place_of (image_of b).entries
  places-read =
      occupied-places (at_boot b) _ 0 _ (rising-rises _ form.rises) (λ e m. let r = form.entry e m in (omega arith, λ z. omega arith)) (λ q l. refl)

  -- the entries' bytes
  entries-back : entries_for (at_boot b) (map place_of (image_of b).entries) ≡ drop (entries_at (size_t b)) b
  unfolding image_of length_for
  entries-back =
      entries-written b y (at_boot b) _ _ (sym form.exact)
      (λ e m. let r = form.entry e m in (r.slot, r.last, source-slot e m, given-here m form.rises))

  -- the padding is all 0
  padding_back : padding_of b ≡ replicate (padded (size_t b) - size_t b) 0
  unfolding padding_of length_for entries_at padded
  padding_back =
      let n : length (padding_of b) ≡ padded (size_t b) - size_t b = length-take-le _ _ (simp length-drop (omega (arith, form.exact))) in
      rw n at (zeros _ form.padding)

  -- the table, the padding and the entries
  after-header : table_of b ++ (replicate (padded (size_t b) - size_t b) 0 ++ drop (entries_at (size_t b)) b) ≡ drop header_bytes b
  unfolding table_of padding_of entries_at padded
  after-header =
      let at : entries_at (size_t b) ≡ header_bytes + size_t b + (padded (size_t b) - size_t b) = omega arith in
      rw (← padding_back, at, ← (drop-drop (padded (size_t b) - size_t b) (header_bytes + size_t b) b), take-append-drop)
      (rw (← (drop-drop (size_t b) header_bytes b), take-append-drop))

  -- all bytes
  bytes_back : bytes_for (boot (image_of b)) ≡ b
  unfolding bytes_for boot image_of
  bytes_back =
      let count = y 3 in
      let frames = y 5 in
      let last = form.last in
      let u : byte b 6 ≡ 0 = omega arith in
      let v : byte b 7 ≡ 0 = omega arith in
      rw (places-read, entries-back, length-map, table-length)
      (simp (entries-length, digits_div, digits_mod) (rw (u, v, ← after-header) at (span_drop b header_bytes 0 form.header)))

-- a test that passes at each number passes at all below n
all-below : (f : ℕ → Bool) → ((i : ℕ) → f i ≡ true) → (n : ℕ) → all_below n f ≡ true
unfolding all_below
all-below f h zero = refl
all-below f h (suc n) = rw (h n) (all-below f h n)

-- the state at boot can be written
boot-writable : (i : Image) → writable (boot i) ≡ true
unfolding boot writable present
boot-writable i = simp (all-below _ (λ j. refl))

-- writing what was read gives the bytes back
pub written_read : WrittenRead
unfolding refusal_of write
written_read b y h =
    let form = (passes _ _ 25 h).0 in
    rw (boot-writable (image_of b), bytes_back b y (form-right b form) ((accepted_exactly b form).0 h))

-- so an image describes each state in one way only
pub one_way : OneWay
one_way b c y z h k e = cc (written_read b y h, written_read c z k)

-- ---- what can be written

-- a number is below another or not
below? : (a b : ℕ) → (a < b) ⊎ (b ≤ a)
below? a b = ⊎_elim (λ t. inl (ltb-true a b t)) (λ t. inr (ltb-false a b t)) (decided_by (ltb a b))

-- the mailboxes are empty, the frames and the bells are all 0, the position is 0
record Blank (s : State) : Type 0 where
  mail : s.message ≡ (λ m. no_message)
  word : s.word ≡ (λ f w. 0)
  bell : s.bell ≡ (λ b. 0)
  position : s.position ≡ 0

-- the writer's test tells this
blank : {s : State} → Formed s → Proper s → writable s ≡ true → Blank s
unfolding writable
blank {s} f p w =
    let (h, first) = both _ (eqb s.position 0) w in
    let (g, rung) = both _ _ h in
    let (post, kept) = both _ _ g in
    let mail : (m : ℕ) → m < mailboxes → not (full (s.message m)) ≡ true = below_at _ _ post in
    let words : (i : ℕ) → i < s.frames → all_below frame_words (λ j. eqb (s.word i j) 0) ≡ true = below_at _ _ kept in
    let word : (i : ℕ) → i < s.frames → (j : ℕ) → j < frame_words → eqb (s.word i j) 0 ≡ true = λ i l. below_at _ _ (words i l) in
    let bell : (b : ℕ) → b < bells → eqb (s.bell b) 0 ≡ true = below_at _ _ rung in
    record {
      mail = fun_ext (λ m. ⊎_elim (λ l. (f.emptied m (present-false _ (mail m l))).0) (p.mailboxes m) (below? m mailboxes));
      word = fun_ext (λ i. fun_ext (λ j.
          ⊎_elim (λ l. ⊎_elim (λ k. eqb-true _ _ (word i l j k)) (p.words i j) (below? j frame_words)) (λ l. p.frames i l j) (below? i s.frames)));
      bell = fun_ext (λ b. ⊎_elim (λ l. eqb-true _ _ (bell b l)) (p.bells b) (below? b bells));
      position = eqb-true _ _ first;
    }

-- the places after the slots of the state's domains hold nothing
nothing-after : {s : State} → Formed s → Blank s → (q : ℕ) → slot s.domains 0 ≤ q → (s.capability q).kind ≡ 0
nothing-after {s} f k q l =
    ⊎_elim (λ z. z)
    (λ h. ⊎_elim (λ i. absurd (omega (arith, f.slots_only q i h)))
    (λ i. let e : room (q - all_slots) ≡ q = omega arith in rw e at (f.emptied (q - all_slots) (ap (λ g. (g (q - all_slots)).full) k.mail)).1)
    (below? q all_slots))
    (same? (s.capability q).kind 0)

-- ---- reading what was written

infixl 30 ◌also◌
-- two tests that pass
◌also◌ : {a b : Bool} → a ≡ true → b ≡ true → (a && b) ≡ true
◌also◌ h k = rw (h, k)

-- a test that passes where another does
implies : (a b : Bool) → (a ≡ true → b ≡ true) → (not a || b) ≡ true
implies true b h = h refl
implies false b h = refl

-- a test of each element of a table
all_turns : (f : ℕ → Bool) (l : List ℕ) → ((i : ℕ) → i < length l → f (get_or l i 0) ≡ true) → all f l ≡ true
unfolding all
all_turns f [] h = refl
all_turns f (d ∷ l) h = h 0 (omega arith) also all_turns f l (λ i k. h (suc i) (omega arith))

module _ (s : State) where
  -- the places that hold a capability
  abbrev filled : List ℕ
  filled = occupied s.capability (slot s.domains 0) 0

  -- the image that is written
  abbrev image_for : Image
  image_for = record { domains = s.domains; frames = s.frames; turns = s.turns; entries = entries_of s.capability filled }

  -- how many bytes follow the table up to a multiple of 4, and these
  abbrev short : ℕ
  short = padded (length s.turns) - length s.turns

  abbrev padding : List ℕ
  padding = replicate short 0

  -- each entry is for a slot of the state's domains that holds a capability
  entry_for_lem : {e : Entry} → Memᴰ e image_for.entries → For s.capability (slot s.domains 0) e
  entry_for_lem m = let (q, i, l, h) = entry-of s.capability (slot s.domains 0) 0 m in (q, i, omega arith, h)

  -- the table, the padding and the entries' bytes are found again
  table-read : table_of (bytes_for s) ≡ s.turns
  unfolding table_of bytes_for
  table-read = take_at s.turns _ _ refl

  padding_read : padding_of (bytes_for s) ≡ padding
  unfolding padding_of bytes_for
  padding_read =
      rw (← (drop-drop (length s.turns) header_bytes (bytes_for s)), drop_at s.turns _ _ refl)
      (take_at padding (entries_for s.capability filled) short (length-replicate {A = ℕ} short 0))

  entries-there : drop (entries_at (length s.turns)) (bytes_for s) ≡ entries_for s.capability filled
  unfolding entries_at bytes_for padded
  entries-there =
      rw (← (drop-drop (padded (length s.turns)) header_bytes (bytes_for s)), ← (append_assoc s.turns padding (entries_for s.capability filled)))
      (drop_at (s.turns ++ padding) _ (padded (length s.turns)) (rw (length-append, length-replicate) (omega arith)))

  -- so what is read is the image that was written
  image-read : image_of (bytes_for s) ≡ image_for
  unfolding image_of bytes_for
  image-read = simp (table-read, div-add-mod', entries-read s.capability filled (bytes_for s) (entries_at (length s.turns)) entries-there)

  -- the length is exactly what T and C give
  bytes-length : length (bytes_for s) ≡ length_for (length s.turns) (length filled)
  unfolding bytes_for length_for entries_at padded
  bytes-length = simp (length-append, length-replicate, entries-bytes) (omega arith)

  -- the test of refusal 22
  length-right : right_length (bytes_for s) ≡ true
  unfolding right_length bytes_for
  length-right = simp div-add-mod' (eq-eqb _ _ bytes-length)

  module _ (f : Formed s) where
    -- the test of refusal 21
    sizes-right : right_sizes (bytes_for s) ≡ true
    unfolding right_sizes bytes_for between
    sizes-right =
        let (l, m) = f.frames in
        (le-leb _ _ f.domains.0 also le-leb _ _ f.domains.1) also (le-leb _ _ f.table.0 also le-leb _ _ f.table.1)
        also le-leb (size_c (bytes_for s)) entries_most (omega (arith, occupied-most s.capability (slot s.domains 0) 0))
        also (le-leb 1 (size_f (bytes_for s)) (omega arith) also le-leb (size_f (bytes_for s)) frames_most (omega arith)) also refl

    -- the test of refusal 23
    turns-right : right_turns (bytes_for s) ≡ true
    unfolding right_turns bytes_for
    turns-right =
        rw (table-read, padding_read) (all_turns _ _ (λ i l. lt-ltb _ _ (f.turns i l))
        also all_turns _ _ (λ i l. eq-eqb _ _ (get_or-replicate short i 0 0 (rw length-replicate at l))))

    -- the test of refusal 24 for what is written for one place
    entry_passes : (q : ℕ) → q < slot s.domains 0 → Holds s.capability q
        → right_entry s.domains s.frames (entry_of q (s.capability q)) ≡ true
    unfolding right_entry between
    entry_passes q l h =
        let c = f.capability q h in
        lt-ltb (q / slots) s.domains (omega arith) also lt-ltb (q % slots) slots (omega arith)
        also (le-leb _ _ c.kind_least also le-leb _ _ c.kind_most) also le-leb _ _ c.rights
        also implies _ _ (λ g. eq-eqb _ _ (c.grant g)) also lt-ltb _ _ c.object also refl

    -- refusals 20 to 25 do not apply
    form_passes : refusal_of_form (bytes_for s) ≡ 0
    unfolding refusal_of_form ◌then◌else◌ length_for entries_at
    form_passes =
        let right = right_entry s.domains s.frames in
        let entries : all right image_for.entries ≡ true = all_of right _ (λ e m. let (q, i, l, h) = entry_for_lem m in rw i (entry_passes q l h)) in
        rw (image-read, le-leb header_bytes (length (bytes_for s)) (rw bytes-length (omega arith)), sizes-right, length-right, turns-right)
        (rw (entries, rises-rising 0 image_for.entries (entries_rise s.capability _ 0 0 (omega arith))))

  module _ (f : Formed s) (a : Section4 s.capability) (k : Blank s) where
    -- the entries give what the places hold
    places-back : given image_for.entries ≡ s.capability
    places-back =
        fun_ext (λ q. given_back s.capability _ 0 q (λ q h. (f.capability q h).source) f.empty (omega arith)
        (λ l. nothing-after f k q (omega arith)))

    -- each source is defined by an entry
    defined-back : {e : Entry} → Memᴰ e image_for.entries → sourceless e ≡ false → some (defines e) image_for.entries ≡ true
    unfolding sourceless source_bytes defines
    defined-back {e} m n = let (q, i, l, h) = entry_for_lem m in rw i (go q (s.capability q).source refl (rw i at n))
      where
        go : (q x : ℕ) → (s.capability q).source ≡ x → sourceless (entry_of q (s.capability q)) ≡ false
            → some (defines (entry_of q (s.capability q))) image_for.entries ≡ true
        go q zero e n = absurd (not_both refl (rw e at n))
        go q (suc p) e n =
            let (d, m, z, c) = given_from image_for.entries p (rw places-back (a.held e)) in
            let (r, i, l, h) = entry_for_lem m in
            let x : d.slot < slots = rw i (omega arith) in
            some_of (defines (entry_of q (s.capability q))) m
            (rw e (eq-eqb d.domain (p / slots) (omega arith) also eq-eqb d.slot (p % slots) (omega arith)))

    -- no refusal applies: section 4 holds of what the entries give
    bytes-accepted : refusal_of (bytes_for s) ≡ 0
    bytes-accepted = (accepted_exactly _ (form_passes f)).1 (rw image-read (record { defined = defined-back; section4 = rw places-back a }))

    -- what boots is the state
    boot-back : boot image_for ≡ s
    unfolding boot
    boot-back = rw (places-back, ← k.mail, ← k.word, ← k.bell, ← k.position)

-- reading what was written gives the state back
pub read-written : ReadWritten
unfolding write read read_as
read-written s f a p b w = go (writable s) refl w
  where
    go : (t : Bool) → writable s ≡ t → cond t (image (bytes_for s)) unwritable ≡ image b → read b ≡ accepted s
    go true t e =
        let k = blank f p t in
        let c : bytes_for s ≡ b = cc in
        rw (← c, bytes-accepted s f a k, image-read s, boot-back s f a k)
    go false t e = absurd (let z : ◌≡◌ {A = ℕ} 0 1 = cc in omega arith)

-- ---- every reached state is Proper

-- from n on there is nothing, also after a value is set
outside : {A : Type 0} (n : ℕ) (none : A) (f : ℕ → A) (i : ℕ) (v : A) → ((j : ℕ) → n ≤ j → f j ≡ none) → (n ≤ i → v ≡ none)
    → (j : ℕ) → n ≤ j → set f i v j ≡ none
outside n none f i v = set-each (λ j v. n ≤ j → v ≡ none) f i v

module _ {s : State} (f : Formed s) (p : Proper s) where
  -- the object of an owned capability is one of those that there are of its kind
  owned : {d x k r : ℕ} → Owns s d x k r → (held s d x).object < objects s.frames k
  owned {d} {x} o = rw o.kind_is at (f.capability (slot d x) o.has.there).object

  -- no word changes
  proper_changed : {at : Places} {ring : ℕ → ℕ} {post : ℕ → Message} → ((b : ℕ) → bells ≤ b → ring b ≡ 0)
      → ((m : ℕ) → mailboxes ≤ m → post m ≡ no_message) → Proper (changed s at s.word ring post)
  proper_changed b m = record { frames = p.frames; words = p.words; bells = b; mailboxes = m }

  -- each licensed effect keeps it: frame, word, bell and mailbox are some that there are
  proper_kept : (d : ℕ) (e : Effect) → Licence s d e → Proper (apply s e)
  unfolding apply objects
  proper_kept d e nothing-done = p
  proper_kept d e (stores o l) =
      let h = owned o in
      record {
        frames = set-each (λ i g. s.frames ≤ i → (j : ℕ) → g j ≡ 0) s.word _ _ p.frames (λ k. absurd (omega arith));
        words = set-each (λ i g. (j : ℕ) → frame_words ≤ j → g j ≡ 0) s.word _ _ p.words
            (outside frame_words 0 _ _ _ (p.words _) (λ k. absurd (omega arith)));
        bells = p.bells;
        mailboxes = p.mailboxes;
      }
  proper_kept d e (rings o) = proper_changed (outside bells 0 _ _ _ p.bells (λ k. absurd (omega (arith, owned o)))) p.mailboxes
  proper_kept d e (hushes o) = proper_changed (outside bells 0 _ _ _ p.bells (λ k. refl)) p.mailboxes
  proper_kept d e (puts r o g l) = proper_changed p.bells p.mailboxes
  proper_kept d e (drops o) = proper_changed p.bells p.mailboxes
  proper_kept d e (prunes o) = proper_changed p.bells p.mailboxes
  proper_kept d e (posts o z) = proper_changed p.bells (outside mailboxes _ _ _ _ p.mailboxes (λ k. absurd (omega (arith, owned o))))
  proper_kept d e (sends o g a z) = proper_changed p.bells (outside mailboxes _ _ _ _ p.mailboxes (λ k. absurd (omega (arith, owned o))))
  proper_kept d e (takes o) = proper_changed p.bells (outside mailboxes _ _ _ _ p.mailboxes (λ k. refl))
  proper_kept d e (gets o u g) = proper_changed p.bells (outside mailboxes _ _ _ _ p.mailboxes (λ k. refl))

-- every reached state is Proper
pub proper_always : ProperAlways
unfolding boot next advance
proper_always b s (booted y h) = record { frames = λ f l w. refl; words = λ f w l. refl; bells = λ b l. refl; mailboxes = λ m l. refl }
proper_always b s (turned {s = t} r o) =
    let p = proper_kept (sound r).formed (proper_always b t r) (whose t) _ (licensed t (whose t) o) in
    record { frames = p.frames; words = p.words; bells = p.bells; mailboxes = p.mailboxes }
