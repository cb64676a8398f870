-- Document 01, section 5: the boot image. Bytes to a state or the first refusal that applies, and a state to bytes or refusal 27.
-- A list of numbers stands for bytes. Assumes nothing.
use Rattle.std.specs.Prelude.{Bool, true, false, cond, not, ◌&&◌, ◌||◌, List, [], ◌∷◌, ◌++◌, ℕ, zero, suc, ◌+◌, ◌-◌, ◌*◌, ◌/◌, ◌%◌, ◌<◌, eqb, leb, ltb, length, get_or, take, drop, replicate}
use Rattle.rules.specs.Sizes.{domains_most, slots, frames_most, frame_words, mailboxes, bells, turns_most, entries_most, places}
use Rattle.rules.specs.State.{State, Places, FRAME, MAILBOX, BELL, READ, WRITE, GRANT, within, slot, nothing, no_message, objects, comes_to}
use Rattle.rules.specs.Turn.{◌then◌else◌, holds, full}
use Rattle.rules.specs.declared.Capability.{Capability}

-- an entry: domain, slot, kind, rights, object, badge, source's domain and slot, and its last two bytes
pub record Entry : Type 0 where
  pub domain : ℕ
  pub slot : ℕ
  pub kind : ℕ
  pub rights : ℕ
  pub object : ℕ
  pub badge : ℕ
  pub source_domain : ℕ
  pub source_slot : ℕ
  pub last : ℕ

-- what an image says: D, F, the table of turns, the entries
pub record Image : Type 0 where
  pub domains : ℕ
  pub frames : ℕ
  pub turns : List ℕ
  pub entries : List Entry

-- ---- the bytes' fields

-- each is a byte
abbrev pub Bytes : List ℕ → Type 0
Bytes b = (i : ℕ) → get_or b i 0 < 256

-- byte i, and the number of two bytes at i, high byte first
abbrev pub byte : List ℕ → ℕ → ℕ
byte b i = get_or b i 0

abbrev pub two : List ℕ → ℕ → ℕ
two b i = byte b i * 256 + byte b (i + 1)

-- the bytes of the header, and of an entry
abbrev pub header_bytes : ℕ
header_bytes = 8

abbrev pub entry_bytes : ℕ
entry_bytes = 12

-- bytes 0 to 7: D, T, C, F, 0
abbrev pub size_d : List ℕ → ℕ
size_d b = byte b 0

abbrev pub size_t : List ℕ → ℕ
size_t b = byte b 1

abbrev pub size_c : List ℕ → ℕ
size_c b = two b 2

abbrev pub size_f : List ℕ → ℕ
size_f b = two b 4

abbrev pub header_last : List ℕ → ℕ
header_last b = two b 6

-- T rounded up to a multiple of 4
unfoldable pub padded : ℕ → ℕ
padded t = (t + 3) / 4 * 4

-- where the entries begin, and the length that T and C give
unfoldable pub entries_at : ℕ → ℕ
entries_at t = header_bytes + padded t

unfoldable pub length_for : ℕ → ℕ → ℕ
length_for t c = entries_at t + entry_bytes * c

-- the T domain numbers, and the bytes after them up to a multiple of 4
unfoldable pub table_of : List ℕ → List ℕ
table_of b = take (size_t b) (drop header_bytes b)

unfoldable pub padding_of : List ℕ → List ℕ
padding_of b = take (padded (size_t b) - size_t b) (drop (header_bytes + size_t b) b)

-- the entry whose first byte is byte i
unfoldable pub entry_at : List ℕ → ℕ → Entry
entry_at b i =
    record {
      domain = byte b i;
      slot = byte b (i + 1);
      kind = byte b (i + 2);
      rights = byte b (i + 3);
      object = two b (i + 4);
      badge = two b (i + 6);
      source_domain = byte b (i + 8);
      source_slot = byte b (i + 9);
      last = two b (i + 10);
    }

-- n entries from byte i on
unfoldable pub entries_from : List ℕ → ℕ → ℕ → List Entry
entries_from b zero i = []
entries_from b (suc n) i = entry_at b i ∷ entries_from b n (i + entry_bytes)

unfoldable pub image_of : List ℕ → Image
image_of b =
    record { domains = size_d b; frames = size_f b; turns = table_of b; entries = entries_from b (size_c b) (entries_at (size_t b)) }

-- ---- the state that an image describes

-- the place of an entry
abbrev pub place_of : Entry → ℕ
place_of e = slot e.domain e.slot

-- without a source the source's domain is 255 and its slot 0
abbrev pub no_domain : ℕ
no_domain = 255

unfoldable pub sourceless : Entry → Bool
sourceless e = eqb e.source_domain no_domain && eqb e.source_slot 0

unfoldable pub source_of : Entry → ℕ
source_of e = cond (sourceless e) 0 (suc (slot e.source_domain e.source_slot))

unfoldable pub capability_given : Entry → Capability
capability_given e = record { kind = e.kind; rights = e.rights; object = e.object; badge = e.badge; source = source_of e }

-- what stands at place p: the capability of the entry for p, or nothing
unfoldable pub given : List Entry → Places
given [] p = nothing
given (e ∷ es) p = cond (eqb p (place_of e)) (capability_given e) (given es p)

-- all words and bells 0, all mailboxes empty, the position 0
unfoldable pub boot : Image → State
boot i =
    record {
      domains = i.domains;
      frames = i.frames;
      turns = i.turns;
      position = 0;
      capability = given i.entries;
      word = λ f w. 0;
      bell = λ b. 0;
      message = λ m. no_message;
    }

-- ---- the refusals

-- a test passes at each, at some
unfoldable pub all : {A : Type 0} → (A → Bool) → List A → Bool
all f [] = true
all f (x ∷ xs) = f x && all f xs

unfoldable pub some : {A : Type 0} → (A → Bool) → List A → Bool
some f [] = false
some f (x ∷ xs) = f x || some f xs

-- a <= n <= b
unfoldable pub between : ℕ → ℕ → ℕ → Bool
between a b n = leb a n && leb n b

-- 21: D, T, C and F in range, bytes 6 and 7 are 0
unfoldable pub right_sizes : List ℕ → Bool
right_sizes b =
    between 1 domains_most (size_d b) && between 1 turns_most (size_t b) && leb (size_c b) entries_most
    && between 1 frames_most (size_f b) && eqb (header_last b) 0

-- 22: the length is exactly what T and C give
unfoldable pub right_length : List ℕ → Bool
right_length b = eqb (length b) (length_for (size_t b) (size_c b))

-- 23: each turn names a domain of the image, and the padding is 0
unfoldable pub right_turns : List ℕ → Bool
right_turns b = all (λ d. ltb d (size_d b)) (table_of b) && all (λ p. eqb p 0) (padding_of b)

-- 24: one entry, in an image with D domains and F frames
unfoldable pub right_entry : ℕ → ℕ → Entry → Bool
right_entry domains frames e =
    ltb e.domain domains && ltb e.slot slots && between FRAME BELL e.kind
    && leb e.rights (READ + WRITE + GRANT) && (not (within GRANT e.rights) || eqb e.kind MAILBOX)
    && ltb e.object (objects frames e.kind) && eqb e.last 0

-- 25: strictly rising order of domain, then slot, which is the order of places once slots are in range
unfoldable pub rising_from : Entry → List Entry → Bool
rising_from e [] = true
rising_from e (f ∷ fs) = ltb (place_of e) (place_of f) && rising_from f fs

unfoldable pub rising : List Entry → Bool
rising [] = true
rising (e ∷ es) = rising_from e es

-- 26: entry f defines the source of entry e
unfoldable pub defines : Entry → Entry → Bool
defines e f = eqb f.domain e.source_domain && eqb f.slot e.source_slot

-- a capability against its source, as a test
unfoldable pub fitting : Capability → Capability → Bool
fitting c p =
    eqb c.kind p.kind && eqb c.object p.object && within c.rights p.rights
    && (eqb p.badge 0 || eqb c.badge p.badge)

-- 26: an entry of the image has no source, or one that an entry defines, that it fits, and from which following sources ends
unfoldable pub right_source : List Entry → Entry → Bool
right_source es e =
    sourceless e
    || (some (defines e) es && fitting (capability_given e) (given es (slot e.source_domain e.source_slot))
    && comes_to places (given es) 0 (source_of e))

-- the first refusal below 26 that applies, or 0
unfoldable pub refusal_of_form : List ℕ → ℕ
refusal_of_form b =
    let i = image_of b in
    0 then leb header_bytes (length b) else 20
    then right_sizes b else 21
    then right_length b else 22
    then right_turns b else 23
    then all (right_entry i.domains i.frames) i.entries else 24
    then rising i.entries else 25

-- the first refusal that applies, or 0
unfoldable pub refusal_of : List ℕ → ℕ
refusal_of b = refusal_of_form b then all (right_source (image_of b).entries) (image_of b).entries else 26

-- ---- reading and writing

-- what the reader makes of bytes
pub data Reading : Type 0 where
  accepted : State → Reading
  refused : ℕ → Reading

unfoldable pub read_as : ℕ → List ℕ → Reading
read_as zero b = accepted (boot (image_of b))
read_as (suc e) b = refused (suc e)

unfoldable pub read : List ℕ → Reading
read b = read_as (refusal_of b) b

-- the two bytes of a number, high byte first
abbrev pub bytes_of : ℕ → List ℕ
bytes_of n = n / 256 ∷ n % 256 ∷ []

-- the bytes of a source: its domain and slot, or 255 and 0
unfoldable pub source_bytes : ℕ → List ℕ
source_bytes zero = no_domain ∷ 0 ∷ []
source_bytes (suc p) = p / slots ∷ p % slots ∷ []

-- the entry for place p, which holds c
unfoldable pub entry_for : ℕ → Capability → List ℕ
entry_for p c =
    (p / slots ∷ p % slots ∷ c.kind ∷ c.rights ∷ []) ++ (bytes_of c.object ++ (bytes_of c.badge
    ++ (source_bytes c.source ++ (0 ∷ 0 ∷ []))))

-- the places that hold a capability, of n places from p on
unfoldable pub occupied : Places → ℕ → ℕ → List ℕ
occupied at zero p = []
occupied at (suc n) p = let rest = occupied at n (suc p) in cond (holds (at p)) (p ∷ rest) rest

unfoldable pub entries_for : Places → List ℕ → List ℕ
entries_for at [] = []
entries_for at (p ∷ ps) = entry_for p (at p) ++ entries_for at ps

unfoldable pub bytes_for : State → List ℕ
bytes_for s =
    let t = length s.turns in
    let ps = occupied s.capability (slot s.domains 0) 0 in
    (s.domains ∷ t ∷ []) ++ (bytes_of (length ps) ++ (bytes_of s.frames ++ ((0 ∷ 0 ∷ [])
    ++ (s.turns ++ (replicate (padded t - t) 0 ++ entries_for s.capability ps)))))

-- a test passes at each number below n
unfoldable pub all_below : ℕ → (ℕ → Bool) → Bool
all_below zero f = true
all_below (suc n) f = f n && all_below n f

-- the mailboxes are empty, the frames and the bells are all 0, the position is 0
unfoldable pub writable : State → Bool
writable s =
    all_below mailboxes (λ m. not (full (s.message m))) && all_below s.frames (λ f. all_below frame_words (λ w. eqb (s.word f w) 0))
    && all_below bells (λ b. eqb (s.bell b) 0) && eqb s.position 0

-- what the writer makes of a state
pub data Writing : Type 0 where
  image : List ℕ → Writing
  unwritable : Writing

-- the image of the state; any other state is refused with 27
unfoldable pub write : State → Writing
write s = cond (writable s) (image (bytes_for s)) unwritable
