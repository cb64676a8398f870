-- The image's entries in cells: one cell for each object, of all kinds, and rights, which has the domains to which an entry gives exactly
-- that; and rule 2 of document 03 over these cells. Assumes nothing.
use Rattle.std.specs.Prelude.{◌≡◌, cond, List, ℕ, ◌+◌, ◌*◌, ◌/◌, ◌≤◌, ◌<◌, eqb, length, get_or}
use Rattle.rules.specs.Sizes.{domains_most, frames_most, mailboxes, bells, entries_most}
use Rattle.rules.specs.State.{FRAME, MAILBOX, READ, WRITE, GRANT}
use Rattle.rules.specs.Image.{Entry, header_bytes, entry_bytes, no_domain, entry_at, entries_at, size_d, size_t, size_c, refusal_of}
use Rattle.rules.specs.Flow.{Triple, triple_of}
use Rattle.image.specs.Said.{said}
use Rattle.image.specs.declared.Fields.{Fields}
use Rattle.flow.specs.Masks.{In, row, OneOf, sums}

-- frames first, then mailboxes, then bells
abbrev pub mailbox_first : ℕ
mailbox_first = frames_most

abbrev pub bell_first : ℕ
bell_first = frames_most + mailboxes

abbrev pub objects_all : ℕ
objects_all = frames_most + mailboxes + bells

-- the number of an object of a kind among all objects
unfoldable pub number_of : ℕ → ℕ → ℕ
number_of kind object = cond (eqb kind FRAME) object (cond (eqb kind MAILBOX) (mailbox_first + object) (bell_first + object))

-- a cell for each of the eight rights
abbrev pub rights_all : ℕ
rights_all = READ + WRITE + GRANT + 1

abbrev pub cells_all : ℕ
cells_all = objects_all * rights_all

unfoldable pub cell_of : Triple → ℕ
cell_of t = number_of t.kind t.object * rights_all + t.rights

-- entry number i of the image's bytes
unfoldable pub entry_numbered : List ℕ → ℕ → Entry
entry_numbered b i = entry_at b (entries_at (size_t b) + entry_bytes * i)

-- bytes that are not refused, and what their sizes are
pub record Accepted (b : List ℕ) : Type 0 where
  pub accepted : refusal_of b ≡ 0
  pub header : header_bytes ≤ length b
  pub domains_least : 1 ≤ size_d b
  pub domains : size_d b ≤ domains_most
  pub count : size_c b ≤ entries_most
  pub long : length b ≡ header_bytes + (size_t b + 3) / 4 * 4 + entry_bytes * size_c b

-- e is entry number i, and its fields are in range
pub record Listed (b : List ℕ) (i : ℕ) (e : Fields) : Type 0 where
  pub exact : said e ≡ entry_numbered b i
  pub domain : e.domain < domains_most
  pub rights : e.rights < rights_all
  pub object : e.object < 65536
  pub number : number_of e.kind e.object < objects_all
  -- a source is in a domain, if there is one
  pub source_domain : e.source_domain < 256
  pub source_slot : e.source_slot < 256
  pub source : (e.source_domain ≡ no_domain → e.source_slot ≡ 0 → ⊥) → e.source_domain < domains_most

-- one of the first n entries gives domain c the triple of cell x
pub record Gives (b : List ℕ) (n c x : ℕ) : Type 0 where
  pub number : ℕ
  pub low : number < n
  pub domain : (entry_numbered b number).domain ≡ c
  pub cell : cell_of (triple_of (entry_numbered b number)) ≡ x

-- the cells have the first n entries, and nothing else
pub record Noted (b : List ℕ) (n : ℕ) (cells : List ℕ) : Type 0 where
  pub long : length cells ≡ cells_all
  pub told : (c x : ℕ) → In c (get_or cells x 0) → Gives b n c x
  pub every : (i : ℕ) → i < n → In (entry_numbered b i).domain (get_or cells (cell_of (triple_of (entry_numbered b i))) 0)

-- masks of rights: those with READ, those with WRITE, and those with both WRITE and GRANT
abbrev pub reading : ℕ
reading = 170

abbrev pub writing : ℕ
writing = 204

abbrev pub granting : ℕ
granting = 192

-- domain c has an entry for an object with one of those rights
abbrev pub Has : List ℕ → ℕ → ℕ → ℕ → Type 0
Has cells object rights c = OneOf cells (object * rights_all) rights_all rights c

-- what domain c has is passed on to domain d: to itself, and by rule 2 over mailbox m from a, which got what g has, to b, which got what q has
pub data Passes (cells : List ℕ) : ℕ → ℕ → Type 0 where
  own : {d : ℕ} → d < domains_most → Passes cells d d
  on : {a b c m g q : ℕ} → m < mailboxes → Passes cells a g → Has cells (mailbox_first + m) granting g
      → Passes cells b q → Has cells (mailbox_first + m) reading q → Passes cells a c → Passes cells b c

-- what is passed on over mailbox m is in the rows already
pub record Settled (cells : List ℕ) (rows : List ℕ) (m : ℕ) : Type 0 where
  pub settled : (a b c g q : ℕ) → In g (row rows a) → Has cells (mailbox_first + m) granting g → In q (row rows b)
      → Has cells (mailbox_first + m) reading q → In c (row rows a) → In c (row rows b)

-- the sum of all rows
abbrev pub total : List ℕ → ℕ
total rows = sums rows domains_most

-- mailboxes from x up to y were gone through: the rows have grown by what is passed on alone; where their sum is as before they are as
-- before, and nothing is left to pass on over these mailboxes
pub record Passed (cells : List ℕ) (x y : ℕ) (before after : List ℕ) : Type 0 where
  pub long : length after ≡ length before
  pub more : total before ≤ total after
  pub same : total after ≡ total before → after ≡ before
  pub grown : (d c : ℕ) → In c (row before d) → In c (row after d)
  pub fair : ((d c : ℕ) → In c (row before d) → Passes cells d c) → (d c : ℕ) → In c (row after d) → Passes cells d c
  pub settled : total after ≡ total before → (m : ℕ) → x ≤ m → m < y → Settled cells after m

-- row d has exactly the domains c that pass on what they have to d
pub record Reach (cells rows : List ℕ) : Type 0 where
  pub long : length rows ≡ domains_most
  pub told : (d c : ℕ) → In c (row rows d) → Passes cells d c
  pub every : (d c : ℕ) → Passes cells d c → In c (row rows d)
