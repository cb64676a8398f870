-- Document 03: what a domain could ever hold, what may flow where, and closed sets, from an image's entries alone.
-- Assumes nothing.
use Rattle.std.specs.Prelude.{◌≡◌, Bool, true, false, ◌⊎◌, ℕ, ◌<◌}
use mathlib.Core.List.{Memᴰ}
use Rattle.rules.specs.State.{FRAME, MAILBOX, BELL, READ, WRITE, GRANT, within}
use Rattle.rules.specs.Image.{Entry, Image, sourceless}

-- a triple: kind, object, rights
pub record Triple : Type 0 where
  pub kind : ℕ
  pub object : ℕ
  pub rights : ℕ

abbrev pub triple_of : Entry → Triple
triple_of e = record { kind = e.kind; object = e.object; rights = e.rights }

-- the triple is for that kind and object, and has that right
pub record For (kind object right : ℕ) (t : Triple) : Type 0 where
  pub kind_is : t.kind ≡ kind
  pub object_is : t.object ≡ object
  pub has : within right t.rights ≡ true

-- section 1: what a domain could hold, by two rules
pub data CouldHold (i : Image) : ℕ → Triple → Type 0 where
  -- 1: each capability that the image gives to a domain
  image : {e : Entry} → Memᴰ e i.entries → CouldHold i e.domain (triple_of e)
  -- 2: if a could hold a mailbox with both WRITE and GRANT in one triple, and b could hold the same mailbox with READ in a triple,
  -- then b could hold every triple that a could hold
  passed : {a b m : ℕ} {g r t : Triple} → CouldHold i a g → For MAILBOX m WRITE g → For MAILBOX m GRANT g
      → CouldHold i b r → For MAILBOX m READ r → CouldHold i a t → CouldHold i b t

-- the domains that could hold a triple for an object with a right: readers with READ, writers with WRITE
pub record Could (i : Image) (kind object right a : ℕ) : Type 0 where
  pub triple : Triple
  pub could : CouldHold i a triple
  pub fit : For kind object right triple

abbrev pub Reader : Image → ℕ → ℕ → ℕ → Type 0
Reader i kind object a = Could i kind object READ a

abbrev pub Writer : Image → ℕ → ℕ → ℕ → Type 0
Writer i kind object a = Could i kind object WRITE a

-- writers and readers
abbrev pub User : Image → ℕ → ℕ → ℕ → Type 0
User i kind object a = Writer i kind object a ⊎ Reader i kind object a

-- section 2: the cases of direct flow from a to b
pub data Case (i : Image) : ℕ → ℕ → Type 0 where
  frame : {a b f : ℕ} → Writer i FRAME f a → Reader i FRAME f b → Case i a b
  ringing : {a b x : ℕ} → Writer i BELL x a → Reader i BELL x b → Case i a b
  hearing : {a b x : ℕ} → Reader i BELL x a → Reader i BELL x b → Case i a b
  mailbox : {a b m : ℕ} → User i MAILBOX m a → User i MAILBOX m b → Case i a b
  -- the domain of an entry's source to the domain of the entry
  derivation : {e : Entry} → Memᴰ e i.entries → sourceless e ≡ false → Case i e.source_domain e.domain

-- direct flow: a and b different, and one of the cases
pub record Direct (i : Image) (a b : ℕ) : Type 0 where
  pub different : a ≡ b → ⊥
  pub because : Case i a b

-- the least relation that holds from each domain to itself, holds where direct flow does, and is transitive
pub data Flow (i : Image) : ℕ → ℕ → Type 0 where
  itself : {a : ℕ} → a < i.domains → Flow i a a
  direct : {a b : ℕ} → Direct i a b → Flow i a b
  onward : {a b c : ℕ} → Flow i a b → Flow i b c → Flow i a c

-- section 3: a set of domains is closed when a flow from a to b with b in it always has a in it
abbrev pub Closed : Image → (ℕ → Bool) → Type 0
Closed i L = (a b : ℕ) → Flow i a b → L b ≡ true → L a ≡ true
