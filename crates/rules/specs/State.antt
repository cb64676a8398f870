-- Document 01, sections 2 and 4: the state, places, what is derived from a place, and what always holds.
-- Numbers stand for everything, and 0 for nothing: kind 0 is an empty place, source 0 is no source, source p + 1 is place p.
-- Assumes nothing.
use Rattle.std.specs.Prelude.{◌≡◌, Bool, true, cond, ◌||◌, List, ℕ, zero, suc, ◌+◌, ◌*◌, ◌≤◌, ◌<◌, eqb, length, get_or}
use Rattle.std.specs.Int.Bits.{bit_and}
use Rattle.rules.specs.Sizes.{slots, all_slots, mailboxes, places, bells, domains_most, frames_most, turns_most, badge_most}
use Rattle.rules.specs.declared.Capability.{Capability}
use Rattle.rules.specs.declared.Message.{Message}

-- the kinds: 1 frame, 2 mailbox, 3 bell
abbrev pub FRAME : ℕ
FRAME = 1

abbrev pub MAILBOX : ℕ
MAILBOX = 2

abbrev pub BELL : ℕ
BELL = 3

-- rights are a sum of READ, WRITE and GRANT
abbrev pub READ : ℕ
READ = 1

abbrev pub WRITE : ℕ
WRITE = 2

abbrev pub GRANT : ℕ
GRANT = 4

-- every right of a is in b
unfoldable pub within : ℕ → ℕ → Bool
within a b = eqb (bit_and a b) a

-- a place is a slot of a domain, or a mailbox's room for a capability under way
abbrev pub slot : ℕ → ℕ → ℕ
slot d x = d * slots + x

abbrev pub room : ℕ → ℕ
room m = all_slots + m

-- a place that holds nothing, and an empty mailbox
abbrev pub nothing : Capability
nothing = record { kind = 0; rights = 0; object = 0; badge = 0; source = 0 }

abbrev pub no_message : Message
no_message = record { full = 0; badge = 0; w0 = 0; w1 = 0; w2 = 0; w3 = 0 }

-- the whole state: the table of turns and the position in it, a capability or nothing at each place, each frame's words, each bell's
-- number, each mailbox's message; and D and F, fixed at boot
pub record State : Type 0 where
  pub domains : ℕ
  pub frames : ℕ
  pub turns : List ℕ
  pub position : ℕ
  pub capability : ℕ → Capability
  pub word : ℕ → ℕ → ℕ
  pub bell : ℕ → ℕ
  pub message : ℕ → Message

-- the domain whose number stands at the current position
unfoldable pub whose : State → ℕ
whose s = get_or s.turns s.position 0

-- what the places hold
abbrev pub Places : Type 0
Places = ℕ → Capability

-- place q holds a capability
abbrev pub Holds : Places → ℕ → Type 0
Holds at q = (at q).kind ≡ 0 → ⊥

-- p is the source of the capability at q
abbrev pub Source : Places → ℕ → ℕ → Type 0
Source at p q = (at q).source ≡ suc p

-- the capabilities derived from a place are those whose source is it, those derived from these, and so on; not itself
pub data Derived (at : Places) (p : ℕ) : ℕ → Type 0 where
  direct : {q : ℕ} → Source at p q → Derived at p q
  further : {q r : ℕ} → Derived at p q → Source at q r → Derived at p r

-- the same as a test: following sources from source number x comes to source number t within n steps (0 is no source)
unfoldable pub comes_to : ℕ → Places → ℕ → ℕ → Bool
comes_to zero at t x = eqb x t
comes_to (suc n) at t zero = eqb 0 t
comes_to (suc n) at t (suc p) = eqb (suc p) t || comes_to n at t (at p).source

-- the capability at q is derived from place p; a chain of sources that never comes back has fewer steps than there are places
unfoldable pub derived_from : Places → ℕ → ℕ → Bool
derived_from at p q = comes_to places at (suc p) (at q).source

-- a capability c against its source p: the same kind and object, no right that the source lacks, the source's badge if that isn't 0
pub record Fits (c p : Capability) : Type 0 where
  pub kind : c.kind ≡ p.kind
  pub object : c.object ≡ p.object
  pub rights : within c.rights p.rights ≡ true
  pub badge : (p.badge ≡ 0 → ⊥) → c.badge ≡ p.badge

-- section 4
pub record Section4 (at : Places) : Type 0 where
  -- a source always names a place that holds a capability
  pub held : {p q : ℕ} → Source at p q → Holds at p
  -- following sources never comes back to where it began
  pub no_return : {p : ℕ} → Derived at p p → ⊥
  -- a capability has the kind and object of its source, no right that the source lacks, and the source's badge if that isn't 0
  pub fits : {p q : ℕ} → Source at p q → Fits (at q) (at p)

-- the objects that there are of a kind, with F frames
unfoldable pub objects : ℕ → ℕ → ℕ
objects frames kind = cond (eqb kind FRAME) frames (cond (eqb kind MAILBOX) mailboxes bells)

-- sections 1 and 2 of one capability, with F frames
pub record WellFormed (frames : ℕ) (c : Capability) : Type 0 where
  pub kind_least : FRAME ≤ c.kind
  pub kind_most : c.kind ≤ BELL
  pub rights : c.rights ≤ READ + WRITE + GRANT
  pub grant : within GRANT c.rights ≡ true → c.kind ≡ MAILBOX
  pub object : c.object < objects frames c.kind
  pub badge : c.badge ≤ badge_most
  -- nothing is ever derived from a capability under way: a source is a slot
  pub source : c.source ≤ all_slots

-- sections 1 and 2 of a whole state
pub record Formed (s : State) : Type 0 where
  pub domains : (1 ≤ s.domains) × (s.domains ≤ domains_most)
  pub frames : (1 ≤ s.frames) × (s.frames ≤ frames_most)
  pub table : (1 ≤ length s.turns) × (length s.turns ≤ turns_most)
  pub turns : (i : ℕ) → i < length s.turns → get_or s.turns i 0 < s.domains
  pub position : s.position < length s.turns
  -- each place holds nothing at all or a well-formed capability, and those that there are not hold nothing
  pub capability : (q : ℕ) → Holds s.capability q → WellFormed s.frames (s.capability q)
  pub empty : (q : ℕ) → (s.capability q).kind ≡ 0 → s.capability q ≡ nothing
  pub slots_only : (q : ℕ) → q < all_slots → Holds s.capability q → q < slot s.domains 0
  pub places_only : (q : ℕ) → Holds s.capability q → q < places
  -- each bell is a number of 16 bits
  pub bell : (b : ℕ) → s.bell b ≤ badge_most
  -- a mailbox is empty, with nothing under way, or holds one message
  pub full : (m : ℕ) → (s.message m).full ≤ 1
  pub emptied : (m : ℕ) → (s.message m).full ≡ 0 → (s.message m ≡ no_message) × ((s.capability (room m)).kind ≡ 0)
  pub badge : (m : ℕ) → (s.message m).badge ≤ badge_most

-- sections 1, 2 and 4 of a whole state
pub record Sound (s : State) : Type 0 where
  pub formed : Formed s
  pub section4 : Section4 s.capability
