-- What is proved of authority (the second demand), over every state that is reached from an accepted image by any sequence of turns.
-- The statements; proofs/ has a proof of each under the same name in small letters. Assumes nothing.
use Rattle.std.specs.Prelude.{◌≡◌, true, false, ◌↔◌, ℕ, ◌≤◌, ◌<◌}
use mathlib.Core.List.{List, Memᴰ}
use Rattle.rules.specs.Sizes.{slots}
use Rattle.rules.specs.State.{State, MAILBOX, READ, WRITE, GRANT, within, slot, room, nothing, no_message, whose, Holds, Derived, Fits, Section4, Formed, derived_from}
use Rattle.rules.specs.Turn.{held, slot_for_refusal, refusal, DELETE, REVOKE, SEND, RECEIVE, named, advance, answer, next}
use Rattle.rules.specs.Image.{Bytes, Entry, Image, image_of, sourceless, defines, given, boot, some, refusal_of_form, refusal_of}
use Rattle.rules.specs.Flow.{Triple, triple_of, For, CouldHold, Reader}
use Rattle.rules.specs.declared.Capability.{Capability}
use Rattle.rules.specs.declared.Operation.{Operation}
use Rattle.rules.specs.declared.Answer.{Answer}

-- a state that is reached from the bytes of an accepted image by some sequence of turns
pub data Reached (b : List ℕ) : State → Type 0 where
  booted : Bytes b → refusal_of b ≡ 0 → Reached b (boot (image_of b))
  turned : {s : State} → Reached b s → (o : Operation) → Reached b (next s o)

-- section 4 always holds, and so do the sizes and ranges of sections 1 and 2
abbrev pub Section4Always : Type 0
Section4Always = (b : List ℕ) (s : State) → Reached b s → Section4 s.capability

abbrev pub FormedAlways : Type 0
FormedAlways = (b : List ℕ) (s : State) → Reached b s → Formed s

-- the test by which REVOKE picks places holds exactly where the document's relation does
abbrev pub TestIsDerived : Type 0
TestIsDerived = (s : State) → Formed s → Section4 s.capability → (p q : ℕ)
    → (derived_from s.capability p q ≡ true) ↔ Derived s.capability p q

-- each source of the image is defined by an entry, and section 4 holds of what its entries give
pub record Bootable (i : Image) : Type 0 where
  pub defined : {e : Entry} → Memᴰ e i.entries → sourceless e ≡ false → some (defines e) i.entries ≡ true
  pub section4 : Section4 (given i.entries)

-- an accepted image is bootable, and only such: refusal 26 is given exactly where a source is not defined or section 4 is broken
abbrev pub AcceptedExactly : Type 0
AcceptedExactly = (b : List ℕ) → refusal_of_form b ≡ 0 → (refusal_of b ≡ 0) ↔ Bootable (image_of b)

abbrev pub RefusedExactly : Type 0
RefusedExactly = (b : List ℕ) → refusal_of_form b ≡ 0 → (refusal_of b ≡ 26) ↔ (Bootable (image_of b) → ⊥)

-- a derived capability is never more than what it is derived from, at any distance
abbrev pub NeverMore : Type 0
NeverMore = (b : List ℕ) (s : State) → Reached b s → (p q : ℕ) → Derived s.capability p q
    → Fits (s.capability q) (s.capability p)

-- a refusal leaves everything but the position as it was, and the words of its answer are all 0
abbrev pub RefusalLeaves : Type 0
RefusalLeaves = (s : State) (o : Operation) → ((answer s o).status ≡ 0 → ⊥)
    → (next s o ≡ advance s) × (answer s o ≡ refusal (answer s o).status)

-- t is s but for the places and the position
pub record OnlyPlaces (s t : State) : Type 0 where
  pub domains : t.domains ≡ s.domains
  pub frames : t.frames ≡ s.frames
  pub turns : t.turns ≡ s.turns
  pub word : t.word ≡ s.word
  pub bell : t.bell ≡ s.bell
  pub message : t.message ≡ s.message

-- REVOKE of place p: exactly the places derived from it are emptied, rooms included; everything else is as it was
pub record Revoked (s t : State) (p : ℕ) : Type 0 where
  pub gone : (q : ℕ) → Derived s.capability p q → t.capability q ≡ nothing
  pub kept : (q : ℕ) → (Derived s.capability p q → ⊥) → t.capability q ≡ s.capability q
  pub stays : t.capability p ≡ s.capability p
  pub rest : OnlyPlaces s t

abbrev pub RevokeExactly : Type 0
RevokeExactly = (b : List ℕ) (s : State) → Reached b s → (o : Operation) → named o.number ≡ REVOKE → (answer s o).status ≡ 0
    → Revoked s (next s o) (slot (whose s) o.first)

-- c is d but for the source
pub record SameButSource (c d : Capability) : Type 0 where
  pub kind : c.kind ≡ d.kind
  pub rights : c.rights ≡ d.rights
  pub object : c.object ≡ d.object
  pub badge : c.badge ≡ d.badge

-- DELETE of place p: it is empty, and between the places that remain Derived is exactly what it was before
pub record Deleted (s t : State) (p : ℕ) : Type 0 where
  pub gone : t.capability p ≡ nothing
  pub kept : (q : ℕ) → (q ≡ p → ⊥) → SameButSource (t.capability q) (s.capability q)
  pub between : (q r : ℕ) → (q ≡ p → ⊥) → (r ≡ p → ⊥) → Derived t.capability q r ↔ Derived s.capability q r
  pub rest : OnlyPlaces s t

abbrev pub DeleteKeeps : Type 0
DeleteKeeps = (b : List ℕ) (s : State) → Reached b s → (o : Operation) → named o.number ≡ DELETE → (answer s o).status ≡ 0
    → Deleted s (next s o) (slot (whose s) o.first)

-- a place that was empty before a turn has nothing derived from it after the turn, whatever it holds then
abbrev pub ReusedIsFresh : Type 0
ReusedIsFresh = (b : List ℕ) (s : State) → Reached b s → (o : Operation) (p q : ℕ) → (s.capability p).kind ≡ 0
    → Derived (next s o).capability p q → ⊥

-- a SEND of a capability over a mailbox without GRANT is refusal 5, whatever the mailbox holds
abbrev pub SendNeedsGrant : Type 0
SendNeedsGrant = (s : State) (o : Operation) → named o.number ≡ SEND → slot_for_refusal s (whose s) o.first MAILBOX WRITE ≡ 0
    → o.second < slots → within GRANT (held s (whose s) o.first).rights ≡ false → (answer s o).status ≡ 5

-- SEND leaves a message with the badge of slot s in its mailbox, whatever goes along
abbrev pub SendBadge : Type 0
SendBadge = (s : State) (o : Operation) → named o.number ≡ SEND → (answer s o).status ≡ 0
    → ((next s o).message (held s (whose s) o.first).object).badge ≡ (held s (whose s) o.first).badge

-- RECEIVE from mailbox m: no refusal, and the mailbox is empty, with nothing under way
pub record Received (t : State) (a : Answer) (m : ℕ) : Type 0 where
  pub status : a.status ≡ 0
  pub message : t.message m ≡ no_message
  pub under_way : t.capability (room m) ≡ nothing

-- a message that is there is received whatever slot t holds: where t is taken there is no refusal, and nothing stays in the mailbox
abbrev pub ReceiveEmpties : Type 0
ReceiveEmpties = (b : List ℕ) (s : State) → Reached b s → (o : Operation) → named o.number ≡ RECEIVE
    → slot_for_refusal s (whose s) o.first MAILBOX READ ≡ 0 → o.second ≤ slots
    → ((s.message (held s (whose s) o.first).object).full ≡ 0 → ⊥)
    → Received (next s o) (answer s o) (held s (whose s) o.first).object

-- domain d could hold a triple with the kind and object of c and at least its rights
pub record Covered (i : Image) (d : ℕ) (c : Capability) : Type 0 where
  pub triple : Triple
  pub could : CouldHold i d triple
  pub kind : triple.kind ≡ c.kind
  pub object : triple.object ≡ c.object
  pub rights : within c.rights triple.rights ≡ true

-- confinement, document 03 section 1; and of a capability under way: every reader of the mailbox could hold it
pub record Confined (i : Image) (s : State) : Type 0 where
  pub in_slots : (d x : ℕ) → d < s.domains → x < slots → Holds s.capability (slot d x) → Covered i d (s.capability (slot d x))
  pub under_way : (m d : ℕ) → Reader i MAILBOX m d → Holds s.capability (room m) → Covered i d (s.capability (room m))

abbrev pub Confinement : Type 0
Confinement = (b : List ℕ) (s : State) → Reached b s → Confined (image_of b) s

-- WRITE in one triple and GRANT in another is not enough for rule 2: where the image gives no domain a mailbox with both, each domain
-- could hold what the image gives it, and nothing else
abbrev pub ApartIsNotEnough : Type 0
ApartIsNotEnough = (i : Image)
    → ((m : ℕ) (e : Entry) → Memᴰ e i.entries → For MAILBOX m WRITE (triple_of e) → For MAILBOX m GRANT (triple_of e) → ⊥)
    → (d : ℕ) (t : Triple) → CouldHold i d t → (e : Entry) × Memᴰ e i.entries × (e.domain ≡ d) × (triple_of e ≡ t)
