-- Document 01, section 5: writing what was read gives the bytes back, reading what was written gives the state back, and an image describes
-- each state in one way only. The statements; proofs/ has a proof of each under the same name in small letters. Assumes nothing.
use Rattle.std.specs.Prelude.{◌≡◌, List, ℕ, ◌≤◌}
use Rattle.rules.specs.Sizes.{frame_words, mailboxes, bells}
use Rattle.rules.specs.State.{State, no_message, Section4, Formed}
use Rattle.rules.specs.Image.{Bytes, image_of, boot, refusal_of, accepted, read, image, write}
use Rattle.rules.specs.Authority.{Reached}

-- writing what was read gives the bytes back, for every accepted image
abbrev pub WrittenRead : Type 0
WrittenRead = (b : List ℕ) → Bytes b → refusal_of b ≡ 0 → write (boot (image_of b)) ≡ image b

-- so an image describes each state in one way only
abbrev pub OneWay : Type 0
OneWay = (b c : List ℕ) → Bytes b → Bytes c → refusal_of b ≡ 0 → refusal_of c ≡ 0 → boot (image_of b) ≡ boot (image_of c) → b ≡ c

-- a state has nothing outside the sizes of section 1: of places Formed says so already
pub record Proper (s : State) : Type 0 where
  -- the words of the frames that there are not are 0
  pub frames : (f : ℕ) → s.frames ≤ f → (w : ℕ) → s.word f w ≡ 0
  -- the words that a frame has not are 0
  pub words : (f w : ℕ) → frame_words ≤ w → s.word f w ≡ 0
  -- the bells that there are not are 0
  pub bells : (b : ℕ) → bells ≤ b → s.bell b ≡ 0
  -- the mailboxes that there are not are empty
  pub mailboxes : (m : ℕ) → mailboxes ≤ m → s.message m ≡ no_message

-- reading what was written gives the state back
abbrev pub ReadWritten : Type 0
ReadWritten = (s : State) → Formed s → Section4 s.capability → Proper s → (b : List ℕ) → write s ≡ image b → read b ≡ accepted s

-- this asks nothing more of a reached state: each is Proper, as each is Formed and keeps section 4
abbrev pub ProperAlways : Type 0
ProperAlways = (b : List ℕ) (s : State) → Reached b s → Proper s
