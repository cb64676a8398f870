-- The contract of writing the image of the state in memory. Assumes nothing.
use Rattle.std.specs.Prelude.{◌≡◌, Result, Ok, Err, Bool, false, ◌&&◌, List, ℕ, ◌≤◌, ◌<◌, length, get_or, take}
use Rattle.rules.specs.Sizes.{domains_most, turns_most, frames_most}
use Rattle.rules.specs.State.{State}
use Rattle.rules.specs.Image.{between, image, unwritable, write}
use Rattle.layout.specs.Layout.{state_of, need, Enough}
use Rattle.rules.specs.declared.Refusal.{Refusal}
use Rattle.turn.specs.Turned.{Good}

-- D, T and F are in range, as they are in good memory
unfoldable pub sized : State → Bool
sized s = between 1 domains_most s.domains && between 1 turns_most (length s.turns) && between 1 frames_most s.frames

-- the size of what was written, 0 after a refusal
abbrev pub size_of : Result ℕ Refusal → ℕ
size_of (Ok n) = n
size_of (Err e) = 0

-- writing the image of the state in memory m into the buffer b answers r and a size, and leaves c
pub record Wrote (m b : List ℕ) (r size : ℕ) (c : List ℕ) : Type 0 where
  -- on any memory: the buffer's length and the bytes behind the image are kept, and a refusal leaves the buffer as it was
  pub long : length c ≡ length b
  pub within : size ≤ length b
  pub behind : (k : ℕ) → size ≤ k → get_or c k 0 ≡ get_or b k 0
  pub refused : (r ≡ 0 → ⊥) → (c ≡ b) × (size ≡ 0)
  -- memory too short for the state that it claims to hold
  pub short : length m < need m → r ≡ 29
  -- any other memory: a state that the rules cannot write, or one with sizes that no image has
  pub unwritten : Enough m → write (state_of m) ≡ unwritable → r ≡ 27
  pub unsized : Enough m → sized (state_of m) ≡ false → r ≡ 27
  -- good memory, whose image is bs: the buffer is too short, or has exactly these bytes
  pub small : Good m → (bs : List ℕ) → write (state_of m) ≡ image bs → length b < length bs → r ≡ 28
  pub written : Good m → (bs : List ℕ) → write (state_of m) ≡ image bs → length bs ≤ length b
      → (r ≡ 0) × (size ≡ length bs) × (take size c ≡ bs)
