-- Document 01, section 5, of the code: reading what was written gives the state back, and writing what was read gives the bytes back. The
-- statements are over the contracts of reading and writing; proofs/ has a proof of each under the same name in small letters. Assumes nothing.
use Rattle.std.specs.Prelude.{◌≡◌, List, ℕ, ◌≤◌, length, take}
use Rattle.rules.specs.Image.{Bytes}
use Rattle.layout.specs.Layout.{state_of, need}
use Rattle.turn.specs.Turned.{Good}
use Rattle.boot.specs.Booted.{Booted}
use Rattle.write.specs.Written.{Wrote}

-- the bytes b were read into memory m, which became n; then writing gives b back, into any buffer that is long enough for it
abbrev pub WriteAfterRead : Type 0
WriteAfterRead =
    (b m n : List ℕ) → Bytes b → Booted b m 0 n → (buffer c : List ℕ) (r size : ℕ) → Wrote n buffer r size c → length b ≤ length buffer
    → (r ≡ 0) × (size ≡ length b) × (take size c ≡ b)

-- the state in good memory m was written; then reading the image, into any memory that is as long, is not refused and gives the state back
abbrev pub ReadAfterWrite : Type 0
ReadAfterWrite =
    (m buffer c : List ℕ) (size : ℕ) → Good m → Wrote m buffer 0 size c → (memory n : List ℕ) (r : ℕ) → Booted (take size c) memory r n
    → need m ≤ length memory → (r ≡ 0) × (state_of n ≡ state_of m)
