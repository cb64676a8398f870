-- What the two functions of this crate answer and write, in the words of document 03. A list of numbers stands for bytes. Assumes nothing.
use Rattle.std.specs.Prelude.{◌≡◌, Bool, true, cond, List, ℕ, ◌+◌, ◌*◌, ◌/◌, ◌%◌, ◌≤◌, ◌<◌, leb, length, get_or}
use Rattle.rules.specs.Turn.{◌then◌else◌}
use Rattle.rules.specs.Image.{size_d, size_c, image_of, refusal_of}
use Rattle.rules.specs.Flow.{triple_of, CouldHold, Flow}
use Rattle.flow.specs.Cells.{entry_numbered}

-- a byte says whether P: it is 1 exactly where P holds, and 0 where not
pub record Tells (x : ℕ) (P : Type 0) : Type 0 where
  pub most : x ≤ 1
  pub told : x ≡ 1 → P
  pub every : P → x ≡ 1

-- a test's answer says whether P: it is true exactly where P holds
pub record Says (t : Bool) (P : Type 0) : Type 0 where
  pub told : t ≡ true → P
  pub every : P → t ≡ true

-- a byte is 1 or 0 by one of the answers R
pub record Answered (R : Bool → Type 0) (x : ℕ) : Type 0 where
  pub answer : Bool
  pub given : R answer
  pub byte : x ≡ cond answer 1 0

-- each of the first n bytes, in rows of m, is 1 or 0 by a test's answer at its row and its place there, and the bytes behind are as before
pub record Tested (R : ℕ → ℕ → Bool → Type 0) (m n : ℕ) (before after : List ℕ) : Type 0 where
  pub long : length after ≡ length before
  pub tested : (y : ℕ) → y < n → Answered (R (y / m) (y % m)) (get_or after y 0)
  pub behind : (y : ℕ) → n ≤ y → get_or after y 0 ≡ get_or before y 0

-- the answer where n bytes are asked for: the image's refusal, or 28 where there are fewer, or 0
unfoldable pub answer_for : List ℕ → ℕ → List ℕ → ℕ
answer_for b n out = refusal_of b then leb n (length out) else 28

-- what the image's domains could hold, written for bytes b into out
pub record Held (b out : List ℕ) (r : ℕ) (written : List ℕ) : Type 0 where
  -- the answer is the image's refusal, or 28 where out is shorter than D * C, or 0
  pub answer : r ≡ answer_for b (size_d b * size_c b) out
  -- out stays where the answer is not 0
  pub untouched : (r ≡ 0 → ⊥) → written ≡ out
  -- byte d * C + e says whether domain d could hold the triple of entry e
  pub tells : r ≡ 0 → (d e : ℕ) → d < size_d b → e < size_c b
      → Tells (get_or written (d * size_c b + e) 0) (CouldHold (image_of b) d (triple_of (entry_numbered b e)))
  -- the bytes behind D * C stay
  pub behind : r ≡ 0 → (y : ℕ) → size_d b * size_c b ≤ y → get_or written y 0 ≡ get_or out y 0
  pub long : length written ≡ length out

-- what may flow where, written for bytes b into out
pub record Flows (b out : List ℕ) (r : ℕ) (written : List ℕ) : Type 0 where
  -- the answer is the image's refusal, or 28 where out is shorter than D * D, or 0
  pub answer : r ≡ answer_for b (size_d b * size_d b) out
  -- out stays where the answer is not 0
  pub untouched : (r ≡ 0 → ⊥) → written ≡ out
  -- byte x * D + y says whether there is a flow from domain x to domain y
  pub tells : r ≡ 0 → (x y : ℕ) → x < size_d b → y < size_d b → Tells (get_or written (x * size_d b + y) 0) (Flow (image_of b) x y)
  -- the bytes behind D * D stay
  pub behind : r ≡ 0 → (y : ℕ) → size_d b * size_d b ≤ y → get_or written y 0 ≡ get_or out y 0
  pub long : length written ≡ length out
