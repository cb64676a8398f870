-- The contract of reading a boot image into memory. Assumes nothing.
use Rattle.std.specs.Prelude.{◌≡◌, List, ℕ, ◌+◌, ◌≤◌, ◌<◌, length, get_or}
use Rattle.rules.specs.Image.{byte, header_bytes, size_d, size_f, size_t, entries_at, table_of, entries_from, image_of, given, boot, refusal_of}
use Rattle.rules.specs.State.{State, nothing, no_message}
use Rattle.rules.specs.Turn.{with_places}
use Rattle.layout.specs.Layout.{state_of, words_for}

-- reading accepted bytes b into memory m, which became n: its length and the words behind the state's own are kept, and it holds exactly
-- the state that the image describes
pub record Loaded (b m n : List ℕ) : Type 0 where
  pub long : length n ≡ length m
  pub behind : (k : ℕ) → words_for (size_f b) ≤ k → get_or n k 0 ≡ get_or m k 0
  pub state : state_of n ≡ boot (image_of b)

-- reading the bytes b into memory m answers r and leaves n
pub record Booted (b m : List ℕ) (r : ℕ) (n : List ℕ) : Type 0 where
  -- the image's own refusals come first, and leave the memory as it was
  pub refused : (refusal_of b ≡ 0 → ⊥) → (r ≡ refusal_of b) × (n ≡ m)
  -- memory too short for the image's frames: 29, and nothing changed
  pub short : refusal_of b ≡ 0 → length m < words_for (size_f b) → (r ≡ 29) × (n ≡ m)
  pub accepted : refusal_of b ≡ 0 → words_for (size_f b) ≤ length m → (r ≡ 0) × Loaded b m n

-- ---- on the way there

-- a state with nothing in it but its sizes and table
unfoldable pub bare : ℕ → ℕ → List ℕ → State
bare domains frames turns =
    record {
      domains = domains;
      frames = frames;
      turns = turns;
      position = 0;
      capability = λ p. nothing;
      word = λ f w. 0;
      bell = λ b. 0;
      message = λ m. no_message;
    }

-- what stands in memory for it, with t turns, the first i of which are written
pub record Fresh (domains frames t i : ℕ) (turn : ℕ → ℕ) (m : List ℕ) : Type 0 where
  pub first : get_or m 0 0 ≡ domains
  pub second : get_or m 1 0 ≡ frames
  pub third : get_or m 2 0 ≡ t
  pub turns : (k : ℕ) → k < i → get_or m (4 + k) 0 ≡ turn k
  pub rest : (k : ℕ) → 4 + i ≤ k → k < words_for frames → get_or m k 0 ≡ 0
  pub position : get_or m 3 0 ≡ 0

-- memory m became o: cleared, with the head and the first i turns of image b
pub record Tabled (b m o : List ℕ) (i : ℕ) : Type 0 where
  pub fresh : Fresh (size_d b) (size_f b) (size_t b) i (λ k. byte b (header_bytes + k)) o
  pub long : length o ≡ length m
  pub behind : (k : ℕ) → words_for (size_f b) ≤ k → get_or o k 0 ≡ get_or m k 0

-- memory m became o, with the first i entries of image b
pub record Entered (b m o : List ℕ) (i : ℕ) : Type 0 where
  pub long : length o ≡ length m
  pub behind : (k : ℕ) → words_for (size_f b) ≤ k → get_or o k 0 ≡ get_or m k 0
  pub state : state_of o ≡ with_places (bare (size_d b) (size_f b) (table_of b)) (given (entries_from b i (entries_at (size_t b))))
