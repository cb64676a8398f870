-- Masks of domains, and rows of them: which domains are in a mask, which rows meet one, what some of the rows have together, and what is
-- added to rows. A number stands for a mask, its binary digit d for domain d; a list of numbers for rows. Assumes nothing.
use Rattle.std.specs.Prelude.{◌≡◌, List, ℕ, zero, suc, ◌+◌, ◌/◌, ◌%◌, ◌^◌, ◌<◌, length, get_or}
use Rattle.std.specs.Int.Bits.{bit_or}
use Rattle.rules.specs.Sizes.{domains_most}

-- domain d is in mask x
pub record In (d x : ℕ) : Type 0 where
  pub digit : x / 2 ^ d % 2 ≡ 1

-- two masks meet in a domain
pub record Meets (x y : ℕ) : Type 0 where
  pub domain : ℕ
  pub left : In domain x
  pub right : In domain y

-- row a
abbrev pub row : List ℕ → ℕ → ℕ
row rows a = get_or rows a 0

-- a mask of those of the first n rows that meet a mask
pub record Meeting (rows : List ℕ) (mask n r : ℕ) : Type 0 where
  pub told : (a : ℕ) → In a r → (a < n) × Meets (row rows a) mask
  pub every : (a : ℕ) → a < n → Meets (row rows a) mask → In a r

-- c is in one of the n cells from a first one on that are chosen by a mask
pub record OneOf (cells : List ℕ) (first n which c : ℕ) : Type 0 where
  pub number : ℕ
  pub low : number < n
  pub chosen : In number which
  pub inside : In c (get_or cells (first + number) 0)

-- a mask of what is in one of those cells
pub record United (cells : List ℕ) (first n which r : ℕ) : Type 0 where
  pub told : (c : ℕ) → In c r → OneOf cells first n which c
  pub every : (c : ℕ) → OneOf cells first n which c → In c r

-- row a has taken in a mask where it is chosen, and the others are as before
pub record Taken (which what a : ℕ) (before after : List ℕ) : Type 0 where
  pub long : length after ≡ length before
  pub taken : In a which → row after a ≡ bit_or (row before a) what
  pub kept : (x : ℕ) → (x ≡ a → In a which → ⊥) → row after x ≡ row before x

-- those of the first n rows that are chosen by a mask have taken in a mask, and the others are as before
pub record Spread (which what n : ℕ) (before after : List ℕ) : Type 0 where
  pub long : length after ≡ length before
  pub taken : (a : ℕ) → a < n → In a which → row after a ≡ bit_or (row before a) what
  pub kept : (a : ℕ) → (a < n → In a which → ⊥) → row after a ≡ row before a

-- each row has itself alone
pub record Themselves (rows : List ℕ) : Type 0 where
  pub long : length rows ≡ domains_most
  pub itself : (a : ℕ) → a < domains_most → row rows a ≡ 2 ^ a

-- the sum of the first n rows, as numbers: it grows where a row takes something in
unfoldable pub sums : List ℕ → ℕ → ℕ
sums rows zero = 0
sums rows (suc n) = sums rows n + row rows n
