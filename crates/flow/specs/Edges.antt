-- Direct flow and its closure over rows of masks: domain b is in row a where there is a flow from a to b. Assumes nothing.
use Rattle.std.specs.Prelude.{◌≡◌, false, List, ◌⊎◌, ℕ, ◌≤◌, ◌<◌, length}
use Rattle.rules.specs.Sizes.{domains_most}
use Rattle.rules.specs.Image.{size_d, image_of, sourceless}
use Rattle.rules.specs.Flow.{Flow}
use Rattle.flow.specs.Masks.{In, row}
use Rattle.flow.specs.Cells.{mailbox_first, bell_first, reading, writing, Has, entry_numbered}

-- domain a could hold object o with one of those rights: what a domain has that passes it on to a
pub record Uses (cells rows : List ℕ) (o rights a : ℕ) : Type 0 where
  pub holder : ℕ
  pub inside : In holder (row rows a)
  pub has : Has cells o rights holder

-- a mask of those domains
pub record Users (cells rows : List ℕ) (o rights r : ℕ) : Type 0 where
  pub told : (a : ℕ) → In a r → Uses cells rows o rights a
  pub every : (a : ℕ) → Uses cells rows o rights a → In a r

-- direct flow from a to b over object o
pub data Link (cells rows : List ℕ) (o a b : ℕ) : Type 0 where
  -- a frame: from writers to readers
  frame : o < mailbox_first → Uses cells rows o writing a → Uses cells rows o reading b → Link cells rows o a b
  -- a mailbox: from writers and readers to writers and readers
  mailbox : mailbox_first ≤ o → o < bell_first → Uses cells rows o writing a ⊎ Uses cells rows o reading a
      → Uses cells rows o writing b ⊎ Uses cells rows o reading b → Link cells rows o a b
  -- a bell: from writers and readers to readers
  bell : bell_first ≤ o → Uses cells rows o writing a ⊎ Uses cells rows o reading a → Uses cells rows o reading b → Link cells rows o a b

-- entry i has a source, in domain a, and is b's
pub record Source (bytes : List ℕ) (i a b : ℕ) : Type 0 where
  pub sourced : sourceless (entry_numbered bytes i) ≡ false
  pub from : (entry_numbered bytes i).source_domain ≡ a
  pub to : (entry_numbered bytes i).domain ≡ b

-- one of the numbers from x up to y gives a flow from a to b
pub record Edge (E : ℕ → ℕ → ℕ → Type 0) (x y a b : ℕ) : Type 0 where
  pub number : ℕ
  pub least : x ≤ number
  pub low : number < y
  pub edge : E number a b

-- the rows have grown by exactly these
pub record Added (E : ℕ → ℕ → ℕ → Type 0) (x y : ℕ) (before after : List ℕ) : Type 0 where
  pub long : length after ≡ length before
  pub stays : (a b : ℕ) → In b (row before a) → In b (row after a)
  pub told : (a b : ℕ) → In b (row after a) → In b (row before a) ⊎ Edge E x y a b
  pub every : (a b : ℕ) → Edge E x y a b → In b (row after a)

-- whoever flows to k flows to where k flows
pub record Joined (k : ℕ) (before after : List ℕ) : Type 0 where
  pub long : length after ≡ length before
  pub stays : (a b : ℕ) → In b (row before a) → In b (row after a)
  pub told : (a b : ℕ) → In b (row after a) → In b (row before a) ⊎ ((In k (row before a)) × (In b (row before k)))
  pub every : (a b : ℕ) → In k (row before a) → In b (row before k) → In b (row after a)

-- one flow after the other
pub data Chain (rows : List ℕ) : ℕ → ℕ → Type 0 where
  link : {a b : ℕ} → In b (row rows a) → Chain rows a b
  on : {a b c : ℕ} → Chain rows a b → Chain rows b c → Chain rows a c

-- the rows have grown by flows one after the other alone, and are transitive over each domain below n
pub record Closing (n : ℕ) (before after : List ℕ) : Type 0 where
  pub long : length after ≡ length before
  pub stays : (a b : ℕ) → In b (row before a) → In b (row after a)
  pub told : (a b : ℕ) → In b (row after a) → Chain before a b
  pub closed : (k : ℕ) → k < n → (a b : ℕ) → In k (row after a) → In b (row after k) → In b (row after a)

-- the rows of bytes b's image have exactly what may flow where
pub record Whole (b rows : List ℕ) : Type 0 where
  pub long : length rows ≡ domains_most
  pub told : (x y : ℕ) → x < size_d b → In y (row rows x) → Flow (image_of b) x y
  pub every : (x y : ℕ) → Flow (image_of b) x y → In y (row rows x)
