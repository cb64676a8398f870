-- Refusal 26 as the code tests it: an index from places to entries, each source against the entry that defines it, and marks by which a
-- chain of sources that comes back is found. Assumes nothing.
use Rattle.std.specs.Prelude.{◌≡◌, Option, None, Some, Bool, true, false, ◌&&◌, ◌||◌, List, ℕ, ◌+◌, ◌*◌, ◌≤◌, ◌<◌, length, get_or, replicate}
use Rattle.std.specs.List.{list_all, range_with_len}
use Rattle.rules.specs.Sizes.{all_slots, entries_most}
use Rattle.rules.specs.State.{Places, slot, nothing, Derived}
use Rattle.rules.specs.Image.{Entry, entry_bytes, size_t, size_c, entries_at, entry_at, image_of, sourceless, capability_given, given, some, defines, fitting, refusal_of_form}
use Rattle.rules.specs.declared.Capability.{Capability}
use Rattle.image.specs.Said.{Whole}

-- the entries of an image, and what they give at each place
abbrev pub entries_of : List ℕ → List Entry
entries_of b = (image_of b).entries

abbrev pub given_by : List ℕ → Places
given_by b = given (entries_of b)

-- a test passes at each of the first n entries, as the code goes through them
abbrev pub each_entry : (Entry → Bool) → List ℕ → ℕ → Bool
each_entry f b n = list_all (λ i. f (entry_at b (entries_at (size_t b) + entry_bytes * i))) (range_with_len 0 n)

-- bytes that are not refused below 26
pub record Formed (b : List ℕ) : Type 0 where
  pub whole : Whole b
  pub count : size_c b ≤ entries_most
  pub refusal : refusal_of_form b ≡ 0

-- no number at any place
abbrev pub unnumbered : List (Option ℕ)
unnumbered = replicate all_slots None

-- the capability of an entry by its number, counted from 0, if there is one
unfoldable pub numbered : List ℕ → Option ℕ → Capability
numbered b None = nothing
numbered b (Some i) = capability_given (entry_at b (entries_at (size_t b) + entry_bytes * i))

-- for each place the number of the entry for it, if there is one
pub record Indexed (b : List ℕ) (index : List (Option ℕ)) : Type 0 where
  pub long : length index ≡ all_slots
  pub low : (p i : ℕ) → get_or index p None ≡ Some i → i < size_c b
  pub exact : (p : ℕ) → numbered b (get_or index p None) ≡ given_by b p

-- an entry has no source, or one that an entry defines and that it fits
unfoldable pub tied : List Entry → Entry → Bool
tied es e =
    sourceless e || (some (defines e) es && fitting (capability_given e) (given es (slot e.source_domain e.source_slot)))

-- what a climb goes by: an index of bytes that are not refused below 26, whose sources are slots
pub record Linked (b : List ℕ) (index : List (Option ℕ)) : Type 0 where
  pub formed : Formed b
  pub indexed : Indexed b index
  pub slots : (q : ℕ) → (given_by b q).source ≤ all_slots

-- marks below mark k at some places: from none of them does following sources come back
pub record Marked (at : Places) (k : ℕ) (marks : List ℕ) : Type 0 where
  pub long : length marks ≡ all_slots
  pub low : (q : ℕ) → get_or marks q 0 < k
  pub clear : (q : ℕ) → (get_or marks q 0 ≡ 0 → ⊥) → Derived at q q → ⊥

-- a climb from a place with mark k made marks n of marks m: it ends, or following sources comes back somewhere
pub record Climbed (at : Places) (from k : ℕ) (ends : Bool) (m n : List ℕ) : Type 0 where
  pub kept : (q : ℕ) → (get_or m q 0 ≡ 0 → ⊥) → get_or n q 0 ≡ 0 → ⊥
  pub here : get_or n from 0 ≡ 0 → ⊥
  pub marked : ends ≡ true → Marked at (k + 1) n
  pub back : ends ≡ false → (p : ℕ) × Derived at p p

-- following sources never comes back to where it began, as a test
pub record NoReturn (at : Places) (test : Bool) : Type 0 where
  pub none : test ≡ true → (p : ℕ) → Derived at p p → ⊥
  pub back : test ≡ false → (p : ℕ) × Derived at p p
