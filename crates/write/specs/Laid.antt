-- What the functions on the way to an image do: the tests of refusal 27 one by one, and the byte of a number; and what is known before the
-- first byte is written.
-- Assumes nothing.
use Rattle.std.specs.Prelude.{◌≡◌, Bool, not, ℕ, ◌*◌, ◌%◌, ◌≤◌, eqb, length}
use Rattle.std.specs.List.{list_all, range_with_len}
use Rattle.rules.specs.Sizes.{slots, domains_most, turns_most, frame_words}
use Rattle.rules.specs.State.{State, Places}
use Rattle.rules.specs.Turn.{full}
use Rattle.rules.specs.Image.{occupied, all_below}
use Rattle.image.specs.declared.Header.{Header}

-- a test passes at each number below n, as the code goes through them
abbrev pub each_below : ℕ → (ℕ → Bool) → Bool
each_below n f = list_all f (range_with_len 0 n)

-- mailbox m is empty, word w of frame f is 0, all of frame f is, bell b is
abbrev pub empty : State → ℕ → Bool
empty s m = not (full (s.message m))

-- the test of an empty mailbox, as the code makes it
abbrev pub no_mail : State → ℕ → Bool
no_mail s m = eqb (s.message m).full 0

abbrev pub zero_word : State → ℕ → ℕ → Bool
zero_word s f w = eqb (s.word f w) 0

abbrev pub zero_frame : State → ℕ → Bool
zero_frame s f = all_below frame_words (zero_word s f)

abbrev pub zero_bell : State → ℕ → Bool
zero_bell s b = eqb (s.bell b) 0

-- place p holds a capability
abbrev pub held : Places → ℕ → Bool
held at p = not (eqb (at p).kind 0)

-- the byte that is written for a number
abbrev pub low : ℕ → ℕ
low x = x % 256

-- h is the header of the state's image, and D and T are in range
pub record Ready (s : State) (h : Header) : Type 0 where
  pub domains : h.domains ≡ s.domains
  pub turns : h.turns ≡ length s.turns
  pub entries : h.entries ≡ length (occupied s.capability (h.domains * slots) 0)
  pub frames : h.frames ≡ s.frames
  pub domains_in_range : h.domains ≤ domains_most
  pub turns_in_range : h.turns ≤ turns_most
