-- How a state stands in memory: one region of words for each of its fields, one behind the other, with no word between; the frames last.
-- Assumes nothing.
use Rattle.std.specs.Prelude.{◌≡◌, cond, ◌&&◌, List, [], ◌∷◌, ℕ, zero, suc, ◌+◌, ◌*◌, ◌^◌, ◌≤◌, leb, ltb, length, get_or}
use Rattle.rules.specs.Sizes.{frames_most, mailboxes, bells, turns_most, places, frame_words}
use Rattle.rules.specs.State.{State}
use Rattle.layout.specs.declared.Head.{Head}

-- the regions: the head (D, F, T and the position), the table of turns, the five fields of a place, the bells, the six fields of a message
abbrev pub HEAD : ℕ
HEAD = 0

abbrev pub TURNS : ℕ
TURNS = 1

abbrev pub KIND : ℕ
KIND = 2

abbrev pub RIGHTS : ℕ
RIGHTS = 3

abbrev pub OBJECT : ℕ
OBJECT = 4

abbrev pub BADGE : ℕ
BADGE = 5

abbrev pub SOURCE : ℕ
SOURCE = 6

abbrev pub BELLS : ℕ
BELLS = 7

abbrev pub FULL : ℕ
FULL = 8

abbrev pub FROM : ℕ
FROM = 9

abbrev pub W0 : ℕ
W0 = 10

abbrev pub W1 : ℕ
W1 = 11

abbrev pub W2 : ℕ
W2 = 12

abbrev pub W3 : ℕ
W3 = 13

-- the frames' words, to the end of the memory
abbrev pub FRAMES : ℕ
FRAMES = 14

-- how many words each region has
unfoldable pub size : ℕ → ℕ
size r =
    get_or (4 ∷ turns_most ∷ places ∷ places ∷ places ∷ places ∷ places ∷ bells ∷ mailboxes ∷ mailboxes ∷ mailboxes ∷ mailboxes ∷ mailboxes
    ∷ mailboxes ∷ 2 ^ 64 ∷ []) r 0

-- where each region begins
unfoldable pub base : ℕ → ℕ
base zero = 0
base (suc r) = base r + size r

-- word i of region r; past the region's end 0
unfoldable pub cells : List ℕ → ℕ → ℕ → ℕ
cells m r i = cond (ltb i (size r)) (get_or m (base r + i) 0) 0

-- the first n numbers of f
unfoldable pub listed : (ℕ → ℕ) → ℕ → ℕ → List ℕ
listed f zero i = []
listed f (suc n) i = f i ∷ listed f n (suc i)

-- the state that the regions' words say
unfoldable pub of_cells : (ℕ → ℕ → ℕ) → State
of_cells c =
    record {
      domains = c HEAD 0;
      frames = c HEAD 1;
      turns = listed (c TURNS) (c HEAD 2) 0;
      position = c HEAD 3;
      capability = λ p. record { kind = c KIND p; rights = c RIGHTS p; object = c OBJECT p; badge = c BADGE p; source = c SOURCE p };
      word = λ f w. cond (ltb f (c HEAD 1) && ltb w frame_words) (c FRAMES (f * frame_words + w)) 0;
      bell = c BELLS;
      message = λ m. record { full = c FULL m; badge = c FROM m; w0 = c W0 m; w1 = c W1 m; w2 = c W2 m; w3 = c W3 m };
    }

unfoldable pub state_of : List ℕ → State
state_of m = of_cells (cells m)

-- no turn counts as many visits as this
abbrev pub visits_most : ℕ
visits_most = 2000000

-- where the position stands
abbrev pub position_at : ℕ
position_at = 3

-- where the frames begin, and how many words a state with so many frames takes
abbrev pub frames_at : ℕ
frames_at = 5956

abbrev pub words_for : ℕ → ℕ
words_for frames = frames_at + frame_words * frames

-- the same for a number of frames that may be out of range: then 0
unfoldable pub words_of : ℕ → ℕ
words_of frames = cond (ltb 0 frames && leb frames frames_most) (words_for frames) 0

-- the words that the state in memory takes, by its own head
abbrev pub need : List ℕ → ℕ
need m = words_for (state_of m).frames

-- the memory is long enough for the state that it claims to hold
abbrev pub Enough : List ℕ → Type 0
Enough m = need m ≤ length m

-- the head of a state: D, F, how many turns its table has, and the position
pub record Headed (s : State) (h : Head) : Type 0 where
  pub domains : h.domains ≡ s.domains
  pub frames : h.frames ≡ s.frames
  pub turns : h.turns ≡ length s.turns
  pub position : h.position ≡ s.position
