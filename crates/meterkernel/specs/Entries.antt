-- The contracts of mk_turn, a turn through the C interface with the operation and the answer in lent words, and of mk_write. The other
-- entries' contracts are those of the functions that they call: Booted, Whose, Flows, Held. Assumes nothing.
use Rattle.std.specs.Prelude.{◌≡◌, List, ◌⊎◌, ℕ, ◌≤◌, ◌<◌, length, get_or}
use Rattle.rules.specs.declared.Operation.{Operation}
use Rattle.rules.specs.declared.Answer.{Answer}
use Rattle.layout.specs.Layout.{need, Enough}
use Rattle.turn.specs.Turned.{Turned}
use Rattle.write.specs.Written.{Wrote}

-- an operation is its number and seven arguments; an answer has six words beside its status
abbrev pub operation_words : ℕ
operation_words = 8

abbrev pub answer_words : ℕ
answer_words = 6

-- the operation that lent words say
unfoldable pub operation_in : List ℕ → Operation
operation_in op =
    record {
      number = get_or op 0 0;
      first = get_or op 1 0;
      second = get_or op 2 0;
      third = get_or op 3 0;
      fourth = get_or op 4 0;
      fifth = get_or op 5 0;
      sixth = get_or op 6 0;
      seventh = get_or op 7 0;
    }

-- the answer that a status and lent words say
unfoldable pub answer_in : ℕ → List ℕ → Answer
answer_in status a =
    record { status = status; w0 = get_or a 0 0; w1 = get_or a 1 0; w2 = get_or a 2 0; w3 = get_or a 3 0; w4 = get_or a 4 0; w5 = get_or a 5 0 }

-- the operation, the answer or the memory is too short
abbrev pub TooShort : List ℕ → List ℕ → List ℕ → Type 0
TooShort m op a = (length op < operation_words) ⊎ ((length a < answer_words) ⊎ (length m < need m))

-- mk_turn on memory m with the words op and a: the memory becomes n, the words a become b, and the result is r
pub record TurnCalled (m op a n b : List ℕ) (r : ℕ) : Type 0 where
  -- too short: 29, and nothing changed
  pub short : TooShort m op a → (r ≡ 29) × (n ≡ m) × (b ≡ a)
  -- else one turn, within its visits, and its answer
  pub turned : operation_words ≤ length op → answer_words ≤ length a → Enough m
      → (visits : ℕ) × Turned m (operation_in op) n (answer_in r b) visits
  -- the words behind the answer's six are kept
  pub long : length b ≡ length a
  pub behind : (k : ℕ) → answer_words ≤ k → get_or b k 0 ≡ get_or a k 0

-- mk_write of memory m into the buffer b, with z where the size is to go: the result is r, the buffer becomes c, and z becomes y
pub record WriteCalled (m b : List ℕ) (z r : ℕ) (c : List ℕ) (y : ℕ) : Type 0 where
  pub size : ℕ
  pub wrote : Wrote m b r size c
  pub told : r ≡ 0 → y ≡ size
  -- a refusal changes nothing
  pub left : (r ≡ 0 → ⊥) → y ≡ z

-- on the way there: the six words of answer x were told, and the words behind them are kept
pub record Told (x : Answer) (a b : List ℕ) : Type 0 where
  pub words : answer_in x.status b ≡ x
  pub long : length b ≡ length a
  pub behind : (k : ℕ) → answer_words ≤ k → get_or b k 0 ≡ get_or a k 0
