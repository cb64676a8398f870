-- Document 03, section 3: programs, runs and the promise (the third demand). The statements; proofs/ has a proof of each under the same
-- name in small letters. Assumes nothing.
use Rattle.std.specs.Prelude.{◌≡◌, Bool, true, List, [], ◌∷◌, ℕ, zero, suc, ◌%◌, length, get_or}
use Rattle.rules.specs.State.{State, whose}
use Rattle.rules.specs.Turn.{set, answer, next}
use Rattle.rules.specs.Image.{Bytes, Image, image_of, boot, refusal_of}
use Rattle.rules.specs.Flow.{Closed}
use Rattle.rules.specs.declared.Operation.{Operation}
use Rattle.rules.specs.declared.Answer.{Answer}

-- a program chooses the next operation from the answers that its domain has had so far, the newest first, and from nothing else;
-- programs give each domain one
abbrev pub Program : Type 0
Program = List Answer → Operation

abbrev pub Programs : Type 0
Programs = ℕ → Program

-- a run as far as it has come: the state, and the answers that each domain has had
pub record Run : Type 0 where
  pub state : State
  pub past : ℕ → List Answer

-- what the domain whose turn it is chooses
unfoldable pub chosen : Programs → Run → Operation
chosen P r = P (whose r.state) (r.past (whose r.state))

-- one turn of a run
unfoldable pub stepped : Programs → Run → Run
stepped P r =
    let d = whose r.state in
    record { state = next r.state (chosen P r); past = set r.past d (answer r.state (chosen P r) ∷ r.past d) }

-- a boot image and programs fix the whole run: after n turns
unfoldable pub run : Image → Programs → ℕ → Run
run i P zero = record { state = boot i; past = λ d. [] }
run i P (suc n) = stepped P (run i P n)

-- two choices of programs agree on the domains in L
abbrev pub Agree : (ℕ → Bool) → Programs → Programs → Type 0
Agree L P Q = (d : ℕ) → L d ≡ true → P d ≡ Q d

-- the promise: for every accepted image, every closed set L and any two choices of programs that agree on L, each domain in L gets
-- the same answers, statuses and all words, for as long as one cares to look
abbrev pub Promise : Type 0
Promise = (b : List ℕ) → Bytes b → refusal_of b ≡ 0 → (L : ℕ → Bool) → Closed (image_of b) L → (P Q : Programs) → Agree L P Q
    → (n d : ℕ) → L d ≡ true → (run (image_of b) P n).past d ≡ (run (image_of b) Q n).past d

-- whose turn it is depends on the table alone
abbrev pub TurnsByTable : Type 0
TurnsByTable = (b : List ℕ) → Bytes b → refusal_of b ≡ 0 → (P : Programs) (n : ℕ)
    → whose (run (image_of b) P n).state ≡ get_or (image_of b).turns (n % length (image_of b).turns) 0
