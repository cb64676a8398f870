-- The three demands, said of the kernel's code: of every sequence of calls of mk_boot, mk_turn, mk_whose and mk_flow that their contracts
-- allow (Booted, TurnCalled, Whose, Flows), with any bytes, any words and any lent memory. That each entry is proved without a `requires`
-- says by itself that no words make it fail and that it ends. proofs/Demands.antt has the proofs. Assumes nothing.
use Rattle.std.specs.Prelude.{◌≡◌, Bool, true, List, [], ◌∷◌, ◌↔◌, ℕ, zero, suc, ◌+◌, ◌*◌, ◌%◌, ◌≤◌, ◌<◌, leb, length, get_or}
use Rattle.rules.specs.State.{slot, whose, Holds, Derived, Fits, Section4, Formed}
use Rattle.rules.specs.Turn.{◌then◌else◌, set, refusal, DELETE, REVOKE, named, advance, next, answer}
use Rattle.rules.specs.Image.{Bytes, size_d, size_f, image_of, boot, refusal_of}
use Rattle.rules.specs.Flow.{Closed}
use Rattle.rules.specs.Authority.{Revoked, Deleted, Confined}
use Rattle.rules.specs.History.{Ledger, Ancestor, opened, recorded}
use Rattle.rules.specs.Partition.{Programs, Agree}
use Rattle.rules.specs.declared.Operation.{Operation}
use Rattle.rules.specs.declared.Answer.{Answer}
use Rattle.layout.specs.Layout.{state_of, position_at, need, words_for}
use Rattle.layout.specs.Stored.{Elsewhere}
use Rattle.turn.specs.Visits.{visits_for}
use Rattle.turn.specs.Turned.{Turned, Whose}
use Rattle.boot.specs.Booted.{Booted}
use Rattle.flow.specs.Answer.{Flows}
use Rattle.meterkernel.specs.Entries.{operation_words, answer_words, operation_in, answer_in, TooShort, TurnCalled}

-- ---- what firmware does

-- one turn: mk_turn is called on memory m with operation o and room for an answer; the memory becomes n and the answer is x
pub record Turn (m : List ℕ) (o : Operation) (n : List ℕ) (x : Answer) : Type 0 where
  pub op : List ℕ
  pub before : List ℕ
  pub after : List ℕ
  pub result : ℕ
  pub called : TurnCalled m op before n after result
  pub words : operation_words ≤ length op
  pub room : answer_words ≤ length before
  pub asked : operation_in op ≡ o
  pub told : answer_in result after ≡ x

-- every memory that comes about: bytes b are booted into some memory, then any turns; with the record of all births on the way
pub data History (b : List ℕ) : List ℕ → Ledger → Type 0 where
  booted : {m n : List ℕ} → Bytes b → Booted b m 0 n → History b n (opened (state_of n))
  turned : {m n : List ℕ} {l : Ledger} {o : Operation} {x : Answer} → History b m l → Turn m o n x → History b n (recorded (state_of m) o l)

-- ---- 1. Safe and total

-- what the reader answers to bytes b and l words of memory: the image's first refusal, or 29 where they are too few, or 0
unfoldable pub boot_answer : List ℕ → ℕ → ℕ
boot_answer b l = refusal_of b then leb (words_for (size_f b)) l else 29

-- No words make a turn touch what isn't its own or visit more than it may, on any memory; a refusal changes nothing but whose turn is
-- next; any bytes are accepted, or refused with their number, and then nothing has changed.
pub record SafeAndTotal : Type 0 where
  pub kept : (m op a n b : List ℕ) (r : ℕ) → TurnCalled m op a n b r
      → (length n ≡ length m) × ((k : ℕ) → need m ≤ k → get_or n k 0 ≡ get_or m k 0)
  pub visits : (m op a n b : List ℕ) (r : ℕ) → TurnCalled m op a n b r → (TooShort m op a → ⊥)
      → (visits : ℕ) × Turned m (operation_in op) n (answer_in r b) visits × (visits ≤ visits_for (named (operation_in op).number))
  pub short : (m op a n b : List ℕ) (r : ℕ) → TurnCalled m op a n b r → TooShort m op a → (r ≡ 29) × (n ≡ m) × (b ≡ a)
  pub refused_anywhere : (m op a n b : List ℕ) (r : ℕ) → TurnCalled m op a n b r → (r ≡ 0 → ⊥) → Elsewhere position_at m n
  pub refused : (b m n : List ℕ) (l : Ledger) (o : Operation) (x : Answer) → History b m l → Turn m o n x → (x.status ≡ 0 → ⊥)
      → (state_of n ≡ advance (state_of m)) × (x ≡ refusal x.status)
  pub any_bytes : (b m n : List ℕ) (r : ℕ) → Booted b m r n → (r ≡ boot_answer b (length m)) × ((r ≡ 0 → ⊥) → n ≡ m)

-- ---- 2. Authority stays where it was put

-- A booted memory holds exactly what the image says and each turn does exactly what document 01 says; sections 1, 2 and 4 hold throughout;
-- nobody holds more than the image's grant paths allow; a derived capability is never more than its source; a revoke removes all that was
-- derived, under way included and whatever was deleted in between, and nothing else; a delete leaves what remains derived as it was.
pub record AuthorityStays : Type 0 where
  pub begins : (b m n : List ℕ) → Bytes b → Booted b m 0 n → state_of n ≡ boot (image_of b)
  pub exact : (b m n : List ℕ) (l : Ledger) (o : Operation) (x : Answer) → History b m l → Turn m o n x
      → (state_of n ≡ next (state_of m) o) × (x ≡ answer (state_of m) o)
  pub formed : (b m : List ℕ) (l : Ledger) → History b m l → Formed (state_of m)
  pub section4 : (b m : List ℕ) (l : Ledger) → History b m l → Section4 (state_of m).capability
  pub confined : (b m : List ℕ) (l : Ledger) → History b m l → Confined (image_of b) (state_of m)
  pub never_more : (b m : List ℕ) (l : Ledger) → History b m l → (p q : ℕ) → Derived (state_of m).capability p q
      → Fits ((state_of m).capability q) ((state_of m).capability p)
  pub revoked : (b m n : List ℕ) (l : Ledger) (o : Operation) (x : Answer) → History b m l → Turn m o n x → named o.number ≡ REVOKE
      → x.status ≡ 0 → Revoked (state_of m) (state_of n) (slot (whose (state_of m)) o.first)
  pub revoked_by_birth : (b m n : List ℕ) (l : Ledger) (o : Operation) (x : Answer) → History b m l → Turn m o n x → named o.number ≡ REVOKE
      → x.status ≡ 0 → (q : ℕ) → Holds (state_of m).capability q
      → (((state_of n).capability q).kind ≡ 0) ↔ Ancestor l.parent (l.name (slot (whose (state_of m)) o.first)) (l.name q)
  pub deleted : (b m n : List ℕ) (l : Ledger) (o : Operation) (x : Answer) → History b m l → Turn m o n x → named o.number ≡ DELETE
      → x.status ≡ 0 → Deleted (state_of m) (state_of n) (slot (whose (state_of m)) o.first)
  pub reused : (b m n : List ℕ) (l : Ledger) (o : Operation) (x : Answer) → History b m l → Turn m o n x → (p q : ℕ)
      → ((state_of m).capability p).kind ≡ 0 → Derived (state_of n).capability p q → ⊥

-- ---- 3. Partitions don't hear each other

-- the answers that each domain has had before turn n, newest first, where turn k was who k's and its answer x k
unfoldable pub heard : (ℕ → ℕ) → (ℕ → Answer) → ℕ → ℕ → List Answer
heard who x zero = λ d. []
heard who x (suc n) = set (heard who x n) (who n) (x n ∷ heard who x n (who n))

-- a run of N turns: bytes b booted into some memory; before turn n the memory is m n and mk_whose says whose turn it is; the program of
-- that domain chooses the operation from the answers that it has had
pub record Runs (N : ℕ) (b : List ℕ) (P : Programs) (m : ℕ → List ℕ) (who : ℕ → ℕ) (x : ℕ → Answer) : Type 0 where
  pub lent : List ℕ
  pub booted : Booted b lent 0 (m 0)
  pub asked : (n : ℕ) → n < N → Whose (m n) (who n)
  pub turns : (n : ℕ) → n < N → Turn (m n) (P (who n) (heard who x n (who n))) (m (suc n)) (x n)

-- nothing flows into L by a matrix of D * D bytes
abbrev pub NothingInto : (ℕ → Bool) → ℕ → List ℕ → Type 0
NothingInto L D matrix = (a c : ℕ) → a < D → c < D → get_or matrix (a * D + c) 0 ≡ 1 → L c ≡ true → L a ≡ true

-- For a group into which nothing flows, whatever others do, every answer is the same, statuses and all words; whose turn it is depends on
-- the table alone; and mk_flow computes the flow relation exactly: its matrix says nothing flows into a group just where that is so.
pub record PartitionsDontHear : Type 0 where
  pub answers : (b : List ℕ) → Bytes b → (L : ℕ → Bool) → Closed (image_of b) L → (P Q : Programs) → Agree L P Q → (N : ℕ)
      (m m' : ℕ → List ℕ) (who who' : ℕ → ℕ) (x x' : ℕ → Answer) → Runs N b P m who x → Runs N b Q m' who' x'
      → (n d : ℕ) → n ≤ N → L d ≡ true → heard who x n d ≡ heard who' x' n d
  pub table : (b : List ℕ) → Bytes b → (P : Programs) (N : ℕ) (m : ℕ → List ℕ) (who : ℕ → ℕ) (x : ℕ → Answer) → Runs N b P m who x
      → (n : ℕ) → n < N → who n ≡ get_or (image_of b).turns (n % length (image_of b).turns) 0
  pub computed : (b out matrix : List ℕ) → Flows b out 0 matrix → (L : ℕ → Bool)
      → Closed (image_of b) L ↔ NothingInto L (size_d b) matrix
