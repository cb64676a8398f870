-- The contract of a turn over memory. Assumes nothing.
use Rattle.std.specs.Prelude.{◌≡◌, List, ℕ, ◌+◌, ◌≤◌, ◌<◌, length, get_or}
use Rattle.rules.specs.Sizes.{places, mailboxes, bells, frame_words}
use Rattle.rules.specs.State.{State, whose, Section4, Formed}
use Rattle.rules.specs.Turn.{named, apply, next, answer, refusal}
use Rattle.rules.specs.declared.Operation.{Operation}
use Rattle.rules.specs.declared.Answer.{Answer}
use Rattle.rules.specs.declared.Effect.{Effect}
use Rattle.rules.specs.declared.Effect.TheVariants.{Nothing, Store, Ring, Hush, Put, Drop, Prune, Post, Take, Move}
use Rattle.layout.specs.Layout.{state_of, position_at, need, Enough}
use Rattle.layout.specs.Stored.{Stored, Elsewhere}
use Rattle.turn.specs.Visits.{visits_for, Visited, Counted, cost}

-- good memory: long enough, and its state is as sections 1, 2 and 4 of document 01 say
pub record Good (m : List ℕ) : Type 0 where
  pub enough : Enough m
  pub formed : Formed (state_of m)
  pub section4 : Section4 (state_of m).capability

-- the turn does what document 01 says: the next state, and the answer; and its visits are exactly those of its checks and of its effect
pub record Exact (m : List ℕ) (o : Operation) (n : List ℕ) (a : Answer) (visits : ℕ) : Type 0 where
  pub state : state_of n ≡ next (state_of m) o
  pub answered : a ≡ answer (state_of m) o
  pub good : Good n
  pub counted : Counted (state_of m) o visits

-- one turn on memory m, which becomes n, with answer a and so many visits
pub record Turned (m : List ℕ) (o : Operation) (n : List ℕ) (a : Answer) (visits : ℕ) : Type 0 where
  -- on any memory: its length and the words behind the state's own are kept, and the visits are within the limit
  pub long : length n ≡ length m
  pub behind : (k : ℕ) → need m ≤ k → get_or n k 0 ≡ get_or m k 0
  pub within : visits ≤ visits_for (named o.number)
  -- memory too short for the state that it claims to hold: 29, and nothing changed or visited
  pub short : length m < need m → (n ≡ m) × (a ≡ refusal 29) × (visits ≡ 0)
  -- a refusal leaves every word but the position's as it was
  pub refused : (a.status ≡ 0 → ⊥) → Elsewhere position_at m n
  -- good memory: what the rules say, and good memory again
  pub exact : Good m → Exact m o n a visits

-- the domain whose turn is next; memory too short for a state: 29, which is no domain
pub record Whose (m : List ℕ) (d : ℕ) : Type 0 where
  pub long : Enough m → d ≡ whose (state_of m)
  pub short : length m < need m → d ≡ 29

-- ---- effects on memory

-- the places that an effect names are places
abbrev pub Named : Effect → Type 0
Named Nothing = Unit {0}
Named (Store f w v) = Unit {0}
Named (Ring b v) = Unit {0}
Named (Hush b) = Unit {0}
Named (Put p c) = p < places
Named (Drop p) = p < places
Named (Prune p) = p < places
Named (Post m g c) = Unit {0}
Named (Take m) = Unit {0}
Named (Move m p) = p < places

-- the objects that it names are there; what is pruned is as sections 1, 2 and 4 say
abbrev pub Fitting : State → Effect → Type 0
Fitting s Nothing = Unit {0}
Fitting s (Store f w v) = (f < s.frames) × (w < frame_words)
Fitting s (Ring b v) = b < bells
Fitting s (Hush b) = b < bells
Fitting s (Put p c) = p < places
Fitting s (Drop p) = p < places
Fitting s (Prune p) = Formed s × Section4 s.capability
Fitting s (Post m g c) = m < mailboxes
Fitting s (Take m) = m < mailboxes
Fitting s (Move m p) = m < mailboxes

-- an effect that is none
abbrev pub Idle : Effect → Type 0
Idle Nothing = Unit {0}
Idle (Store f w v) = ⊥
Idle (Ring b v) = ⊥
Idle (Hush b) = ⊥
Idle (Put p c) = ⊥
Idle (Drop p) = ⊥
Idle (Prune p) = ⊥
Idle (Post m g c) = ⊥
Idle (Take m) = ⊥
Idle (Move m p) = ⊥

-- an effect performed on memory m, which becomes n, after so many visits
pub record Applied (m : List ℕ) (e : Effect) (n : List ℕ) (before visits : ℕ) : Type 0 where
  pub stored : Stored (Fitting (state_of m) e) (λ s. apply s e) m n
  pub within : visits ≤ before + cost e
  pub counted : Fitting (state_of m) e → Visited (state_of m) e before visits
  pub still : Idle e → n ≡ m
