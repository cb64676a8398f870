-- What a function that writes memory does to the state that stands there: the contract of every function here that stores.
-- Assumes nothing.
use Rattle.std.specs.Prelude.{◌≡◌, cond, List, ℕ, ◌+◌, ◌≤◌, ◌<◌, eqb, length, get_or, set as store}
use Rattle.rules.specs.State.{State}
use Rattle.rules.specs.Turn.{set, changed, with_places}
use Rattle.rules.specs.declared.Capability.{Capability}
use Rattle.rules.specs.declared.Message.{Message}
use Rattle.layout.specs.Layout.{state_of, need}

-- memory m became n: its length and the words behind the state's own are kept, and where ok holds its state s became f s
pub record Stored (ok : Type 0) (f : State → State) (m n : List ℕ) : Type 0 where
  pub long : length n ≡ length m
  pub frames : (state_of n).frames ≡ (state_of m).frames
  pub behind : (k : ℕ) → need m ≤ k → get_or n k 0 ≡ get_or m k 0
  pub exact : ok → state_of n ≡ f (state_of m)

-- every word but word i is as it was
abbrev pub Elsewhere : ℕ → List ℕ → List ℕ → Type 0
Elsewhere i m n = (k : ℕ) → (k ≡ i → ⊥) → get_or n k 0 ≡ get_or m k 0

-- place p holds c
unfoldable pub placed : ℕ → Capability → State → State
placed p c s = with_places s (set s.capability p c)

-- where the capability at place p has source number x, it gets source number y
unfoldable pub resourced : ℕ → ℕ → Capability → Capability
resourced x y c =
    record { kind = c.kind; rights = c.rights; object = c.object; badge = c.badge; source = cond (eqb c.source x) y c.source }

unfoldable pub handed : ℕ → ℕ → ℕ → State → State
handed p x y s = with_places s (set s.capability p (resourced x y (s.capability p)))

-- word w of frame f becomes v
unfoldable pub worded : ℕ → ℕ → ℕ → State → State
worded f w v s = changed s s.capability (set s.word f (set (s.word f) w v)) s.bell s.message

-- bell b's number becomes v
unfoldable pub belled : ℕ → ℕ → State → State
belled b v s = changed s s.capability s.word (set s.bell b v) s.message

-- mailbox m holds message g
unfoldable pub mailed : ℕ → Message → State → State
mailed m g s = changed s s.capability s.word s.bell (set s.message m g)

-- the position is one of the table's
abbrev pub Placed : State → Type 0
Placed s = s.position < length s.turns

-- ---- boot

-- the first n words of memory m became 0
pub record Cleared (n : ℕ) (m o : List ℕ) : Type 0 where
  pub long : length o ≡ length m
  pub zero : (k : ℕ) → k < n → get_or o k 0 ≡ 0
  pub behind : (k : ℕ) → n ≤ k → get_or o k 0 ≡ get_or m k 0

-- the head of a state: D, F and T
unfoldable pub headed : ℕ → ℕ → ℕ → List ℕ → List ℕ
headed domains frames turns m = store (store (store m 0 domains) 1 frames) 2 turns

-- turn i of the table is domain d's
unfoldable pub turning : ℕ → ℕ → List ℕ → List ℕ
turning i d m = store m (4 + i) d
