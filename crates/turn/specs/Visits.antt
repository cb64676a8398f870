-- The visits of a turn: the limits of document 01, section 3, and how many there are exactly. Assumes nothing.
use Rattle.std.specs.Prelude.{◌≡◌, ℕ, ◌+◌, ◌-◌, ◌*◌}
use Rattle.rules.specs.Sizes.{places}
use Rattle.rules.specs.State.{State, whose}
use Rattle.rules.specs.Turn.{Name, IDLE, LOAD, STORE, DERIVE, DELETE, REVOKE, RING, HEAR, SEND, RECEIVE, LOOK, unknown, named, decide}
use Rattle.rules.specs.declared.Operation.{Operation}
use Rattle.rules.specs.declared.Effect.{Effect}
use Rattle.rules.specs.declared.Effect.TheVariants.{Nothing, Store, Ring, Hush, Put, Drop, Prune, Post, Take, Move}
use Rattle.decide.specs.Visits.{looks}
use Rattle.tree.specs.Sweeps.{PruneVisits}

-- a turn may visit at most 1,088 * 1,089 places for REVOKE, and 2,176 for every other operation
abbrev pub visits_for : Name → ℕ
visits_for IDLE = 2 * places
visits_for LOAD = 2 * places
visits_for STORE = 2 * places
visits_for DERIVE = 2 * places
visits_for DELETE = 2 * places
visits_for REVOKE = places * (places + 1)
visits_for RING = 2 * places
visits_for HEAR = 2 * places
visits_for SEND = 2 * places
visits_for RECEIVE = 2 * places
visits_for LOOK = 2 * places
visits_for unknown = 2 * places

-- how many visits an effect takes; REVOKE's, at most
abbrev pub cost : Effect → ℕ
cost Nothing = 0
cost (Store f w v) = 0
cost (Ring b v) = 0
cost (Hush b) = 0
cost (Put p c) = 1
cost (Drop p) = places + 2
cost (Prune p) = places * places + (places - 1)
cost (Post m g c) = 1
cost (Take m) = 1
cost (Move m p) = 3

-- an effect on state s took the visits from so many before it to so many: REVOKE's are those of its sweeps and of what they find
abbrev pub Visited : State → Effect → ℕ → ℕ → Type 0
Visited s Nothing before visits = visits ≡ before + cost Nothing
Visited s (Store f w v) before visits = visits ≡ before + cost (Store f w v)
Visited s (Ring b v) before visits = visits ≡ before + cost (Ring b v)
Visited s (Hush b) before visits = visits ≡ before + cost (Hush b)
Visited s (Put p c) before visits = visits ≡ before + cost (Put p c)
Visited s (Drop p) before visits = visits ≡ before + cost (Drop p)
Visited s (Prune p) before visits = PruneVisits s.capability p before visits
Visited s (Post m g c) before visits = visits ≡ before + cost (Post m g c)
Visited s (Take m) before visits = visits ≡ before + cost (Take m)
Visited s (Move m p) before visits = visits ≡ before + cost (Move m p)

-- the visits of a turn on state s are those of its checks, and then those of its effect
abbrev pub Counted : State → Operation → ℕ → Type 0
Counted s o visits = Visited s (decide s (whose s) o).effect (looks s (whose s) (named o.number) o) visits

-- how many visits may have gone before an effect
abbrev pub allowed : Effect → ℕ
allowed Nothing = 3
allowed (Store f w v) = 3
allowed (Ring b v) = 3
allowed (Hush b) = 3
allowed (Put p c) = 3
allowed (Drop p) = 3
allowed (Prune p) = 1
allowed (Post m g c) = 3
allowed (Take m) = 3
allowed (Move m p) = 3
