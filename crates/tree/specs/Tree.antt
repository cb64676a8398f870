-- What the sweeps over the places do to a state: DELETE's and REVOKE's effects, how far DELETE's sweep has come, and the visits.
-- Assumes nothing.
use Rattle.std.specs.Prelude.{cond, List, ℕ, ◌+◌, ◌-◌, ◌*◌, ltb}
use Rattle.rules.specs.Sizes.{places}
use Rattle.rules.specs.State.{State, Places}
use Rattle.rules.specs.Turn.{dropped, pruned, with_places}
use Rattle.layout.specs.Layout.{state_of}
use Rattle.layout.specs.Stored.{resourced}

-- what the places hold in memory
abbrev pub places_of : List ℕ → Places
places_of m = (state_of m).capability

-- DELETE of place p: whatever has p as its source gets p's source instead; then p is empty
unfoldable pub dropping : ℕ → State → State
dropping p s = with_places s (dropped s.capability p)

-- REVOKE of place p: every place derived from p is empty
unfoldable pub pruning : ℕ → State → State
pruning p s = with_places s (pruned s.capability p)

-- each place below n that has source number x gets source number y
unfoldable pub handing : ℕ → ℕ → ℕ → State → State
handing n x y s = with_places s (λ q. cond (ltb q n) (resourced x y (s.capability q)) (s.capability q))

-- the visits of DELETE's effect: p's source is read, each place is visited once, and p is emptied
abbrev pub drop_visits : ℕ
drop_visits = places + 2

-- the visits of REVOKE's effect, at most: no more sweeps than places, and each place but p may be emptied
abbrev pub prune_visits : ℕ
prune_visits = places * places + (places - 1)
