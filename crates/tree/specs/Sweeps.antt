-- Which sweeps REVOKE makes over the places, and how many visits they are: a sweep is a function of the marks, so that their number is
-- determined. Assumes nothing.
use Rattle.std.specs.Prelude.{◌≡◌, cond, List, ℕ, zero, suc, ◌+◌, ◌*◌, ◌<◌, eqb, get_or, set, replicate}
use Rattle.rules.specs.Sizes.{places}
use Rattle.rules.specs.State.{Places}
use Rattle.tree.specs.Marks.{to_empty}

-- a visit to place q: it is marked where its source is
unfoldable pub marking : Places → ℕ → List ℕ → List ℕ
marking at q marks = cond (eqb (get_or marks (at q).source 0) 1) (set marks (suc q) 1) marks

-- the places below n visited in order; and k sweeps over all places
unfoldable pub marks_to : Places → ℕ → List ℕ → List ℕ
marks_to at zero marks = marks
marks_to at (suc q) marks = marking at q (marks_to at q marks)

unfoldable pub marks_after : Places → ℕ → List ℕ → List ℕ
marks_after at zero marks = marks
marks_after at (suc k) marks = marks_to at places (marks_after at k marks)

-- each of the first k sweeps makes a mark, and the next makes none: no other number is so
pub record Sweeps (at : Places) (start : List ℕ) (k : ℕ) : Type 0 where
  pub more : (j : ℕ) → j < k → marks_after at (suc j) start ≡ marks_after at j start → ⊥
  pub last : marks_after at (suc k) start ≡ marks_after at k start

-- sweeps from those marks up to the first that made none, each with a visit to every place
pub record Searched (at : Places) (start marks : List ℕ) (before visits : ℕ) : Type 0 where
  pub sweeps : ℕ
  pub each : Sweeps at start sweeps
  pub found : marks ≡ marks_after at sweeps start
  pub visited : visits ≡ before + places * (sweeps + 1)

-- place p is marked, and nothing else
unfoldable pub root_mark : ℕ → List ℕ
root_mark p = set (replicate (suc places) 0) (p + 1) 1

-- the visits of REVOKE's effect on place p, after so many before: those of the sweeps, and one to each place that is emptied
pub record PruneVisits (at : Places) (p before visits : ℕ) : Type 0 where
  pub sweeps : ℕ
  pub each : Sweeps at (root_mark p) sweeps
  pub visited : visits ≡ before + (places * (sweeps + 1) + to_empty (marks_after at sweeps (root_mark p)) p places)
