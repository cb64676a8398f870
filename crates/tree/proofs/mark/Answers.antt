-- Answers for `tree::mark`. Assumes nothing.
use native.Mathlib.Omega.{arith}
use Prim.Native.Nat.{◌+◌}
use Rattle.std.proofs.Common.{rules, slice_set}
use Rattle.tree.specs.Tree.{places_of}
use Rattle.tree.specs.Marks.{Swept}
use Rattle.tree.proofs.Marking.{marks-most, mark-past, mark_other, mark_already, mark_new}
use Rattle.tree.proofs.Counting.{marking-past, marking_other, marking_already, marking_new}
use Rattle.tree.proofs.mark.Goals.{else-from-lt-SOURCES-via-then-from-lt-SOURCES+then-found-from-eq1+else-found-i-eq0, else-from-lt-SOURCES-via-then-from-lt-SOURCES+else-found-from-eq1, else-from-lt-SOURCES-via-else-from-lt-SOURCES}
use Rattle.tree.proofs.mark.Goals as goal

pub overflow_add-found : goal.overflow_add-found
overflow_add-found c = omega (arith, marks-most c.args.found.now.right)

pub invariant_of-found : goal.invariant_of-found
invariant_of-found c =
    let m = c.args.found.now in
    let s : Swept (places_of c.args.memory.now.words.now) c.args.to (c.args.to + 1) m.count m.marks (m.count + 1) (slice_set m.marks (c.args.to + 1) 1) = search (rules, mark_new) in
    record { right = s.marks }

pub returns-then-found-i-eq0-clause-swept : goal.returns-then-found-i-eq0-clause-swept
returns-then-found-i-eq0-clause-swept c = search (rules, mark_new)

pub returns-then-found-i-eq0-clause-marked : goal.returns-then-found-i-eq0-clause-marked
returns-then-found-i-eq0-clause-marked c = search (rules, marking_new)

pub returns-else-from-lt-SOURCES-clause-swept : goal.returns-else-from-lt-SOURCES-clause-swept
returns-else-from-lt-SOURCES-clause-swept c = elim c.else-from-lt-SOURCES.branch [
  | else-from-lt-SOURCES-via-then-from-lt-SOURCES+then-found-from-eq1+else-found-i-eq0 w ↦ search (rules, mark_already)
  | else-from-lt-SOURCES-via-then-from-lt-SOURCES+else-found-from-eq1 w ↦ search (rules, mark_other)
  | else-from-lt-SOURCES-via-else-from-lt-SOURCES w ↦ search (rules, mark-past)
]

pub returns-else-from-lt-SOURCES-clause-marked : goal.returns-else-from-lt-SOURCES-clause-marked
returns-else-from-lt-SOURCES-clause-marked c = elim c.else-from-lt-SOURCES.branch [
  | else-from-lt-SOURCES-via-then-from-lt-SOURCES+then-found-from-eq1+else-found-i-eq0 w ↦ search (rules, marking_already)
  | else-from-lt-SOURCES-via-then-from-lt-SOURCES+else-found-from-eq1 w ↦ search (rules, marking_other)
  | else-from-lt-SOURCES-via-else-from-lt-SOURCES w ↦ search (rules, marking-past)
]
