-- REVOKE's last sweep: the marked places but p are emptied, one after the other; and what the whole comes to on sound memory.
-- Assumes nothing.
use mathlib.Core.Path.{◌≡◌, refl, sym, ap, subst, fun_ext}
use mathlib.Core.Bool.{Bool, true, false, cond, not, ◌&&◌}
use mathlib.Core.List.{List}
use mathlib.Core.Logic.{⊎_elim}
use Prim.Native.Nat.{ℕ, zero, suc, ◌+◌, ◌-◌, ◌*◌, ◌≤◌, ◌<◌, min}
use native.Mathlib.Omega.{arith}
use native.Mathlib.Numerals.{add-one}
use lib.Dec.{eqb, ltb}
use lib.ListN.{get_or}
use borrow.Author.Tests.{ltb-true, ltb-false, lt-ltb, le-ltb, eqb-true, eqb-false, eq-eqb, ne_eqb}
use Rattle.rules.specs.Sizes.{places}
use Rattle.rules.specs.State.{State, nothing, Derived, direct, further, Sound}
use Rattle.rules.specs.Turn.{set, pruned, with_places}
use Rattle.rules.specs.declared.Capability.{Capability}
use Rattle.rules.proofs.Laws.{not_both}
use Rattle.rules.proofs.Places.{same?}
use Rattle.rules.proofs.Always.{pruning-gone, pruning-kept}
use Rattle.layout.specs.Layout.{state_of, visits_most}
use Rattle.layout.specs.Stored.{Stored, placed}
use Rattle.layout.proofs.Stores.{stored_then}
use Rattle.tree.specs.Tree.{pruning, prune_visits}
use Rattle.tree.specs.Marks.{Marked, Follows, Closed, chosen, to_empty, clearing, emptying}
use Rattle.tree.proofs.Kept.{below-same, stored_as, Ends, ends}

-- the visit to a place that is to be emptied
abbrev one : Bool → ℕ
one t = cond t 1 0

one_most : (t : Bool) → one t ≤ 1
one_most true = omega arith
one_most false = omega arith

module _ (marks : List ℕ) (p : ℕ) where
  -- ---- which places are emptied

  not_root : (q : ℕ) → q ≡ p → chosen marks p q ≡ false
  unfolding chosen
  not_root q e = rw (eq-eqb q p e) (neither (not (eqb (get_or marks (suc q) 0) 0)))
    where
      neither : (t : Bool) → (t && false) ≡ false
      neither true = refl
      neither false = refl

  not_free : (q : ℕ) → get_or marks (suc q) 0 ≡ 0 → chosen marks p q ≡ false
  unfolding chosen
  not_free q e = rw (eq-eqb (get_or marks (suc q) 0) 0 e)

  is_chosen : (q : ℕ) → (q ≡ p → ⊥) → (get_or marks (suc q) 0 ≡ 0 → ⊥) → chosen marks p q ≡ true
  unfolding chosen
  is_chosen q n e = rw (ne_eqb (get_or marks (suc q) 0) 0 e, ne_eqb q p n)

  -- ---- one place, and its visit

  stays : (m : List ℕ) (q : ℕ) → chosen marks p q ≡ false → Stored Unit (clearing marks p q) m m
  unfolding clearing
  stays m q e = record { long = refl; frames = refl; behind = λ k h. refl; exact = λ o. rw e }

  pub clear-root : {m : List ℕ} (q : ℕ) → q ≡ p → Stored Unit (clearing marks p q) m m
  clear-root {m} q e = stays m q (not_root q e)

  pub visits-root : (q v : ℕ) → q ≡ p → v ≡ v + cond (chosen marks p q) 1 0
  visits-root q v e = let w = ap one (not_root q e) in omega arith

  pub clear_free : {m : List ℕ} (q : ℕ) → get_or marks (q + 1) 0 ≡ 0 → Stored Unit (clearing marks p q) m m
  clear_free {m} q e = stays m q (not_free q (rw (add-one q) at e))

  pub visits_free : (q v : ℕ) → get_or marks (q + 1) 0 ≡ 0 → v ≡ v + cond (chosen marks p q) 1 0
  visits_free q v e = let w = ap one (not_free q (rw (add-one q) at e)) in omega arith

  pub clear-marked : {m n : List ℕ} (q : ℕ) → (q ≡ p → ⊥) → (get_or marks (q + 1) 0 ≡ 0 → ⊥) → q < places
      → Stored (q < places) (placed q nothing) m n → Stored Unit (clearing marks p q) m n
  unfolding clearing
  clear-marked q k e h s = stored_as (λ o. h) (λ o. rw (is_chosen q k (rw (add-one q) at e))) s

  pub visits-marked : (q v r : ℕ) → (q ≡ p → ⊥) → (get_or marks (q + 1) 0 ≡ 0 → ⊥) → r ≡ v + 1 → r ≡ v + cond (chosen marks p q) 1 0
  visits-marked q v r k e g = let w = ap one (is_chosen q k (rw (add-one q) at e)) in omega arith

  -- ---- no place yet, one place on, and after the last

  emptying-zero : (s : State) → s ≡ emptying 0 marks p s
  unfolding emptying
  emptying-zero s = ap (with_places s) (fun_ext (λ q. rw (le-ltb q 0 (omega arith))))

  emptying-suc : (n : ℕ) (s : State) → clearing marks p n (emptying n marks p s) ≡ emptying (n + 1) marks p s
  unfolding clearing emptying placed set
  emptying-suc n s = go (chosen marks p n) refl
    where
      at : ℕ → ℕ → Capability
      at i q = cond (ltb q i && chosen marks p q) nothing (s.capability q)

      away : (q : ℕ) → (q ≡ n → ⊥) → at n q ≡ at (n + 1) q
      away q k = ap (λ t. cond (t && chosen marks p q) nothing (s.capability q)) (below-same q n k)

      here : chosen marks p n ≡ true → nothing ≡ at (n + 1) n
      here e = rw (lt-ltb n (n + 1) (omega arith), e)

      kept : chosen marks p n ≡ false → at n n ≡ at (n + 1) n
      kept e = rw (lt-ltb n (n + 1) (omega arith), le-ltb n n (omega arith), e)

      go : (t : Bool) → chosen marks p n ≡ t
          → cond t (with_places s (λ q. cond (eqb q n) nothing (at n q))) (with_places s (at n)) ≡ with_places s (at (n + 1))
      go true e = ap (with_places s) (fun_ext (λ q. each q (eqb q n) refl))
        where
          each : (q : ℕ) (t : Bool) → eqb q n ≡ t → cond t nothing (at n q) ≡ at (n + 1) q
          each q true z = subst (λ k. nothing ≡ at (n + 1) k) (sym (eqb-true q n z)) (here e)
          each q false z = away q (eqb-false q n z)
      go false e =
          ap (with_places s) (fun_ext (λ q. ⊎_elim (λ z. subst (λ k. at n k ≡ at (n + 1) k) (sym z) (kept e)) (away q) (same? q n)))

  pub emptied_none : (m : List ℕ) → Stored Unit (emptying 0 marks p) m m
  emptied_none m = record { long = refl; frames = refl; behind = λ k h. refl; exact = λ o. emptying-zero (state_of m) }

  pub emptied_more : {m n o : List ℕ} (q : ℕ) → Stored Unit (emptying q marks p) m n → Stored Unit (clearing marks p q) n o
      → Stored Unit (emptying (q + 1) marks p) m o
  emptied_more {m} q a b = stored_as (λ o. (tt, tt)) (λ o. emptying-suc q (state_of m)) (stored_then a b)

  -- ---- the visits

  pub visits_none : (v : ℕ) → v ≡ v + to_empty marks p 0
  unfolding to_empty
  visits_none v = omega arith

  pub visits_more : (v n r q : ℕ) → n ≡ v + to_empty marks p q → r ≡ n + cond (chosen marks p q) 1 0 → r ≡ v + to_empty marks p (q + 1)
  unfolding to_empty
  visits_more v n r q e g = rw (add-one q) (omega arith)

  -- one for each place but p, at most
  to_empty-most : (n : ℕ) → to_empty marks p n + min 1 (n - p) ≤ n
  unfolding to_empty
  to_empty-most zero = omega arith
  to_empty-most (suc n) =
      let l = to_empty-most n in
      ⊎_elim (λ z. let e = ap one (not_root n z) in omega arith) (λ k. let e = one_most (chosen marks p n) in omega arith) (same? n p)

  pub visits-below : (v n q : ℕ) → n ≡ v + to_empty marks p q → q ≤ places → v + places < visits_most → n < visits_most
  visits-below v n q e h g = let l = to_empty-most q in omega arith

  pub visits_all : (v n r : ℕ) → r ≡ n + to_empty marks p places → n ≤ v + places * places → p < places → r ≤ v + prune_visits
  visits_all v n r e h g = let l = to_empty-most places in omega arith

-- ---- what the marks and the emptying come to

module _ (s : State) (past : Ends s) {marks : List ℕ} {p : ℕ} (c : Closed s.capability p marks) where
  -- every place is marked where its source is
  all_follow : (q : ℕ) → Follows s.capability marks q
  all_follow q g = go (ltb q places) refl
    where
      go : (t : Bool) → ltb q places ≡ t → Marked marks (suc q)
      go true e = c.follows q (ltb-true q places e) g
      go false e = absurd (let z = c.none in let w = subst (Marked marks) (past q (ltb-false q places e)) g in omega arith)

  -- so what is derived from p is marked, and is one of the places that there are
  derived-marked : {q : ℕ} → Derived s.capability p q → Marked marks (suc q)
  derived-marked (direct {q} e) = all_follow q (subst (Marked marks) (sym e) c.rooted.root)
  derived-marked (further {r = r} u e) = all_follow r (subst (Marked marks) (sym e) (derived-marked u))

  derived-place : {q : ℕ} → Derived s.capability p q → places ≤ q → ⊥
  derived-place (direct {q} e) h = let z = past q h in omega arith
  derived-place (further {r = q} u e) h = let z = past q h in omega arith

  -- what is emptied is derived from p; and what is derived from p is emptied, where p is not derived from itself
  chosen-derived : (q : ℕ) → chosen marks p q ≡ true → Derived s.capability p q
  chosen-derived q e = ⊎_elim (λ z. absurd (not_both e (not_root marks p q z))) (λ u. u) (c.rooted.derived q marked)
    where
      marked : Marked marks (suc q)
      marked =
          ⊎_elim (λ z. absurd (not_both e (not_free marks p q z))) (λ n. let l = c.most (suc q) in omega arith) (same? (get_or marks (suc q) 0) 0)

  derived-chosen : (Derived s.capability p p → ⊥) → (q : ℕ) → Derived s.capability p q → chosen marks p q ≡ true
  derived-chosen n q u =
      is_chosen marks p q (λ z. n (subst (Derived s.capability p) z u)) (λ z. let w = derived-marked u in omega arith)

  -- on sound memory exactly what is derived from p is emptied
  emptied-pruned : Sound s → emptying places marks p s ≡ pruning p s
  unfolding emptying pruning
  emptied-pruned f = ap (with_places s) (fun_ext (λ q. go q (ltb q places) (chosen marks p q) refl refl))
    where
      go : (q : ℕ) (t u : Bool) → ltb q places ≡ t → chosen marks p q ≡ u → cond (t && u) nothing (s.capability q) ≡ pruned s.capability p q
      go q true true h e = sym (pruning-gone f p q (chosen-derived q e))
      go q true false h e = sym (pruning-kept f p q (λ u. not_both (derived-chosen f.section4.no_return q u) e))
      go q false u h e = sym (pruning-kept f p q (λ w. derived-place w (ltb-false q places h)))

pub pruned_all : {m n marks : List ℕ} (p : ℕ) → Closed (state_of m).capability p marks → Stored Unit (emptying places marks p) m n
    → Stored (Sound (state_of m)) (pruning p) m n
pruned_all {m} p c s = stored_as (λ o. tt) (emptied-pruned (state_of m) (ends m) c) s
