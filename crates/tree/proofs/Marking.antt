-- REVOKE's marks: how many there are, and how a visit, a sweep and all sweeps change them. Assumes nothing.
use mathlib.Core.Path.{◌≡◌, refl, sym, ap, ◌∙◌, subst}
use mathlib.Core.List.{List}
use mathlib.Core.Logic.{◌⊎◌, inl, inr, ⊎_elim}
use Prim.Native.Nat.{ℕ, zero, suc, ◌+◌, ◌≤◌, ◌<◌}
use native.Mathlib.Omega.{arith}
use native.Mathlib.Numerals.{add-one}
use lib.ListN.{length, get_or, set, length-set, replicate, length-replicate, get_or-eq_default}
use lib.Seq.{get_or-set_same, get_or-set_other}
use Rattle.rules.specs.Sizes.{places}
use Rattle.rules.specs.State.{Places, Derived, direct, further}
use Rattle.rules.proofs.Places.{same?}
use Rattle.tree.specs.Sweeps.{root_mark}
use Rattle.tree.specs.Marks.{Marked, counted, Blank, Marks, Rooted, Follows, Swept}

-- ---- how many are marked

counted-most : (marks : List ℕ) → ((x : ℕ) → get_or marks x 0 ≤ 1) → (n : ℕ) → counted marks n ≤ n
unfolding counted
counted-most marks h zero = omega arith
counted-most marks h (suc n) = let l = counted-most marks h n in let g = h (suc n) in omega arith

-- no more than there are places
pub marks-most : {n : ℕ} {marks : List ℕ} → Marks n marks → n ≤ places
marks-most {n} {marks} m = let l = counted-most marks m.most places in let e = m.count in omega arith

counted-blank : (marks : List ℕ) → ((x : ℕ) → get_or marks x 0 ≡ 0) → (n : ℕ) → counted marks n ≡ 0
unfolding counted
counted-blank marks h zero = refl
counted-blank marks h (suc n) = let l = counted-blank marks h n in let g = h (suc n) in omega arith

-- one mark more, at place q
module _ (marks : List ℕ) (q : ℕ) (h : suc q < length marks) (free : get_or marks (suc q) 0 ≡ 0) where
  counted-below : (n : ℕ) → n ≤ q → counted (set marks (suc q) 1) n ≡ counted marks n
  unfolding counted
  counted-below zero l = refl
  counted-below (suc n) l =
      let e = counted-below n (omega arith) in
      let g = get_or-set_other marks (suc q) (suc n) 1 0 (λ z. omega arith) in
      omega arith

  counted-set : (n : ℕ) → q < n → counted (set marks (suc q) 1) n ≡ suc (counted marks n)
  unfolding counted
  counted-set zero l = absurd (omega arith)
  counted-set (suc n) l =
      ⊎_elim
      (λ z. subst (λ k. counted (set marks (suc q) 1) (suc k) ≡ suc (counted marks (suc k))) (sym z)
      (let e = counted-below q (omega arith) in let g = get_or-set_same marks (suc q) 1 0 h in omega arith))
      (λ k.
      let e = counted-set n (omega arith) in
      let g = get_or-set_other marks (suc q) (suc n) 1 0 (λ z. k (omega arith)) in
      omega arith)
      (same? n q)

  -- what is marked then was, or is q
  was_marked : (x : ℕ) → Marked (set marks (suc q) 1) x → (x ≡ suc q) ⊎ Marked marks x
  was_marked x e = ⊎_elim (λ z. inl z) (λ n. inr (sym (get_or-set_other marks (suc q) x 1 0 n) ∙ e)) (same? x (suc q))

  stays-marked : (x : ℕ) → Marked marks x → Marked (set marks (suc q) 1) x
  stays-marked x e =
      ⊎_elim (λ z. subst (Marked (set marks (suc q) 1)) (sym z) (get_or-set_same marks (suc q) 1 0 h))
      (λ n. get_or-set_other marks (suc q) x 1 0 n ∙ e) (same? x (suc q))

  marks-set : {n : ℕ} → q < places → Marks n marks → Marks (suc n) (set marks (suc q) 1)
  marks-set {n} l m =
      record {
        long = length-set marks (suc q) 1 ∙ m.long;
        none = get_or-set_other marks (suc q) 0 1 0 (λ z. omega arith) ∙ m.none;
        most = λ x. ⊎_elim
            (λ z. subst (λ k. get_or (set marks (suc q) 1) k 0 ≤ 1) (sym z) (let g = get_or-set_same marks (suc q) 1 0 h in omega arith))
            (λ k. let g = get_or-set_other marks (suc q) x 1 0 k in let e = m.most x in omega arith) (same? x (suc q));
        count = let e = m.count in let g = counted-set places l in omega arith;
      }

-- ---- one visit

module _ (at : Places) where
  -- a place that is marked where its source is
  still : {n : ℕ} {marks : List ℕ} (q : ℕ) → Marks n marks → Follows at marks q → Swept at q (q + 1) n marks n marks
  still {marks = marks} q m f =
      record {
        marks = m;
        more = omega arith;
        same = λ e. refl;
        rooted = λ p r. r;
        follows = λ e x g h. subst (Follows at marks) (let z : q ≡ x = omega arith in z) f;
      }

  -- its source is no place, is not marked, or it is marked itself
  pub mark-past : {n : ℕ} {marks : List ℕ} (q x : ℕ) → x ≡ (at q).source → Marks n marks → places < x → Swept at q (q + 1) n marks n marks
  mark-past {marks = marks} q x e m h =
      still q m (λ g. absurd (let l = m.long in let z = get_or-eq_default marks 0 {n = (at q).source} (omega arith) in omega arith))

  pub mark_other : {n : ℕ} {marks : List ℕ} (q x : ℕ) → x ≡ (at q).source → Marks n marks → (get_or marks x 0 ≡ 1 → ⊥)
      → Swept at q (q + 1) n marks n marks
  mark_other {marks = marks} q x e m h = still q m (λ g. absurd (h (ap (λ k. get_or marks k 0) e ∙ g)))

  pub mark_already : {n : ℕ} {marks : List ℕ} (q : ℕ) → Marks n marks → (get_or marks (q + 1) 0 ≡ 0 → ⊥) → Swept at q (q + 1) n marks n marks
  mark_already {marks = marks} q m h =
      still q m (λ g. let l = m.most (suc q) in let k = rw (add-one q) at h in omega arith)

  -- a place whose source x is marked is derived where x is
  reaches : {marks : List ℕ} (p q x : ℕ) → (at q).source ≡ x → get_or marks 0 0 ≡ 0 → Rooted at p marks → Marked marks x → Derived at p q
  reaches p q zero e z r g = absurd (omega arith)
  reaches p q (suc k) e z r g = ⊎_elim (λ w. direct (e ∙ ap suc w)) (λ u. further u e) (r.derived k g)

  -- a new mark
  new : {n : ℕ} {marks : List ℕ} (q : ℕ) → q < places → Marks n marks → Marked marks (at q).source → get_or marks (suc q) 0 ≡ 0
      → Swept at q (q + 1) n marks (n + 1) (set marks (suc q) 1)
  new {n} {marks} q h m g free =
      record {
        marks = subst (λ k. Marks k (set marks (suc q) 1)) (sym (add-one n)) (marks-set marks q long free h m);
        more = omega arith;
        same = λ e. absurd (omega arith);
        rooted = λ p r. record {
          root = stays-marked marks q long free (suc p) r.root;
          derived = λ x e. ⊎_elim (λ z. inr (subst (Derived at p) (let w : q ≡ x = omega arith in w) (reaches p q _ refl m.none r g)))
              (λ w. r.derived x w) (was_marked marks q long free (suc x) e);
        };
        follows = λ e. absurd (omega arith);
      }
    where
      long : suc q < length marks
      long = let l = m.long in omega arith

  pub mark_new : {n : ℕ} {marks : List ℕ} (q x : ℕ) → x ≡ (at q).source → q < places → Marks n marks → get_or marks x 0 ≡ 1
      → get_or marks (q + 1) 0 ≡ 0 → Swept at q (q + 1) n marks (n + 1) (set marks (q + 1) 1)
  mark_new {n} {marks} q x e h m g free =
      subst (λ k. Swept at q (q + 1) n marks (n + 1) (set marks k 1)) (sym (add-one q))
      (new q h m (sym (ap (λ k. get_or marks k 0) e) ∙ g) (rw (add-one q) at free))

  -- ---- a sweep: no place yet, one place on, and after the last

  pub swept_none : {n : ℕ} {marks : List ℕ} → Marks n marks → Swept at 0 0 n marks n marks
  swept_none m = record { marks = m; more = omega arith; same = λ e. refl; rooted = λ p r. r; follows = λ e q g h. absurd (omega arith) }

  pub swept_more : {n m o : ℕ} {before now after : List ℕ} (q : ℕ) → Swept at 0 q n before m now → Swept at q (q + 1) m now o after
      → Swept at 0 (q + 1) n before o after
  swept_more {n} {m} {o} {before} {now} {after} q a b =
      record {
        marks = b.marks;
        more = let g = a.more in let h = b.more in omega arith;
        same = λ e. b.same (nothing_then e) ∙ a.same (nothing_first e);
        rooted = λ p r. b.rooted p (a.rooted p r);
        follows = λ e x g h. ⊎_elim
            (λ z. b.follows (nothing_then e) x (omega arith) h)
            (λ z. subst (λ l. Follows at l x) (sym (b.same (nothing_then e))) (a.follows (nothing_first e) x g (omega arith))) (same? x q);
      }
    where
      nothing_first : o ≡ n → m ≡ n
      nothing_first e = let g = a.more in let h = b.more in omega arith

      nothing_then : o ≡ n → o ≡ m
      nothing_then e = let g = a.more in let h = b.more in omega arith

-- ---- all sweeps from place p

-- no mark yet
pub blank : Blank (replicate (suc places) 0)
blank = record { long = length-replicate {A = ℕ} (suc places) 0; none = λ x. each (suc places) x }
  where
    each : (n x : ℕ) → ◌≡◌ {A = ℕ} (get_or (replicate n 0) x 0) 0
    each zero x = refl
    each (suc n) zero = refl
    each (suc n) (suc x) = each n x

-- place p is marked, and nothing else
pub root_marks : (p : ℕ) → p < places → Marks 1 (root_mark p)
unfolding root_mark
root_marks p h =
    subst (λ k. Marks 1 (set (replicate (suc places) 0) k 1)) (sym (add-one p))
    (marks-set (replicate (suc places) 0) p (let l = blank.long in omega arith) (blank.none (suc p)) h
    (record {
      long = blank.long;
      none = blank.none 0;
      most = λ x. let g = blank.none x in omega arith;
      count = sym (counted-blank (replicate (suc places) 0) blank.none places);
    }))

-- n marks, and before the last sweep there were b; where that made none, each place is marked where its source is
pub record Sweeping (at : Places) (p b n : ℕ) (now : List ℕ) : Type 0 where
  pub marks : Marks n now
  pub more : b ≤ n
  pub least : 1 ≤ n
  pub most : n ≤ places
  pub rooted : Rooted at p now
  pub follows : n ≡ b → (q : ℕ) → q < places → Follows at now q

module _ (at : Places) where
  -- p is marked; a sweep more; and after one that made no mark
  pub sweeping_begun : (p : ℕ) → p < places → Sweeping at p 0 1 (root_mark p)
  unfolding root_mark
  sweeping_begun p h =
      record {
        marks = root_marks p h;
        more = omega arith;
        least = omega arith;
        most = omega arith;
        rooted = subst (λ k. Rooted at p (set start k 1)) (sym (add-one p)) (record {
          root = get_or-set_same start (suc p) 1 0 long;
          derived = λ q e. ⊎_elim (λ z. inl (omega arith)) (λ z. absurd (let g = blank.none (suc q) in omega arith))
              (was_marked start p long (blank.none (suc p)) (suc q) e);
        });
        follows = λ e. absurd (omega arith);
      }
    where
      start : List ℕ
      start = replicate (suc places) 0

      long : suc p < length start
      long = let l = blank.long in omega arith

  pub sweeping_more : {p b n m : ℕ} {before after : List ℕ} → Sweeping at p b n before → Swept at 0 places n before m after → Sweeping at p n m after
  sweeping_more {p} s t =
      record {
        marks = t.marks;
        more = t.more;
        least = let g = s.least in let h = t.more in omega arith;
        most = marks-most t.marks;
        rooted = t.rooted p s.rooted;
        follows = λ e q h. t.follows e q (omega arith) h;
      }
