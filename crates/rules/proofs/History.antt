-- Derived is ancestry in the record of births: each effect keeps the two alike. Assumes nothing.
use mathlib.Core.Path.{◌≡◌, refl, sym, ap, ◌∙◌, subst}
use mathlib.Core.Logic.{◌⊎◌, inl, inr, ⊎_elim, ◌↔◌}
use Prim.Native.Nat.{ℕ, suc, ◌≤◌, ◌<◌}
use native.Mathlib.Omega.{arith}
use Rattle.rules.specs.State.{Places, nothing, Holds, Source, Derived, direct, further}
use Rattle.rules.specs.Turn.{set}
use Rattle.rules.specs.History.{Ledger, Ancestor, parent, older, born, moved}
use Rattle.rules.specs.declared.Capability.{Capability}
use Rattle.rules.proofs.Laws.{set_here, set_there}
use Rattle.rules.proofs.Places.{same?}
use Rattle.rules.proofs.Derivation.{Leaf, leaf_childless, changed_leaf, changed-back, changed_on, changed_new, changed-further}

-- places and a record of births that belong together
pub record Kept (at : Places) (l : Ledger) : Type 0 where
  pub alike : (p q : ℕ) → Holds at p → Holds at q → Derived at p q ↔ Ancestor l.parent (l.name p) (l.name q)
  -- a capability stands at one place, and was born
  pub distinct : (p q : ℕ) → Holds at p → Holds at q → l.name p ≡ l.name q → p ≡ q
  pub low : (p : ℕ) → Holds at p → l.name p < l.births
  -- a parent was born before
  pub older : (n m : ℕ) → n < l.births → l.parent n ≡ suc m → m < l.births

-- the record stays, places go, and between those that remain Derived is what it was
pub kept_fewer : {at to : Places} {l : Ledger} → Kept at l → ((q : ℕ) → Holds to q → Holds at q)
    → ((p q : ℕ) → Holds to p → Holds to q → Derived to p q ↔ Derived at p q) → Kept to l
kept_fewer k still same =
    record {
      alike = λ p q h g.
          let u = same p q h g in
          let w = k.alike p q (still p h) (still q g) in
          (λ x. w.0 (u.0 x), λ x. u.1 (w.1 x));
      distinct = λ p q h g. k.distinct p q (still p h) (still q g);
      low = λ p h. k.low p (still p h);
      older = k.older;
    }

-- ---- a birth

module _ (old : ℕ → ℕ) (n v : ℕ) (before : (a b : ℕ) → a < n → old a ≡ suc b → b < n) where
  new : ℕ → ℕ
  new = set old n v

  -- among those born before, ancestry is what it was
  on : {a b : ℕ} → b < n → Ancestor old a b → Ancestor new a b
  unfolding new
  on h (parent {b} e) = parent (set_there old n v b (λ z. omega arith) ∙ e)
  on h (older {b} {c} u e) = older (on (before c b h e) u) (set_there old n v c (λ z. omega arith) ∙ e)

  back : {a b : ℕ} → b < n → Ancestor new a b → Ancestor old a b
  unfolding new
  back h (parent {b} e) = parent (sym (set_there old n v b (λ z. omega arith)) ∙ e)
  back h (older {b} {c} u e) =
      let w : old c ≡ suc b = sym (set_there old n v c (λ z. omega arith)) ∙ e in
      older (back (before c b h w) u) w

  born-before : {a b : ℕ} → b < n → Ancestor old a b → a < n
  born-before h (parent {b} e) = before b _ h e
  born-before h (older {b} {c} u e) = born-before (before c b h e) u

  -- the ancestors of the new one are its parent and the parent's
  newest : {a y : ℕ} → v ≡ suc y → y < n → Ancestor new a n → (a ≡ y) ⊎ Ancestor old a y
  unfolding new
  newest {a} {y} e h (parent f) = inl (let g : v ≡ suc a = sym (set_here old n v) ∙ f in omega arith)
  newest {a} {y} e h (older {b} u f) =
      let g : b ≡ y = let w : v ≡ suc b = sym (set_here old n v) ∙ f in omega arith in
      inr (subst (λ x. Ancestor old a x) g (back (subst (λ x. x < n) (sym g) h) u))

  newest_parent : {y : ℕ} → v ≡ suc y → Ancestor new y n
  unfolding new
  newest_parent e = parent (set_here old n v ∙ e)

  newest_older : {a y : ℕ} → v ≡ suc y → y < n → Ancestor old a y → Ancestor new a n
  unfolding new
  newest_older e h u = older (on h u) (set_here old n v ∙ e)

module _ (at : Places) (l : Ledger) (k : Kept at l) (p y : ℕ) (c : Capability) (free : (at p).kind ≡ 0) (leaf : Leaf at p)
    (made : c.source ≡ suc y) (there : Holds at y) where
  to : Places
  to = set at p c

  apart : y ≡ p → ⊥
  apart z = there (ap (λ x. (at x).kind) z ∙ free)

  away : (q : ℕ) → (q ≡ p → ⊥) → to q ≡ at q
  unfolding to
  away = set_there at p c

  source : Source to y p
  unfolding to
  source = ap (λ x. x.source) (set_here at p c) ∙ made

  self : Source to p p → ⊥
  self e = apart (let w = source in omega arith)

  still : (q : ℕ) → (q ≡ p → ⊥) → Holds to q → Holds at q
  still q n h z = h (ap (λ x. x.kind) (away q n) ∙ z)

  l' : Ledger
  l' = born p y l

  name-here : l'.name p ≡ l.births
  unfolding l' born
  name-here = set_here l.name p l.births

  name_away : (q : ℕ) → (q ≡ p → ⊥) → l'.name q ≡ l.name q
  unfolding l' born
  name_away = set_there l.name p l.births

  -- the record's two parents, and the parent of the birth
  P : ℕ → ℕ
  P = new l.parent l.births (suc (l.name y)) k.older

  young : l.name y < l.births
  young = k.low y there

  -- nobody has the new capability as an ancestor
  childless : (x : ℕ) → x ≤ l.births → Ancestor P l.births x → ⊥
  unfolding P
  childless x h u =
      ⊎_elim
      (λ z. ⊎_elim (λ e. let g = young in omega arith)
      (λ w. let g = born-before l.parent l.births (suc (l.name y)) k.older young w in omega arith)
      (newest l.parent l.births (suc (l.name y)) k.older refl young (subst (λ b. Ancestor (new l.parent l.births (suc (l.name y)) k.older) l.births b) z u)))
      (λ n. let g : x < l.births = omega arith in
      let w = born-before l.parent l.births (suc (l.name y)) k.older g (back l.parent l.births (suc (l.name y)) k.older g u) in
      omega arith)
      (same? x l.births)

  -- below p: the place's names as they are
  Alike : ℕ → ℕ → ℕ → ℕ → Type 0
  Alike a q x z = Derived to a q ↔ Ancestor P x z

  alike_away : (a q : ℕ) → (a ≡ p → ⊥) → (q ≡ p → ⊥) → Holds to a → Holds to q → Alike a q (l.name a) (l.name q)
  unfolding Alike P
  alike_away a q n m h g =
      let w = k.alike a q (still a n h) (still q m g) in
      let b = k.low q (still q m g) in (
        λ u. on l.parent l.births (suc (l.name y)) k.older b (w.0 (changed-back at to p leaf away self m u)),
        λ u. changed_on at to p leaf away self m (w.1 (back l.parent l.births (suc (l.name y)) k.older b u)),
      )

  alike_new : (a : ℕ) → (a ≡ p → ⊥) → Holds to a → Alike a p (l.name a) l.births
  unfolding Alike P
  alike_new a n h = (there_to, back_to)
    where
      held : Holds at a
      held = still a n h

      there_to : Derived to a p → Ancestor P (l.name a) l.births
      there_to u =
          ⊎_elim
          (λ e. subst (λ x. Ancestor P (l.name x) l.births) (let w = source in let z : y ≡ a = omega arith in z)
          (newest_parent l.parent l.births (suc (l.name y)) k.older refl))
          (λ w. newest_older l.parent l.births (suc (l.name y)) k.older refl young
          ((k.alike a y held there).0
          (subst (λ x. Derived at a x) (let v = source in let e = w.1 in let z : w.0 ≡ y = omega arith in z) w.2)))
          (changed_new at to p leaf away self u)

      back_to : Ancestor P (l.name a) l.births → Derived to a p
      back_to u =
          ⊎_elim (λ e. direct (subst (λ x. Source to x p) (sym (k.distinct a y held there e)) source))
          (λ w. changed-further at to p leaf away self source ((k.alike a y held there).1 w))
          (newest l.parent l.births (suc (l.name y)) k.older refl young u)

  alike_none : (q x : ℕ) → x ≤ l.births → Alike p q l.births x
  unfolding Alike
  alike_none q x h = (λ u. absurd (leaf_childless (changed_leaf at to p leaf away self) u), λ u. absurd (childless x h u))

  alike_born : (a q : ℕ) → Holds to a → Holds to q → (a ≡ p) ⊎ (a ≡ p → ⊥) → (q ≡ p) ⊎ (q ≡ p → ⊥) → Alike a q (l'.name a) (l'.name q)
  alike_born a q h g (inl z) (inl w) =
      subst (λ x. Alike x q (l'.name x) (l'.name q)) (sym z)
      (subst (λ x. Alike p q x (l'.name q)) (sym name-here)
      (alike_none q (l'.name q) (let e = ap l'.name w ∙ name-here in omega arith)))
  alike_born a q h g (inl z) (inr m) =
      subst (λ x. Alike x q (l'.name x) (l'.name q)) (sym z)
      (subst (λ x. Alike p q x (l'.name q)) (sym name-here)
      (alike_none q (l'.name q) (let e = name_away q m in let b = k.low q (still q m g) in omega arith)))
  alike_born a q h g (inr n) (inl w) =
      subst (λ x. Alike a x (l'.name a) (l'.name x)) (sym w)
      (subst (λ x. Alike a p (l'.name a) x) (sym name-here) (subst (λ x. Alike a p x l.births) (sym (name_away a n)) (alike_new a n h)))
  alike_born a q h g (inr n) (inr m) =
      subst (λ x. Alike a q (l'.name a) x) (sym (name_away q m)) (subst (λ x. Alike a q x (l.name q)) (sym (name_away a n)) (alike_away a q n m h g))

  -- the new capability's name is the birth's number, any other's is smaller
  name-born : (q : ℕ) → Holds to q → ((q ≡ p) × (l'.name q ≡ l.births)) ⊎ ((q ≡ p → ⊥) × Holds at q × (l'.name q ≡ l.name q) × (l.name q < l.births))
  name-born q h =
      ⊎_elim (λ z. inl (z, ap l'.name z ∙ name-here)) (λ n. let g = still q n h in inr (n, g, name_away q n, k.low q g)) (same? q p)

  distinct_born : (a q : ℕ) → Holds to a → Holds to q → l'.name a ≡ l'.name q → a ≡ q
  distinct_born a q h g e =
      ⊎_elim
      (λ u. ⊎_elim (λ w. u.0 ∙ sym w.0) (λ w. absurd (let x = u.1 in let y = w.2 in let z = w.3 in omega arith)) (name-born q g))
      (λ u. ⊎_elim (λ w. absurd (let x = w.1 in let y = u.2 in let z = u.3 in omega arith))
      (λ w. k.distinct a q u.1 w.1 (sym u.2 ∙ (e ∙ w.2))) (name-born q g))
      (name-born a h)

  -- a birth is recorded: a capability made from what y holds is put at p, which was free
  pub kept-born : Kept (set at p c) (born p y l)
  unfolding to l' born Alike P new
  kept-born =
      record {
        alike = λ a q h g. alike_born a q h g (same? a p) (same? q p);
        distinct = distinct_born;
        low = λ q h. ⊎_elim (λ w. let x = w.1 in omega arith) (λ w. let x = w.2 in let z = w.3 in omega arith) (name-born q h);
        older = λ n m h e.
            ⊎_elim
            (λ z. let w : suc (l.name y) ≡ suc m = sym (set_here l.parent l.births _) ∙ (ap (set l.parent l.births _) (sym z) ∙ e) in
            let g = young in omega arith)
            (λ g. let w = k.older n m (omega arith) (sym (set_there l.parent l.births _ n g) ∙ e) in omega arith)
            (same? n l.births);
      }

-- ---- a move

module _ (at : Places) (l : Ledger) (k : Kept at l) (r p : ℕ) (held : Holds at r) (leaf : Leaf at r) (free : (at p).kind ≡ 0)
    (sources : (x q : ℕ) → Source at x q → Holds at x) where
  mid : Places
  mid = set at r nothing

  end : Places
  end = set mid p (at r)

  mid_away : (q : ℕ) → (q ≡ r → ⊥) → mid q ≡ at q
  unfolding mid
  mid_away = set_there at r nothing

  mid_self : Source mid r r → ⊥
  unfolding mid
  mid_self e = let w : 0 ≡ suc r = ap (λ x. x.source) (sym (set_here at r nothing)) ∙ e in omega arith

  end_here : end p ≡ at r
  unfolding end
  end_here = set_here mid p (at r)

  end_away : (q : ℕ) → (q ≡ p → ⊥) → end q ≡ mid q
  unfolding end
  end_away = set_there mid p (at r)

  mid_leaf : Leaf mid p
  unfolding mid
  mid_leaf q e =
      ⊎_elim (λ z. absurd (let w : 0 ≡ suc p = ap (λ x. x.source) (sym (set_here at r nothing)) ∙ (ap (λ y. (mid y).source) (sym z) ∙ e) in omega arith))
      (λ n. sources p q (ap (λ x. x.source) (sym (mid_away q n)) ∙ e) free) (same? q r)

  end_self : Source end p p → ⊥
  end_self e = sources p r (ap (λ x. x.source) (sym end_here) ∙ e) free

  -- a source of what moves is not where it was
  other : {x : ℕ} → Source at x r → x ≡ r → ⊥
  other {x} e z = leaf r (subst (λ y. Source at y r) z e)

  to_end : {a q : ℕ} → (q ≡ r → ⊥) → (q ≡ p → ⊥) → Derived at a q → Derived end a q
  to_end n m u = changed_on mid end p mid_leaf end_away end_self m (changed_on at mid r leaf mid_away mid_self n u)

  from_end : {a q : ℕ} → (q ≡ r → ⊥) → (q ≡ p → ⊥) → Derived end a q → Derived at a q
  from_end n m u = changed-back at mid r leaf mid_away mid_self n (changed-back mid end p mid_leaf end_away end_self m u)

  to_new : {a : ℕ} → Derived at a r → Derived end a p
  to_new (direct e) = direct (ap (λ x. x.source) end_here ∙ e)
  to_new (further u e) =
      changed-further mid end p mid_leaf end_away end_self (ap (λ x. x.source) end_here ∙ e) (changed_on at mid r leaf mid_away mid_self (other e) u)

  from_new : {a : ℕ} → Derived end a p → Derived at a r
  from_new u =
      ⊎_elim (λ e. direct (ap (λ x. x.source) (sym end_here) ∙ e))
      (λ w. let e : Source at w.0 r = ap (λ x. x.source) (sym end_here) ∙ w.1 in
      further (changed-back at mid r leaf mid_away mid_self (other e) w.2) e)
      (changed_new mid end p mid_leaf end_away end_self u)

  -- where the capability that is now at q was before
  Was : ℕ → ℕ → Type 0
  Was q o = (Holds at o) × ((moved p r l).name q ≡ l.name o) × (((q ≡ p) × (o ≡ r)) ⊎ ((q ≡ p → ⊥) × (q ≡ r → ⊥) × (o ≡ q)))

  was : (q : ℕ) → Holds end q → (o : ℕ) × Was q o
  unfolding moved mid Was
  was q h =
      ⊎_elim (λ z. (r, (held, ap (set l.name p (l.name r)) z ∙ set_here l.name p (l.name r), inl (z, refl))))
      (λ n.
      let g : Holds mid q = λ w. h (ap (λ x. x.kind) (end_away q n) ∙ w) in
      let m : q ≡ r → ⊥ = λ z. g (ap (λ y. (set at r nothing y).kind) z ∙ ap (λ x. x.kind) (set_here at r nothing)) in
      (q, ((λ w. g (ap (λ x. x.kind) (mid_away q m) ∙ w)), set_there l.name p (l.name r) q n, inr (n, m, refl))))
      (same? q p)

  derived_was : (a b q o : ℕ) → Was a b → Was q o → Derived end a q ↔ Derived at b o
  unfolding Was
  derived_was a b q o u w = ⊎_elim (λ x. none x) (λ x. ⊎_elim (λ y. new_one x y) (λ y. old_one x y) w.2) u.2
    where
      -- nothing is derived from what has moved, as nothing was
      none : (a ≡ p) × (b ≡ r) → Derived end a q ↔ Derived at b o
      none x = (
        λ v. absurd (leaf_childless (changed_leaf mid end p mid_leaf end_away end_self) (subst (λ y. Derived end y q) x.0 v)),
        λ v. absurd (leaf_childless leaf (subst (λ y. Derived at y o) x.1 v)),
      )

      new_one : (a ≡ p → ⊥) × (a ≡ r → ⊥) × (b ≡ a) → (q ≡ p) × (o ≡ r) → Derived end a q ↔ Derived at b o
      new_one x y = (
        λ v. subst (λ z. Derived at z o) (sym x.2) (subst (λ z. Derived at a z) (sym y.1) (from_new (subst (λ z. Derived end a z) y.0 v))),
        λ v. subst (λ z. Derived end a z) (sym y.0) (to_new (subst (λ z. Derived at a z) y.1 (subst (λ z. Derived at z o) x.2 v))),
      )

      old_one : (a ≡ p → ⊥) × (a ≡ r → ⊥) × (b ≡ a) → (q ≡ p → ⊥) × (q ≡ r → ⊥) × (o ≡ q) → Derived end a q ↔ Derived at b o
      old_one x y = (
        λ v. subst (λ z. Derived at z o) (sym x.2) (subst (λ z. Derived at a z) (sym y.2) (from_end y.1 y.0 v)),
        λ v. to_end y.1 y.0 (subst (λ z. Derived at a z) y.2 (subst (λ z. Derived at z o) x.2 v)),
      )

  back_again : (a b q o : ℕ) → Was a b → Was q o → b ≡ o → a ≡ q
  unfolding Was
  back_again a b q o u w e =
      ⊎_elim
      (λ x. ⊎_elim (λ y. x.0 ∙ sym y.0) (λ y. absurd (y.1 (sym y.2 ∙ (sym e ∙ x.1)))) w.2)
      (λ x. ⊎_elim (λ y. absurd (x.1 (sym x.2 ∙ (e ∙ y.1)))) (λ y. sym x.2 ∙ (e ∙ y.2)) w.2)
      u.2

  -- a capability moves from r to p, which was free
  pub kept-moved : Kept (set (set at r nothing) p (at r)) (moved p r l)
  unfolding mid end moved Was
  kept-moved =
      record {
        alike = λ a q h g.
            let (b, u) = was a h in
            let (o, w) = was q g in
            let d = derived_was a b q o u w in
            let c = k.alike b o u.0 w.0 in (
              λ v. subst (λ z. Ancestor l.parent z ((moved p r l).name q)) (sym u.1) (subst (λ z. Ancestor l.parent (l.name b) z) (sym w.1) (c.0 (d.0 v))),
              λ v. d.1 (c.1 (subst (λ z. Ancestor l.parent (l.name b) z) w.1 (subst (λ z. Ancestor l.parent z ((moved p r l).name q)) u.1 v))),
            );
        distinct = λ a q h g e.
            let (b, u) = was a h in
            let (o, w) = was q g in
            back_again a b q o u w (k.distinct b o u.0 w.0 (sym u.1 ∙ (e ∙ w.1)));
        low = λ q h. let (o, w) = was q h in let z = k.low o w.0 in let e = w.1 in omega arith;
        older = k.older;
      }
