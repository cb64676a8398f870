-- Each source against the entry that defines it, and what refusal 26 comes to where following sources never comes back. Assumes nothing.
use mathlib.Core.Path.{◌≡◌, refl, sym, ap, ◌∙◌}
use mathlib.Core.Bool.{Bool, true, false, not, ◌&&◌, ◌||◌}
use mathlib.Core.List.{List, Memᴰ}
use Rattle.std.specs.Prelude.{Option}
use mathlib.Core.Logic.{◌⊎◌, inl, inr, ⊎_elim}
use Prim.Native.Nat.{ℕ, zero, suc, ◌-◌, ◌≤◌, ◌<◌}
use native.Mathlib.Omega.{arith}
use lib.Dec.{eqb}
use borrow.Author.Tests.{eq-eqb, ne_eqb, eqb-true, eqb-false, not-true}
use Rattle.rules.specs.Sizes.{slots, all_slots, places}
use Rattle.rules.specs.State.{slot, nothing, Holds, Source, Derived, comes_to}
use Rattle.rules.specs.Turn.{◌then◌else◌}
use Rattle.rules.specs.Image.{Entry, padded, entries_at, length_for, place_of, sourceless, source_of, capability_given, given, all, some, defines, fitting, right_source, refusal_of_form, refusal_of}
use Rattle.rules.specs.declared.Capability.{Capability}
use Rattle.rules.proofs.Laws.{both, decided_by, not_both}
use Rattle.rules.proofs.Given.{Entered, all_at, all_of, some_at, some_of, given_either, given_from, given-here, FormRight, form-right}
use Rattle.rules.proofs.Chain.{ends}
use Rattle.rules.proofs.Bootable.{held_below, accepted_exactly}
use Rattle.image.specs.Sources.{entries_of, Formed, Indexed, Linked, NoReturn, tied}

-- ---- what refusal 26 adds to the others

-- a refusal below 26
pub refused-before : (b : List ℕ) (r : ℕ) → r ≡ refusal_of_form b → (r ≡ 0 → ⊥) → r ≡ refusal_of b
unfolding refusal_of ◌then◌else◌
refused-before b zero h n = absurd (n refl)
refused-before b (suc r) h n = rw (← h)

module _ (b : List ℕ) (r : ℕ) (h : r ≡ refusal_of_form b) (z : r ≡ 0) (s : Bool) (k : s ≡ all (right_source (entries_of b)) (entries_of b)) where
  pub accepted_law : s ≡ true → 0 ≡ refusal_of b
  unfolding refusal_of ◌then◌else◌
  accepted_law t = rw (← h, z, ← k, t)

  pub refused_law : s ≡ false → ◌≡◌ {A = ℕ} 26 (refusal_of b)
  unfolding refusal_of ◌then◌else◌
  refused_law t = rw (← h, z, ← k, t)

-- bytes that are not refused below 26
pub formed_law : (b : List ℕ) (r : ℕ) → r ≡ refusal_of_form b → r ≡ 0 → Formed b
unfolding length_for entries_at padded
formed_law b r h z =
    let k : refusal_of_form b ≡ 0 = sym h ∙ z in
    let form = form-right b k in
    record { whole = record { long = form.exact }; count = form.count; refusal = k }

-- ---- tests

-- two tests of which each passes where the other does
same_test : (a b : Bool) → (a ≡ true → b ≡ true) → (b ≡ true → a ≡ true) → a ≡ b
same_test true true f g = refl
same_test true false f g = sym (f refl)
same_test false true f g = g refl
same_test false false f g = refl

-- what more a test asks where it is not passed by its first part
weaker : (s t u : Bool) → (s || (t && u)) ≡ true → (s || t) ≡ true
weaker true t u h = refl
weaker false t u h = (both t u h).0

stronger : (s t u : Bool) → (s || t) ≡ true → u ≡ true → (s || (t && u)) ≡ true
stronger true t u h k = refl
stronger false t u h k = rw (h, k)

-- ---- a source against the entry that defines it

-- the place that the source's domain and slot of an entry name
abbrev source_place : Entry → ℕ
source_place e = slot e.source_domain e.source_slot

-- an entry without a source number has no source; any other has the place that its source's domain and slot name
unsourced : (e : Entry) (t : Bool) → sourceless e ≡ t → source_of e ≡ 0 → t ≡ true
unfolding source_of
unsourced e true t h = refl
unsourced e false t h = absurd (omega (arith, rw t at h))

sourced : (e : Entry) (t : Bool) → sourceless e ≡ t → (source_of e ≡ 0 → ⊥) → (t ≡ false) × (source_of e ≡ suc (source_place e))
unfolding source_of
sourced e true t h = absurd (h (rw t))
sourced e false t h = (refl, rw t)

module _ (b : List ℕ) (f : Formed b) where
  abbrev es : List Entry
  es = entries_of b

  form : FormRight b
  form = form-right b f.refusal

  -- the place of a source that an entry defines holds its capability
  defined-held : (e : Entry) → some (defines e) es ≡ true → Holds (given es) (source_place e)
  unfolding defines capability_given
  defined-held e h =
      let (g, m, t) = some_at (defines e) es h in
      let (d, x) = both (eqb g.domain e.source_domain) _ t in
      let p : source_place e ≡ place_of g = omega (arith, eqb-true) in
      let r = form.entry g m in
      rw (p, given-here m form.rises) (λ z. omega arith)

  -- an entry defines a source whose slot is in range exactly where its place holds a capability
  defined : (e : Entry) → e.source_slot < slots → some (defines e) es ≡ not (eqb (given es (source_place e)).kind 0)
  unfolding defines
  defined e l = same_test _ _ (λ h. ap not (ne_eqb _ _ (defined-held e h))) back
    where
      back : not (eqb (given es (source_place e)).kind 0) ≡ true → some (defines e) es ≡ true
      back h =
          let (g, m, p, c) = given_from es (source_place e) (eqb-false _ _ (not-true _ h)) in
          let r = form.entry g m in
          some_of (defines e) m (rw (eq-eqb g.domain e.source_domain (omega arith), eq-eqb g.slot e.source_slot (omega arith)))

  -- no entry defines a source whose slot is out of range
  undefined : (e : Entry) → slots ≤ e.source_slot → some (defines e) es ≡ false
  unfolding defines
  undefined e l =
      ⊎_elim (λ t.
      let (g, m, u) = some_at (defines e) es t in
      let (d, x) = both (eqb g.domain e.source_domain) _ u in
      let r = form.entry g m in
      absurd (omega (arith, eqb-true)))
      (λ n. n) (decided_by (some (defines e) es))

  module _ (e : Entry) (c : Capability) (k : c ≡ capability_given e) where
    source_is : c.source ≡ source_of e
    unfolding capability_given
    source_is = ap (λ c. c.source) k

    -- without a source
    pub tied_none : c.source ≡ 0 → true ≡ tied es e
    unfolding tied
    tied_none z = rw (unsourced e _ refl (sym source_is ∙ z))

    module _ (n : c.source ≡ 0 → ⊥) where
      place_is : (sourceless e ≡ false) × (source_of e ≡ suc (source_place e))
      place_is = sourced e _ refl (λ z. n (source_is ∙ z))

      -- a source whose slot is out of range
      pub tied_beyond : slots ≤ e.source_slot → false ≡ tied es e
      unfolding tied
      tied_beyond l = rw (place_is.0, undefined e l)

      -- any other source
      pub tied-found : e.source_slot < slots → (p : Capability) → p ≡ given es (c.source - 1) → (r : Bool) → r ≡ fitting c p
          → (not (eqb p.kind 0) && r) ≡ tied es e
      unfolding tied
      tied-found l p h r t =
          let z : c.source - 1 ≡ source_place e = omega (arith, source_is, place_is.1) in
          rw (place_is.0, defined e l) (cc (rw z at h))

  -- ---- every entry

  tied-right : (e : Entry) → right_source es e ≡ true → tied es e ≡ true
  unfolding right_source tied
  tied-right e = weaker (sourceless e) _ _

  -- an entry whose source is not right
  pub untied_law : (r : Bool) → r ≡ all (tied es) es → r ≡ false → false ≡ all (right_source es) es
  untied_law r h n =
      ⊎_elim (λ t. absurd (not_both (all_of (tied es) es (λ e m. tied-right e (all_at (right_source es) m t))) (sym h ∙ n)))
      (λ u. sym u) (decided_by (all (right_source es) es))

  module _ (tie : all (tied es) es ≡ true) where
    -- a source always names a place that holds a capability
    held : (p q : ℕ) → Source (given es) p q → Holds (given es) p
    unfolding tied capability_given
    held p q s = go (given_either es q)
      where
        go : (given es q ≡ nothing) ⊎ Entered es q → Holds (given es) p
        go (inl n) = absurd (omega (arith, ap (λ c. c.source) n))
        go (inr r) =
            let (e, m, k, c) = r in
            let h : source_of e ≡ suc p = sym (ap (λ c. c.source) c) ∙ s in
            let (n, w) = sourced e _ refl (λ z. omega arith) in
            let z : source_place e ≡ p = omega arith in
            rw z at (defined-held e (both _ _ (rw n at (all_at (tied es) m tie))).0)

    -- and so a slot
    pub sources-low : (q : ℕ) → (given es q).source ≤ all_slots
    sources-low q = go _ refl
      where
        go : (x : ℕ) → (given es q).source ≡ x → x ≤ all_slots
        go zero s = omega arith
        go (suc p) s = omega (arith, form, held_below b form p (held p q s))

    -- where following sources never comes back, it ends, and every source is right
    right-ends : ((p : ℕ) → Derived (given es) p p → ⊥) → all (right_source es) es ≡ true
    unfolding right_source tied capability_given
    right-ends none = all_of (right_source es) es (λ e m. stronger (sourceless e) _ _ (all_at (tied es) m tie) (ended e m))
      where
        ended : (e : Entry) → Memᴰ e es → comes_to places (given es) 0 (source_of e) ≡ true
        ended e m =
            rw (given-here m form.rises) at (ends (given es) places held (λ q h. omega (arith, form, held_below b form q h)) none (place_of e))

    -- where it comes back, a source is not right
    pub right_law : (r : Bool) → NoReturn (given es) r → r ≡ all (right_source es) es
    right_law true h = sym (right-ends (h.none refl))
    right_law false h =
        ⊎_elim (λ t.
        absurd (((accepted_exactly b f.refusal).0 (sym (accepted_law b _ (sym f.refusal) refl _ refl t))).section4.no_return (h.back refl).1))
        (λ n. sym n) (decided_by (all (right_source es) es))

  -- what a climb goes by
  pub linked_law : (index : List (Option ℕ)) → Indexed b index → (r : Bool) → r ≡ all (tied es) es → r ≡ true → Linked b index
  linked_law index x r h t = record { formed = f; indexed = x; slots = sources-low (sym h ∙ t) }

  -- what the climbs come to
  pub ends_law : (r : Bool) → r ≡ all (tied es) es → r ≡ true → (s : Bool) → NoReturn (given es) s → s ≡ all (right_source es) es
  ends_law r h t = right_law (sym h ∙ t)
