-- Refusal 26: an image is accepted exactly where section 4 holds of what its entries give, and what boots is as sections 1, 2 and 4 say.
-- Assumes nothing.
use mathlib.Core.Path.{◌≡◌, refl, sym, ap, ◌∙◌}
use mathlib.Core.Bool.{Bool, true, false, cond, ◌||◌}
use mathlib.Core.List.Memᴰ
use mathlib.Core.List.{List, [], ◌∷◌, Memᴰ}
use mathlib.Core.Logic.{◌⊎◌, inl, inr, ⊎_elim}
use Prim.Native.Nat.{ℕ, zero, suc, ◌+◌, ◌≤◌, ◌<◌}
use native.Mathlib.Omega.{arith}
use lib.Dec.{eqb}
use lib.ListN.{length, get_or, length-take, length-drop}
use borrow.Author.Tests.{eqb-true, eqb-false, eq-eqb, ne_eqb}
use Rattle.rules.specs.Sizes.{all_slots, places, badge_most}
use Rattle.rules.specs.State.{Places, slot, room, Holds, Source, nothing, comes_to, Fits, Section4, WellFormed, Formed}
use Rattle.rules.specs.Turn.{◌then◌else◌}
use Rattle.rules.specs.Image.{Entry, entry_bytes, size_d, size_t, size_f, padded, entries_at, length_for, table_of, entry_at, entries_from, image_of, place_of, sourceless, source_of, capability_given, given, boot, all, some, defines, fitting, right_source, refusal_of_form, refusal_of}
use Rattle.rules.specs.Authority.{Bootable, AcceptedExactly, RefusedExactly}
use Rattle.rules.specs.declared.Capability.{Capability}
use Rattle.rules.proofs.Laws.{both, passes}
use Rattle.rules.proofs.Given.{Entered, all_at, all_of, some_at, given_either, given_from, given_nothing, given-here, FormRight, form-right}
use Rattle.rules.proofs.Chain.{return_source, comes_no_return, ends}

or_else : (a b : Bool) → (a ≡ false → b ≡ true) → (a || b) ≡ true
or_else true b h = refl
or_else false b h = h refl

-- ---- a capability against its source

-- where the test passes, the document's relation holds
pub fitting-fits : (c p : Capability) → fitting c p ≡ true → Fits c p
unfolding fitting
fitting-fits c p h =
    let (h3, badge) = both _ _ h in
    let (h2, rights) = both _ _ h3 in
    let (kind, object) = both _ _ h2 in
    record {
      kind = eqb-true _ _ kind;
      object = eqb-true _ _ object;
      rights = rights;
      badge = λ n. eqb-true _ _ (rw (ne_eqb p.badge 0 n) at badge);
    }

-- where the document's relation holds, the test passes
pub fits-fitting : (c p : Capability) → Fits c p → fitting c p ≡ true
unfolding fitting
fits-fitting c p f =
    rw (eq-eqb _ _ f.kind, eq-eqb _ _ f.object, f.rights) (or_else _ _ (λ n. eq-eqb _ _ (f.badge (eqb-false _ _ n))))

-- ---- refusal 26

-- the place that the source's domain and slot of an entry name
abbrev source_place : Entry → ℕ
source_place e = slot e.source_domain e.source_slot

-- an entry that is not sourceless has that place as its source
source-of : (e : Entry) → sourceless e ≡ false → source_of e ≡ suc (source_place e)
unfolding source_of
source-of e n = rw n

-- the entry that defines a source is the one for that place
defines-place : (e f : Entry) → defines e f ≡ true → source_place e ≡ place_of f
unfolding defines
defines-place e f t =
    let (d, x) = both (eqb f.domain e.source_domain) (eqb f.slot e.source_slot) t in
    omega (arith, eqb-true)

-- an entry with a source p: the source's domain and slot name p
sourced : (e : Entry) (p : ℕ) (t : Bool) → sourceless e ≡ t → source_of e ≡ suc p → (sourceless e ≡ false) × (source_place e ≡ p)
unfolding source_of
sourced e p true t h = absurd (omega (arith, rw t at h))
sourced e p false n h = (n, omega (arith, rw n at h))

-- what is right about an entry with a source
record SourceRight (es : List Entry) (e : Entry) : Type 0 where
  defined : some (defines e) es ≡ true
  fits : Fits (capability_given e) (given es (source_place e))
  ended : comes_to places (given es) 0 (source_of e) ≡ true

-- the parts of refusal 26 for one entry
source-right : (es : List Entry) (e : Entry) → right_source es e ≡ true → sourceless e ≡ false → SourceRight es e
unfolding right_source
source-right es e h n =
    let (l, ended) = both _ _ (rw n at h) in
    let (defined, fits) = both _ _ l in
    record { defined = defined; fits = fitting-fits _ _ fits; ended = ended }

-- what they make up
right-source : (es : List Entry) (e : Entry) → (sourceless e ≡ false → SourceRight es e) → right_source es e ≡ true
unfolding right_source
right-source es e h = or_else _ _ (λ n. let r = h n in rw (r.defined, fits-fitting _ _ r.fits, r.ended))

-- a capability with a source p stands for an entry that names p
source-entry : (es : List Entry) (p q : ℕ) → (given es q ≡ nothing) ⊎ Entered es q → Source (given es) p q
    → (e : Entry) × Memᴰ e es × (given es q ≡ capability_given e) × (sourceless e ≡ false) × (source_place e ≡ p)
unfolding capability_given
source-entry es p q (inl n) s = absurd (omega (arith, ap (λ c. c.source) n))
source-entry es p q (inr r) s =
    let (e, m, k, c) = r in
    let (n, l) = sourced e p _ refl (sym (ap (λ c. c.source) c) ∙ s) in
    (e, m, c, n, l)

-- the places as an image's entries give them
abbrev pub at_boot : List ℕ → Places
at_boot b = given (image_of b).entries

-- the test of refusal 26
abbrev right_sources : List ℕ → Bool
right_sources b = all (right_source (image_of b).entries) (image_of b).entries

module _ (b : List ℕ) (form : FormRight b) where
  -- only slots of the image's domains hold a capability
  pub held_below : (q : ℕ) → Holds (at_boot b) q → q < slot (size_d b) 0
  held_below q h = let (e, m, p, c) = given_from _ q h in let r = form.entry e m in omega arith

  -- a place that an entry defines holds a capability
  defined-held : (e : Entry) → some (defines e) (image_of b).entries ≡ true → Holds (at_boot b) (source_place e)
  unfolding capability_given
  defined-held e h z =
      let (f, m, t) = some_at (defines e) _ h in
      let c = given-here m form.rises in
      let r = form.entry f m in
      omega (arith, ap (λ c. c.kind) (rw (← defines-place e f t) at c))

  -- section 4, where every source is right
  right-section4 : right_sources b ≡ true → Section4 (at_boot b)
  unfolding capability_given
  right-section4 h =
      record {
        held = λ s. (parts _ _ s).0;
        no_return = λ d. let (r, s, e) = return_source d refl in comes_no_return (at_boot b) places _ _ refl (parts r _ s).2 d;
        fits = λ s. (parts _ _ s).1;
      }
    where
      parts : (p q : ℕ) → Source (at_boot b) p q
          → Holds (at_boot b) p × Fits (at_boot b q) (at_boot b p) × (comes_to places (at_boot b) 0 (at_boot b q).source ≡ true)
      parts p q s =
          let (e, m, c, n, l) = source-entry _ p q (given_either _ q) s in
          let r = source-right _ e (all_at (right_source (image_of b).entries) m h) n in
          (rw l at (defined-held e r.defined), rw c (rw l at r.fits), rw c r.ended)

  -- every source is right, where each is defined and section 4 holds
  section4-right : Bootable (image_of b) → right_sources b ≡ true
  unfolding capability_given
  section4-right t =
      all_of (right_source (image_of b).entries) _ (λ e m. right-source _ e (λ n.
      let c = given-here m form.rises in
      let s : Source (at_boot b) (source_place e) (place_of e) = ap (λ c. c.source) c ∙ source-of e n in
      record {
        defined = t.defined m n;
        fits = rw c at (t.section4.fits s);
        ended = rw c at (ends (at_boot b) places (λ p q. t.section4.held) (λ q h. omega (arith, held_below q h)) (λ p. t.section4.no_return) (place_of e));
      }))

-- what refusal 26 adds to the others
refusal_is : (b : List ℕ) → refusal_of_form b ≡ 0 → (t : Bool) → right_sources b ≡ t
    → refusal_of b ≡ cond t 0 26
unfolding refusal_of ◌then◌else◌
refusal_is b h true a = rw (h, a)
refusal_is b h false a = rw (h, a)

-- an accepted image is bootable, and only such
pub accepted_exactly : AcceptedExactly
unfolding refusal_of
accepted_exactly b h = (
  λ z. let a = (passes _ _ 25 z).1 in
      record {
        defined = λ {e} m n. (source-right _ e (all_at (right_source (image_of b).entries) m a) n).defined;
        section4 = right-section4 b (form-right b h) a;
      },
  λ t. refusal_is b h true (section4-right b (form-right b h) t),
)

-- refusal 26 is given exactly where a source is not defined or section 4 is broken
pub refused_exactly : RefusedExactly
refused_exactly b h = (λ z t. omega (arith, (accepted_exactly b h).1 t), λ n. go n _ refl)
  where
    go : (Bootable (image_of b) → ⊥) → (t : Bool) → right_sources b ≡ t → refusal_of b ≡ 26
    go n true a = absurd (n ((accepted_exactly b h).0 (refusal_is b h true a)))
    go n false a = refusal_is b h false a

-- ---- what boots

-- section 4 holds at boot
pub boot-section4 : (b : List ℕ) → refusal_of b ≡ 0 → Section4 (boot (image_of b)).capability
unfolding boot refusal_of
boot-section4 b h = ((accepted_exactly b (passes _ _ 25 h).0).0 h).section4

not_not_zero : (n : ℕ) → ((n ≡ 0 → ⊥) → ⊥) → n ≡ 0
not_not_zero zero h = refl
not_not_zero (suc n) h = absurd (h (λ e. omega arith))

-- an element of a list
get_or_in : (xs : List ℕ) (i : ℕ) → i < length xs → Memᴰ (get_or xs i 0) xs
get_or_in [] i l = absurd (omega arith)
get_or_in (x ∷ xs) zero l = Memᴰ.head refl
get_or_in (x ∷ xs) (suc i) l = Memᴰ.tail (get_or_in xs i (omega arith))

-- the table has as many turns as the header says
table-length : (b : List ℕ) → FormRight b → length (table_of b) ≡ size_t b
unfolding table_of length_for entries_at padded
table-length b f = simp (length-take, length-drop) (omega (arith, f.exact))

-- what the bytes give at a place is well formed, where the badges are in range
given-formed : (b : List ℕ) → FormRight b → Section4 (at_boot b)
    → ((e : Entry) → Memᴰ e (image_of b).entries → e.badge ≤ badge_most)
    → (q : ℕ) → Holds (at_boot b) q → WellFormed (size_f b) (at_boot b q)
unfolding capability_given
given-formed b form a badges q h =
    let (e, m, p, c) = given_from _ q h in
    let r = form.entry e m in
    rw c
    (record {
      kind_least = r.kind_least;
      kind_most = r.kind_most;
      rights = r.rights;
      grant = r.grant;
      object = r.object;
      badge = badges e m;
      source = rw c at (low _ refl);
    })
  where
    low : (x : ℕ) → (at_boot b q).source ≡ x → (at_boot b q).source ≤ all_slots
    low zero s = omega arith
    low (suc p) s = omega (arith, held_below b form p (a.held s))

-- sections 1 and 2 hold at boot, where the badges are in range
pub badged_formed : (b : List ℕ) → ((e : Entry) → Memᴰ e (image_of b).entries → e.badge ≤ badge_most) → refusal_of b ≡ 0
    → Formed (boot (image_of b))
unfolding boot image_of refusal_of
badged_formed b badges h =
    let form = form-right b (passes _ _ 25 h).0 in
    let t = table-length b form in
    record {
      domains = form.domains;
      frames = form.frames;
      table = omega arith;
      turns = λ i l. form.table _ (get_or_in _ i l);
      position = omega arith;
      capability = given-formed b form (boot-section4 b h) badges;
      empty = λ q. given_nothing _ q (λ e m z. let r = form.entry e m in omega arith);
      slots_only = λ q l. held_below b form q;
      places_only = λ q k. omega (arith, held_below b form q k);
      bell = λ c. omega arith;
      full = λ m. omega arith;
      emptied = λ m z. (refl, not_not_zero _ (λ k. omega (arith, held_below b form (room m) k)));
      badge = λ m. omega arith;
    }

-- each entry is read at some byte
entry_from : (b : List ℕ) (n i : ℕ) {e : Entry} → Memᴰ e (entries_from b n i) → (j : ℕ) × (e ≡ entry_at b j)
unfolding entries_from
entry_from b zero i m = elim m [ ]
entry_from b (suc n) i m =
    ⊎_elim (λ e. (i, e)) (entry_from b n (i + entry_bytes)) (Memᴰ.cases_cons m)

-- sections 1 and 2 hold at boot
pub boot-formed : (b : List ℕ) → ((k : ℕ) → get_or b k 0 < 256) → refusal_of b ≡ 0 → Formed (boot (image_of b))
unfolding image_of entry_at
boot-formed b bytes =
    badged_formed b (λ e m. let (j, k) = entry_from b _ _ m in rw k (omega (arith, bytes (j + 6), bytes (j + 6 + 1))))
