-- Entries against places: the places that entries in rising order stand for, what the entries for some places give, and the twelve bytes
-- of an entry. Assumes nothing.
use mathlib.Core.Path.{◌≡◌, refl, sym, ap, ap₂, ◌∙◌}
use mathlib.Core.Bool.{Bool, true, false, cond, not}
use mathlib.Core.List.Memᴰ
use mathlib.Core.List.{List, [], ◌∷◌, ◌++◌, map, Memᴰ}
use mathlib.Core.Logic.{⊎_elim}
use Prim.Native.Nat.{ℕ, zero, suc, ◌+◌, ◌*◌, ◌/◌, ◌%◌, ◌≤◌, ◌<◌}
use native.Mathlib.Omega.{arith}
use native.Mathlib.Nat.{add-zero, add_assoc, add-suc, suc-add, div-add-mod'}
use lib.Dec.{eqb, ltb}
use lib.ListN.{length, drop, length-append, length-drop, drop_of_length-le}
use lib.Arith.{digits_div, digits_mod}
use lib.Seq.{drop-cons, drop-drop, drop_at, get_or-drop}
use borrow.Author.Tests.{ltb-true, lt-ltb, eqb-true, eqb-false, eq-eqb, ne_eqb}
use Rattle.rules.specs.Sizes.{slots, all_slots}
use Rattle.rules.specs.State.{nothing, Places, Holds}
use Rattle.rules.specs.Turn.{present}
use Rattle.rules.specs.Image.{Entry, Bytes, byte, entry_bytes, entry_at, entries_from, place_of, no_domain, sourceless, source_of, capability_given, given, rising_from, rising, source_bytes, entry_for, occupied, entries_for}
use Rattle.rules.specs.declared.Capability.{Capability}
use Rattle.rules.proofs.Laws.{both}
use Rattle.rules.proofs.Places.{same?, resourced}

-- ---- entries in rising order

-- entries in rising order, none before place p
abbrev pub Rises : ℕ → List Entry → Type 0
Rises p [] = Unit {0}
Rises p (e ∷ es) = (p ≤ place_of e) × Rises (suc (place_of e)) es

-- the test of refusal 25 tells this
pub rising-rises : (es : List Entry) → rising es ≡ true → Rises 0 es
unfolding rising rising_from
rising-rises [] h = tt
rising-rises (e ∷ []) h = (omega arith, tt)
rising-rises (e ∷ f ∷ fs) h =
    let (t, u) = both (ltb (place_of e) (place_of f)) _ h in
    (omega arith, (ltb-true _ _ t, (rising-rises (f ∷ fs) u).1))

-- and is told by this
pub rises-rising : (p : ℕ) (es : List Entry) → Rises p es → rising es ≡ true
unfolding rising rising_from
rises-rising p [] r = refl
rises-rising p (e ∷ []) r = refl
rises-rising p (e ∷ f ∷ fs) r = rw (lt-ltb _ _ r.1.0) (rises-rising (suc (place_of e)) (f ∷ fs) r.1)

-- such entries give nothing before place p
given-before : (p q : ℕ) (es : List Entry) → Rises p es → q < p → given es q ≡ nothing
unfolding given
given-before p q [] r l = refl
given-before p q (e ∷ es) r l =
    rw (ne_eqb q (place_of e) (λ z. omega arith)) (given-before (suc (place_of e)) q es r.1 (omega arith))

-- ---- the places that hold a capability

module _ (at : Places) where
  -- the first of the places holds nothing, or a capability
  occupied_either : (P : List ℕ → Type 0) (n p : ℕ) → ((at p).kind ≡ 0 → P (occupied at n (suc p)))
      → (Holds at p → P (p ∷ occupied at n (suc p))) → P (occupied at (suc n) p)
  unfolding occupied present
  occupied_either P n p empty there = go (eqb (at p).kind 0) refl
    where
      go : (t : Bool) → eqb (at p).kind 0 ≡ t → P (cond (not t) (p ∷ occupied at n (suc p)) (occupied at n (suc p)))
      go true e = empty (eqb-true _ _ e)
      go false e = there (eqb-false _ _ e)

  -- they are no more than there are places
  pub occupied-most : (n p : ℕ) → length (occupied at n p) ≤ n
  unfolding occupied
  occupied-most zero p = omega arith
  occupied-most (suc n) p =
      let rest = occupied-most n (suc p) in
      occupied_either (λ ps. length ps ≤ suc n) n p (λ z. omega arith) (λ h. omega arith)

  -- those that hold what entries in rising order give are the entries' places, in their order
  pub occupied-places : (n p : ℕ) (es : List Entry) → Rises p es
      → ((e : Entry) → Memᴰ e es → (place_of e < p + n) × (e.kind ≡ 0 → ⊥)) → ((q : ℕ) → p ≤ q → at q ≡ given es q)
      → occupied at n p ≡ map place_of es
  unfolding occupied given capability_given
  occupied-places zero p [] r fit is = refl
  occupied-places zero p (e ∷ es) r fit is = absurd (omega (arith, (fit e (Memᴰ.head refl)).0))
  occupied-places (suc n) p [] r fit is =
      occupied_either (λ ps. ps ≡ []) n p (λ z. occupied-places n (suc p) [] tt (λ e m. elim m [ ]) (λ q l. is q (omega arith)))
      (λ h. absurd (h (ap (λ c. c.kind) (is p (omega arith)))))
  occupied-places (suc n) p (e ∷ es) r fit is =
      occupied_either (λ ps. ps ≡ place_of e ∷ map place_of es) n p
      (λ z.
      let apart : p ≡ place_of e → ⊥ = λ i. (fit e (Memᴰ.head refl)).1 (ap (λ c. c.kind) (sym (here i)) ∙ z) in
      occupied-places n (suc p) (e ∷ es) (omega arith, r.1) (λ f m. let (l, k) = fit f m in (omega arith, k)) (λ q l. is q (omega arith)))
      (λ h.
      let i : p ≡ place_of e = ⊎_elim (λ i. i) (λ apart. absurd (h (ap (λ c. c.kind)
      (is p (omega arith) ∙ given-before (suc p) p (e ∷ es) (omega arith, r.1) (omega arith))))) (same? p (place_of e)) in
      ap₂ ◌∷◌ i (occupied-places n (suc p) es (rw i r.1) (λ f m. let (l, k) = fit f (Memᴰ.tail m) in (omega arith, k))
      (λ q l. is q (omega arith) ∙ rw (ne_eqb q (place_of e) (λ k. omega arith)))))
    where
      here : p ≡ place_of e → at p ≡ capability_given e
      here i = is p (omega arith) ∙ rw (eq-eqb p (place_of e) i)

-- ---- the twelve bytes of an entry

-- n bytes of a list from k on
abbrev pub span : List ℕ → ℕ → ℕ → List ℕ
span l zero k = []
span l (suc n) k = byte l k ∷ span l n (suc k)

-- what stands from k on begins with them
pub span_drop : (l : List ℕ) (n k : ℕ) → k + n ≤ length l → span l n k ++ drop (k + n) l ≡ drop k l
span_drop l zero k h = rw (add-zero k)
span_drop l (suc n) k h =
    rw (drop-cons l k 0 (omega arith), ← (span_drop l n (suc k) (omega arith)), add-suc, suc-add)

-- an entry at byte i is the first of what stands from there on
entry_here : (b : List ℕ) (i : ℕ) → entry_at b i ≡ entry_at (drop i b) 0
unfolding entry_at
entry_here b i = simp (get_or-drop, add_assoc, add-zero)

-- the bytes of the source of an entry
source-bytes : (e : Entry) (t : Bool) → sourceless e ≡ t → (sourceless e ≡ false → e.source_slot < slots)
    → source_bytes (source_of e) ≡ e.source_domain ∷ e.source_slot ∷ []
unfolding sourceless source_of source_bytes
source-bytes e true t h =
    let (d, x) = both (eqb e.source_domain no_domain) (eqb e.source_slot 0) t in
    rw t (ap₂ (λ d x. d ∷ x ∷ []) (sym (eqb-true _ _ d)) (sym (eqb-true _ _ x)))
source-bytes e false t h = let k = h t in rw t (simp (digits_div, digits_mod))

-- what is written for an entry is the bytes that it was read from
entry-written : (l : List ℕ) → Bytes l → entry_bytes ≤ length l → let e = entry_at l 0 in e.slot < slots → e.last ≡ 0
    → (sourceless e ≡ false → e.source_slot < slots) → entry_for (place_of e) (capability_given e) ++ drop entry_bytes l ≡ l
unfolding entry_at capability_given entry_for
entry-written l y n x z s =
    let object = y 5 in
    let badge = y 7 in
    let a : byte l 10 ≡ 0 = omega arith in
    let b : byte l 11 ≡ 0 = omega arith in
    rw (source-bytes (entry_at l 0) _ refl s) (simp (digits_div, digits_mod) (rw (a, b) at (span_drop l entry_bytes 0 n)))

module _ (b : List ℕ) (y : Bytes b) (at : Places) where
  -- what is written for entries in a row is the bytes that they were read from
  pub entries-written : (n i : ℕ) → i + entry_bytes * n ≡ length b
      → ((e : Entry) → Memᴰ e (entries_from b n i) → (e.slot < slots) × (e.last ≡ 0) × (sourceless e ≡ false → e.source_slot < slots)
      × (at (place_of e) ≡ capability_given e))
      → entries_for at (map place_of (entries_from b n i)) ≡ drop i b
  unfolding entries_from entries_for
  entries-written zero i l fit = sym (drop_of_length-le b {i = i} (omega arith))
  entries-written (suc n) i l fit =
      let (x, z, s, c) = fit (entry_at b i) (Memᴰ.head refl) in
      rw (c, entries-written n (i + entry_bytes) (omega arith) (λ e m. fit e (Memᴰ.tail m)), entry_here b i, ← (drop-drop entry_bytes i b))
      (entry-written (drop i b) (λ k. simp get_or-drop (y (i + k))) (simp length-drop (omega arith)) (rw (entry_here b i) at x) (rw (entry_here b i) at z)
      (rw (entry_here b i) at s))

-- ---- the entries of a state

-- the entry that is written for place p, which holds c
abbrev pub entry_of : ℕ → Capability → Entry
entry_of p c =
    record {
      domain = p / slots;
      slot = p % slots;
      kind = c.kind;
      rights = c.rights;
      object = c.object;
      badge = c.badge;
      source_domain = byte (source_bytes c.source) 0;
      source_slot = byte (source_bytes c.source) 1;
      last = 0;
    }

-- a source has two bytes
source_two : (x : ℕ) → source_bytes x ≡ byte (source_bytes x) 0 ∷ byte (source_bytes x) 1 ∷ []
unfolding source_bytes
source_two zero = refl
source_two (suc p) = refl

-- an entry has twelve bytes
entry_length : (p : ℕ) (c : Capability) → length (entry_for p c) ≡ entry_bytes
unfolding entry_for
entry_length p c = rw (source_two c.source)

-- it is read from what is written for its place
entry_read : (p : ℕ) (c : Capability) (l : List ℕ) → entry_at (entry_for p c ++ l) 0 ≡ entry_of p c
unfolding entry_at entry_for
entry_read p c l = rw (source_two c.source) (simp div-add-mod')

-- its source is that of what the place holds
source-back : (p : ℕ) (c : Capability) (x : ℕ) → c.source ≡ x → x ≤ all_slots → source_of (entry_of p c) ≡ x
unfolding source_of sourceless source_bytes
source-back p c zero e l = rw e
source-back p c (suc q) e l = rw (e, ne_eqb (q / slots) no_domain (λ z. omega arith)) (omega arith)

-- and it stands for what the place holds
capability-back : (p : ℕ) (c : Capability) → c.source ≤ all_slots → capability_given (entry_of p c) ≡ c
unfolding capability_given
capability-back p c h = ap (resourced c) (source-back p c _ refl h)

module _ (at : Places) where
  -- the entries that are written for places
  abbrev pub entries_of : List ℕ → List Entry
  entries_of ps = map (λ p. entry_of p (at p)) ps

  -- their bytes
  pub entries-bytes : (ps : List ℕ) → length (entries_for at ps) ≡ entry_bytes * length ps
  unfolding entries_for
  entries-bytes [] = refl
  entries-bytes (p ∷ ps) = rw length-append (omega (arith, entry_length p (at p), entries-bytes ps))

  -- they are read from those
  pub entries-read : (ps b : List ℕ) (i : ℕ) → drop i b ≡ entries_for at ps → entries_from b (length ps) i ≡ entries_of ps
  unfolding entries_from entries_for
  entries-read [] b i h = refl
  entries-read (p ∷ ps) b i h =
      ap₂ ◌∷◌ (entry_here b i ∙ rw h (entry_read p (at p) _))
      (entries-read ps b (i + entry_bytes) (rw (← (drop-drop entry_bytes i b), h) (drop_at (entry_for p (at p)) _ _ (entry_length p (at p)))))

  -- those for the places that hold a capability rise
  pub entries_rise : (n p k : ℕ) → k ≤ p → Rises k (entries_of (occupied at n p))
  unfolding occupied
  entries_rise zero p k l = tt
  entries_rise (suc n) p k l =
      occupied_either at (λ ps. Rises k (entries_of ps)) n p (λ z. entries_rise n (suc p) k (omega arith))
      (λ h. (omega arith, entries_rise n (suc p) _ (omega arith)))

  -- entry e is for one of the first n places, which holds a capability
  abbrev pub For : ℕ → Entry → Type 0
  For n e = (q : ℕ) × (e ≡ entry_of q (at q)) × (q < n) × Holds at q

  -- each of them is
  pub entry-of : (n p : ℕ) {e : Entry} → Memᴰ e (entries_of (occupied at n p)) → For (p + n) e
  unfolding occupied
  entry-of zero p m = elim m [ ]
  entry-of (suc n) p {e} m =
      let later : Memᴰ e (entries_of (occupied at n (suc p))) → For (p + suc n) e
      = λ m. let (q, i, l, h) = entry-of n (suc p) m in (q, i, omega arith, h) in
      occupied_either at (λ ps. Memᴰ e (entries_of ps) → For (p + suc n) e) n p (λ z. later)
      (λ h m. ⊎_elim (λ i. (p, i, omega arith, h)) later (Memᴰ.cases_cons m)) m

  -- they give what the places hold, where there is nothing after these
  pub given_back : (n p q : ℕ) → ((q : ℕ) → Holds at q → (at q).source ≤ all_slots) → ((q : ℕ) → (at q).kind ≡ 0 → at q ≡ nothing)
      → p ≤ q → (p + n ≤ q → (at q).kind ≡ 0) → given (entries_of (occupied at n p)) q ≡ at q
  unfolding occupied given
  given_back zero p q sources empty l none = sym (empty q (none (omega arith)))
  given_back (suc n) p q sources empty l none =
      let rest : (q ≡ p → ⊥) → given (entries_of (occupied at n (suc p))) q ≡ at q
      = λ i. given_back n (suc p) q sources empty (omega arith) (λ k. none (omega arith)) in
      occupied_either at (λ ps. given (entries_of ps) q ≡ at q) n p
      (λ z. ⊎_elim (λ (i : q ≡ p). given-before (suc p) q (entries_of (occupied at n (suc p))) (entries_rise n (suc p) (suc p) (omega arith)) (omega arith)
      ∙ sym (empty q (rw i z))) rest (same? q p))
      (λ h. ⊎_elim (λ (i : q ≡ p). rw (eq-eqb q (place_of (entry_of p (at p))) (omega arith)) (rw i (capability-back p (at p) (sources p h))))
      (λ (i : q ≡ p → ⊥). rw (ne_eqb q (place_of (entry_of p (at p))) (λ k. i (omega arith))) (rest i)) (same? q p))
