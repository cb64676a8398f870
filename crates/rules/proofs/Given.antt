-- What an image's entries give: the tests at each and at some, what stands at a place, the parts of refusals 20 to 25.
-- Assumes nothing.
use mathlib.Core.Path.{◌≡◌, refl, sym, ap, ◌∙◌}
use mathlib.Core.Bool.{Bool, true, false, not, ◌||◌, false≢true, or-true}
use mathlib.Core.List.{List, [], ◌∷◌, Memᴰ}
use mathlib.Core.Logic.{◌⊎◌, inl, inr, ⊎_elim}
use Prim.Native.Nat.{ℕ, ◌+◌, ◌≤◌, ◌<◌}
use native.Mathlib.Omega.{arith}
use lib.Dec.{eqb, leb, ltb}
use lib.ListN.{length}
use borrow.Author.Tests.{ltb-true, leb-true, eqb-true, eq-eqb, ne_eqb}
use Rattle.rules.specs.Sizes.{slots, domains_most, frames_most, turns_most, entries_most}
use Rattle.rules.specs.State.{FRAME, MAILBOX, BELL, READ, WRITE, GRANT, within, nothing, objects, Holds}
use Rattle.rules.specs.Image.{Entry, header_bytes, size_d, size_t, size_c, size_f, header_last, length_for, table_of, padding_of, image_of, place_of, capability_given, given, all, some, between, right_sizes, right_length, right_turns, right_entry, rising_from, rising, refusal_of_form}
use Rattle.rules.proofs.Laws.{both, either, decided_by, passes}

-- ---- tests at each, at some

module _ {A : Type 0} (f : A → Bool) where
  -- a test that passes at all passes at each
  pub all_at : {x : A} {xs : List A} → Memᴰ x xs → all f xs ≡ true → f x ≡ true
  unfolding all
  all_at (Memᴰ.head {x = y} e) h = rw e (both (f y) _ h).0
  all_at (Memᴰ.tail {x = y} m) h = all_at m (both (f y) _ h).1

  -- a test that passes at each passes at all
  pub all_of : (xs : List A) → ((x : A) → Memᴰ x xs → f x ≡ true) → all f xs ≡ true
  unfolding all
  all_of [] h = refl
  all_of (y ∷ ys) h = rw (h y (Memᴰ.head refl)) (all_of ys (λ x m. h x (Memᴰ.tail m)))

  -- a test that passes at some passes at one of them
  pub some_at : (xs : List A) → some f xs ≡ true → (x : A) × Memᴰ x xs × (f x ≡ true)
  unfolding some
  some_at [] h = absurd (false≢true h)
  some_at (y ∷ ys) h =
      ⊎_elim (λ (t : f y ≡ true). (y, Memᴰ.head refl, t))
      (λ (t : some f ys ≡ true). let (x, m, u) = some_at ys t in (x, Memᴰ.tail m, u)) (either _ _ h)

  -- a test that passes at one of them passes at some
  pub some_of : {x : A} {xs : List A} → Memᴰ x xs → f x ≡ true → some f xs ≡ true
  unfolding some
  some_of (Memᴰ.head e) h = rw (← e, h)
  some_of (Memᴰ.tail {x = y} m) h = rw (some_of m h) (or-true (f y))

-- ---- what stands at a place

-- an entry stands for place q, and the entries give its capability there
abbrev pub Entered : List Entry → ℕ → Type 0
Entered es q = (e : Entry) × Memᴰ e es × (q ≡ place_of e) × (given es q ≡ capability_given e)

-- the entries give nothing at a place, or it is entered
pub given_either : (es : List Entry) (q : ℕ) → (given es q ≡ nothing) ⊎ Entered es q
unfolding given
given_either [] q = inl refl
given_either (f ∷ fs) q = go (decided_by (eqb q (place_of f))) (given_either fs q)
  where
    go : (eqb q (place_of f) ≡ true) ⊎ (eqb q (place_of f) ≡ false) → (given fs q ≡ nothing) ⊎ Entered fs q
        → (given (f ∷ fs) q ≡ nothing) ⊎ Entered (f ∷ fs) q
    go (inl t) r = inr (f, Memᴰ.head refl, eqb-true _ _ t, rw t)
    go (inr t) (inl n) = inl (rw t n)
    go (inr t) (inr r) = let (e, m, p, c) = r in inr (e, Memᴰ.tail m, p, rw t c)

-- a place that holds a capability is entered
pub given_from : (es : List Entry) (q : ℕ) → Holds (given es) q → Entered es q
given_from es q h = ⊎_elim (λ n. absurd (h (ap (λ c. c.kind) n))) (λ r. r) (given_either es q)

-- where no entry has kind 0, a place of kind 0 holds nothing at all
pub given_nothing : (es : List Entry) (q : ℕ) → ((e : Entry) → Memᴰ e es → e.kind ≡ 0 → ⊥)
    → (given es q).kind ≡ 0 → given es q ≡ nothing
unfolding capability_given
given_nothing es q h k =
    ⊎_elim (λ n. n) (λ r. absurd (h r.0 r.1 (ap (λ c. c.kind) (sym r.3) ∙ k))) (given_either es q)

-- the entries after e in rising order are for later places, and rise
rising_above : {f : Entry} (e : Entry) {es : List Entry} → Memᴰ f es → rising_from e es ≡ true → place_of e < place_of f
unfolding rising_from
rising_above e (Memᴰ.head {x = x} m) h = rw m (ltb-true _ _ (both (ltb (place_of e) (place_of x)) _ h).0)
rising_above e (Memᴰ.tail {x = x} m) h =
    let (t, u) = both (ltb (place_of e) (place_of x)) _ h in
    omega (arith, ltb-true, rising_above x m u)

rising-rest : (e : Entry) (es : List Entry) → rising_from e es ≡ true → rising es ≡ true
unfolding rising_from rising
rising-rest e [] h = refl
rising-rest e (f ∷ fs) h = (both (ltb (place_of e) (place_of f)) _ h).1

-- in rising order the entry for a place is the only one: its capability stands there
pub given-here : {e : Entry} {es : List Entry} → Memᴰ e es → rising es ≡ true → given es (place_of e) ≡ capability_given e
unfolding given rising
given-here (Memᴰ.head m) h = rw (m, eq-eqb _ _ refl)
given-here {e} (Memᴰ.tail {x = f} {xs = fs} m) h =
    rw (ne_eqb (place_of e) (place_of f) (λ p. omega (arith, rising_above f m h))) (given-here m (rising-rest f fs h))

-- ---- the parts of refusals 20 to 25

-- what is right about an entry, in an image with D domains and F frames
pub record EntryRight (domains frames : ℕ) (e : Entry) : Type 0 where
  pub domain : e.domain < domains
  pub slot : e.slot < slots
  pub kind_least : FRAME ≤ e.kind
  pub kind_most : e.kind ≤ BELL
  pub rights : e.rights ≤ READ + WRITE + GRANT
  pub grant : within GRANT e.rights ≡ true → e.kind ≡ MAILBOX
  pub object : e.object < objects frames e.kind
  pub last : e.last ≡ 0

between-true : (a b n : ℕ) → between a b n ≡ true → (a ≤ n) × (n ≤ b)
unfolding between
between-true a b n h = let (l, r) = both (leb a n) _ h in (leb-true _ _ l, leb-true _ _ r)

implied : (a b : Bool) → (not a || b) ≡ true → a ≡ true → b ≡ true
implied true b h t = h
implied false b h t = absurd (false≢true t)

-- the parts of refusal 24 for one entry
pub entry-right : (domains frames : ℕ) (e : Entry) → right_entry domains frames e ≡ true → EntryRight domains frames e
unfolding right_entry
entry-right D F e h =
    let (h6, last) = both _ _ h in
    let (h5, object) = both _ _ h6 in
    let (h4, grant) = both _ _ h5 in
    let (h3, rights) = both _ _ h4 in
    let (h2, kind) = both _ _ h3 in
    let (domain, slot) = both _ _ h2 in
    let (least, most) = between-true _ _ _ kind in
    record {
      domain = ltb-true _ _ domain;
      slot = ltb-true _ _ slot;
      kind_least = least;
      kind_most = most;
      rights = leb-true _ _ rights;
      grant = λ t. eqb-true _ _ (implied _ _ grant t);
      object = ltb-true _ _ object;
      last = eqb-true _ _ last;
    }

-- what is right about bytes that are not refused below 26
pub record FormRight (b : List ℕ) : Type 0 where
  pub header : header_bytes ≤ length b
  pub domains : (1 ≤ size_d b) × (size_d b ≤ domains_most)
  pub turns : (1 ≤ size_t b) × (size_t b ≤ turns_most)
  pub count : size_c b ≤ entries_most
  pub frames : (1 ≤ size_f b) × (size_f b ≤ frames_most)
  pub last : header_last b ≡ 0
  pub exact : length b ≡ length_for (size_t b) (size_c b)
  pub table : (d : ℕ) → Memᴰ d (table_of b) → d < size_d b
  pub padding : (p : ℕ) → Memᴰ p (padding_of b) → p ≡ 0
  pub entry : (e : Entry) → Memᴰ e (image_of b).entries → EntryRight (size_d b) (size_f b) e
  pub rises : rising (image_of b).entries ≡ true

-- the parts of refusals 20 to 25
pub form-right : (b : List ℕ) → refusal_of_form b ≡ 0 → FormRight b
unfolding refusal_of_form right_sizes right_length right_turns image_of
form-right b h =
    let (h5, rises) = passes _ _ 24 h in
    let (h4, entries) = passes _ _ 23 h5 in
    let (h3, turns) = passes _ _ 22 h4 in
    let (h2, exact) = passes _ _ 21 h3 in
    let (h1, sizes) = passes _ _ 20 h2 in
    let (table, padding) = both _ _ turns in
    let (s4, last) = both _ _ sizes in
    let (s3, frames) = both _ _ s4 in
    let (s2, count) = both _ _ s3 in
    let (domains, size) = both _ _ s2 in
    record {
      header = leb-true _ _ (passes 0 _ 19 h1).1;
      domains = between-true _ _ _ domains;
      turns = between-true _ _ _ size;
      count = leb-true _ _ count;
      frames = between-true _ _ _ frames;
      last = eqb-true _ _ last;
      exact = eqb-true _ _ exact;
      table = λ d m. ltb-true _ _ (all_at (λ d. ltb d (size_d b)) m table);
      padding = λ p m. eqb-true _ _ (all_at (λ p. eqb p 0) m padding);
      entry = λ e m. entry-right _ _ e (all_at (right_entry (size_d b) (size_f b)) m entries);
      rises = rises;
    }
