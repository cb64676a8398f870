-- What the rows and cells say in the rules' words: what a domain could hold, and which domains could hold an object with a right.
-- Assumes nothing.
use mathlib.Core.Path.{◌≡◌, refl, sym, ap, ◌∙◌, subst}
use mathlib.Core.Bool.{Bool, true, false, cond}
use mathlib.Core.List.{List}
use mathlib.Core.Logic.{◌⊎◌, inl, inr}
use Prim.Native.Nat.{ℕ, ◌+◌, ◌*◌, ◌/◌, ◌%◌, ◌^◌, ◌≤◌, ◌<◌}
use native.Mathlib.Omega.{arith}
use lib.Dec.{eqb}
use lib.ListN.{get_or}
use borrow.Author.Tests.{eqb-true, eq-eqb, ne_eqb}
use Rattle.rules.specs.Sizes.{domains_most, frames_most, mailboxes}
use Rattle.rules.specs.State.{FRAME, MAILBOX, BELL, READ, WRITE, GRANT, within, objects}
use Rattle.rules.specs.Image.{size_d, size_c, size_f, image_of, all_below}
use Rattle.rules.specs.Flow.{Triple, triple_of, For, CouldHold, image, passed, Could}
use Rattle.rules.proofs.Laws.{not_both}
use Rattle.rules.proofs.Given.{EntryRight}
use Rattle.rules.proofs.Certificate.{below_at}
use Rattle.rules.proofs.Places.{same?}
use Rattle.flow.specs.Masks.{In, Meets, row}
use Rattle.flow.specs.Cells.{number_of, rights_all, cell_of, mailbox_first, entry_numbered, Accepted, Noted, reading, writing, granting, Has, Passes, own, on, Reach}
use Rattle.flow.specs.Edges.{Uses}
use Rattle.flow.proofs.Entries.{entry-member, member-entry, right_at, frames-low, number-frame, number-mailbox, number-bell}

-- ---- the masks of rights

-- the mask has exactly those rights below 8 that include the right r
abbrev agrees : ℕ → ℕ → ℕ → Bool
agrees r mask x = cond (within r x) (eqb (mask / 2 ^ x % 2) 1) (eqb (mask / 2 ^ x % 2) 0)

module _ (r mask : ℕ) (test : all_below 8 (agrees r mask) ≡ true) where
  pub right_of : (x : ℕ) → x < 8 → In x mask → within r x ≡ true
  right_of x l i = go (within r x) refl (below_at (agrees r mask) 8 test x l)
    where
      go : (t : Bool) → within r x ≡ t → cond t (eqb (mask / 2 ^ x % 2) 1) (eqb (mask / 2 ^ x % 2) 0) ≡ true → t ≡ true
      go true e h = refl
      go false e h = absurd (let z : mask / 2 ^ x % 2 ≡ 0 = eqb-true _ _ h in let y = i.digit in omega arith)

  pub of_right : (x : ℕ) → x < 8 → within r x ≡ true → In x mask
  of_right x l w = record { digit = eqb-true _ _ (rw w at (below_at (agrees r mask) 8 test x l)) }

-- READ's and WRITE's; and that of WRITE and GRANT together
reading_test : all_below 8 (agrees READ reading) ≡ true
unfolding all_below within
reading_test = refl

writing_test : all_below 8 (agrees WRITE writing) ≡ true
unfolding all_below within
writing_test = refl

granting_test : all_below 8 (agrees (WRITE + GRANT) granting) ≡ true
unfolding all_below within
granting_test = refl

pub reads_of : (x : ℕ) → x < 8 → In x reading → within READ x ≡ true
reads_of = right_of READ reading reading_test

pub of_reads : (x : ℕ) → x < 8 → within READ x ≡ true → In x reading
of_reads = of_right READ reading reading_test

pub writes_of : (x : ℕ) → x < 8 → In x writing → within WRITE x ≡ true
writes_of = right_of WRITE writing writing_test

pub of_writes : (x : ℕ) → x < 8 → within WRITE x ≡ true → In x writing
of_writes = of_right WRITE writing writing_test

-- both rights are the two together, below 8
abbrev together : ℕ → Bool
together x = cond (within (WRITE + GRANT) x) (cond (within WRITE x) (within GRANT x) false) (cond (within WRITE x) (cond (within GRANT x) false true) true)

together_test : all_below 8 together ≡ true
unfolding all_below within
together_test = refl

both_of : (x : ℕ) → x < 8 → In x granting → (within WRITE x ≡ true) × (within GRANT x ≡ true)
both_of x l i =
    go (within WRITE x) (within GRANT x) (rw (right_of (WRITE + GRANT) granting granting_test x l i) at (below_at together 8 together_test x l))
  where
    go : (t u : Bool) → cond t u false ≡ true → (t ≡ true) × (u ≡ true)
    go true u h = (refl, h)
    go false u h = absurd (not_both h refl)

of_both : (x : ℕ) → x < 8 → within WRITE x ≡ true → within GRANT x ≡ true → In x granting
of_both x l w g = of_right (WRITE + GRANT) granting granting_test x l (go (within (WRITE + GRANT) x) refl (below_at together 8 together_test x l))
  where
    go : (t : Bool) → within (WRITE + GRANT) x ≡ t → together x ≡ true → t ≡ true
    go true e h = refl
    go false e h = absurd (not_both (rw (e, w, g) at h) refl)

-- ---- the numbers of objects

-- what a number says of the kind and object, where these are in range
pub data Numbered (kind object n : ℕ) : Type 0 where
  frame : kind ≡ 1 → object < 256 → n ≡ object → Numbered kind object n
  mailbox : kind ≡ 2 → object < 64 → n ≡ 256 + object → Numbered kind object n
  bell : kind ≡ 3 → object < 64 → n ≡ 320 + object → Numbered kind object n

numbered : (frames kind object : ℕ) → frames ≤ frames_most → FRAME ≤ kind → kind ≤ BELL → object < objects frames kind
    → Numbered kind object (number_of kind object)
unfolding objects
numbered frames kind object f l h o = go (same? kind 1) (same? kind 2)
  where
    go : (kind ≡ 1) ⊎ (kind ≡ 1 → ⊥) → (kind ≡ 2) ⊎ (kind ≡ 2 → ⊥) → Numbered kind object (number_of kind object)
    go (inl e) z = frame e (let g = rw (eq-eqb kind 1 e) at o in omega arith) (sym (number-frame kind object e))
    go (inr n) (inl e) = mailbox e (rw (ne_eqb kind 1 n, eq-eqb kind 2 e) at o) (sym (number-mailbox kind object n e))
    go (inr n) (inr k) = bell (omega arith) (rw (ne_eqb kind 1 n, ne_eqb kind 2 k) at o) (sym (number-bell kind object n k))

-- the same number, the same kind and object
same_number : {k o l p n m : ℕ} → Numbered k o n → Numbered l p m → n ≡ m → (k ≡ l) × (o ≡ p)
same_number (frame a b c) (frame d e f) z = (omega arith, omega arith)
same_number (frame a b c) (mailbox d e f) z = absurd (omega arith)
same_number (frame a b c) (bell d e f) z = absurd (omega arith)
same_number (mailbox a b c) (frame d e f) z = absurd (omega arith)
same_number (mailbox a b c) (mailbox d e f) z = (omega arith, omega arith)
same_number (mailbox a b c) (bell d e f) z = absurd (omega arith)
same_number (bell a b c) (frame d e f) z = absurd (omega arith)
same_number (bell a b c) (mailbox d e f) z = absurd (omega arith)
same_number (bell a b c) (bell d e f) z = (omega arith, omega arith)

module _ {b : List ℕ} (acc : Accepted b) where
  right_no : (i : ℕ) → i < size_c b → EntryRight (size_d b) (size_f b) (entry_numbered b i)
  right_no i l = right_at acc (entry-member b i l)

  -- the number of entry i's object
  numbered_no : (i : ℕ) → i < size_c b → Numbered (entry_numbered b i).kind (entry_numbered b i).object (number_of (entry_numbered b i).kind (entry_numbered b i).object)
  numbered_no i l =
      let r = right_no i l in
      numbered (size_f b) _ _ (frames-low acc) r.kind_least r.kind_most r.object

  -- entries in one cell have one triple
  same-cell : (i j : ℕ) → i < size_c b → j < size_c b → cell_of (triple_of (entry_numbered b i)) ≡ cell_of (triple_of (entry_numbered b j))
      → triple_of (entry_numbered b i) ≡ triple_of (entry_numbered b j)
  unfolding cell_of
  same-cell i j l k e =
      let p = (right_no i l).rights in
      let q = (right_no j k).rights in
      let (kind, object) = same_number (numbered_no i l) (numbered_no j k) (omega arith) in
      let rights : (entry_numbered b i).rights ≡ (entry_numbered b j).rights = omega arith in
      λ x. record { kind = kind x; object = object x; rights = rights x }

  -- ---- what the cells have

  -- domain c has entry i, with that triple
  pub record Given (c : ℕ) (t : Triple) : Type 0 where
    pub number : ℕ
    pub low : number < size_c b
    pub domain : (entry_numbered b number).domain ≡ c
    pub triple : triple_of (entry_numbered b number) ≡ t

  module _ {cells : List ℕ} (noted : Noted b (size_c b) cells) where
    -- an entry for that object whose rights are in the mask
    record Entry-for (o mask c : ℕ) : Type 0 where
      number : ℕ
      low : number < size_c b
      domain : (entry_numbered b number).domain ≡ c
      object : number_of (entry_numbered b number).kind (entry_numbered b number).object ≡ o
      small : (entry_numbered b number).rights < 8
      rights : In (entry_numbered b number).rights mask

    had : {mask c : ℕ} (o : ℕ) → Has cells o mask c → Entry-for o mask c
    unfolding cell_of
    had {mask} {c} o h =
        let g = noted.told c (o * rights_all + h.number) h.inside in
        let l = h.low in
        let r = (right_no g.number g.low).rights in
        let z = g.cell in
        record {
          number = g.number;
          low = g.low;
          domain = g.domain;
          object = omega arith;
          small = omega arith;
          rights = subst (λ k. In k mask) (let w : h.number ≡ (entry_numbered b g.number).rights = omega arith in w) h.chosen;
        }

    has : {mask : ℕ} (i o : ℕ) → i < size_c b → number_of (entry_numbered b i).kind (entry_numbered b i).object ≡ o → In (entry_numbered b i).rights mask
        → Has cells o mask (entry_numbered b i).domain
    unfolding cell_of
    has {mask} i o l e m =
        record {
          number = (entry_numbered b i).rights;
          low = let r = (right_no i l).rights in omega arith;
          chosen = m;
          inside = subst (λ k. In (entry_numbered b i).domain (get_or cells (k * rights_all + (entry_numbered b i).rights) 0)) e (noted.every i l);
        }

    -- ---- the relation

    -- a mailbox's entry says so
    at_mailbox : {mask c : ℕ} (m : ℕ) → m < mailboxes → (f : Entry-for (mailbox_first + m) mask c)
        → ((entry_numbered b f.number).kind ≡ MAILBOX) × ((entry_numbered b f.number).object ≡ m)
    at_mailbox m l f = same_number {l = 2} {p = m} (numbered_no f.number f.low) (mailbox refl l refl) f.object

    given_of : {o mask c : ℕ} (f : Entry-for o mask c) → Given c (triple_of (entry_numbered b f.number))
    given_of f = record { number = f.number; low = f.low; domain = f.domain; triple = refl }

    pub passes_could : {d c : ℕ} {t : Triple} → Passes cells d c → Given c t → CouldHold (image_of b) d t
    passes_could {d} {t = t} (own l) g =
        subst (CouldHold (image_of b) d) g.triple
        (subst (λ k. CouldHold (image_of b) k (triple_of (entry_numbered b g.number))) g.domain (image (entry-member b g.number g.low)))
    passes_could (on {a} {b = e} {c} {m} {g} {q} l x hx y hy z) v =
        let f = had (mailbox_first + m) hx in
        let h = had (mailbox_first + m) hy in
        let (fk, fo) = at_mailbox m l f in
        let (hk, ho) = at_mailbox m l h in
        let (w, n) = both_of (entry_numbered b f.number).rights f.small f.rights in
        passed (passes_could x (given_of f)) (record { kind_is = fk; object_is = fo; has = w }) (record { kind_is = fk; object_is = fo; has = n })
        (passes_could y (given_of h))
        (record { kind_is = hk; object_is = ho; has = right_of READ reading reading_test (entry_numbered b h.number).rights h.small h.rights })
        (passes_could z v)

    -- what a domain could hold it got from one that has it
    pub record Got (d : ℕ) (t : Triple) : Type 0 where
      pub from : ℕ
      pub passes : Passes cells d from
      pub given : Given from t

    -- an entry for an object, by its triple
    for_number : {kind object right : ℕ} (i : ℕ) {t : Triple} → triple_of (entry_numbered b i) ≡ t → For kind object right t
        → ((entry_numbered b i).kind ≡ kind) × ((entry_numbered b i).object ≡ object) × (within right (entry_numbered b i).rights ≡ true)
    for_number {right = right} i e f =
        (ap (λ k. k.kind) e ∙ f.kind_is, ap (λ k. k.object) e ∙ f.object_is, ap (λ k. within right k.rights) e ∙ f.has)

    small : (i : ℕ) → i < size_c b → (entry_numbered b i).rights < 8
    small i l = let r = (right_no i l).rights in omega arith

    -- a given triple for an object, with a right, is in the cells
    pub given-has : {c kind object right : ℕ} {t : Triple} (mask : ℕ) → Given c t → For kind object right t
        → (t.rights < 8 → In t.rights mask) → Has cells (number_of kind object) mask c
    given-has {kind = kind} {object = object} {t = t} mask g f h =
        let (k, o, w) = for_number g.number g.triple f in
        let same : (entry_numbered b g.number).rights ≡ t.rights = ap (λ u. u.rights) g.triple in
        let low = small g.number g.low in
        subst (λ d. Has cells (number_of kind object) mask d) g.domain
        (has g.number (number_of kind object) g.low (cc) (subst (λ u. In u mask) (sym same) (h (omega arith))))

    at_low : (m : ℕ) {c : ℕ} {t : Triple} {right : ℕ} → Given c t → For MAILBOX m right t → m < mailboxes
    at_low m g f = let (k, o, w) = for_number g.number g.triple f in go k o (numbered_no g.number g.low)
      where
        go : {n k o : ℕ} → k ≡ 2 → o ≡ m → Numbered k o n → m < mailboxes
        go k o (frame p q r) = absurd (omega arith)
        go k o (mailbox p q r) = omega arith
        go k o (bell p q r) = absurd (omega arith)

    mailbox-number : (m : ℕ) → number_of MAILBOX m ≡ mailbox_first + m
    mailbox-number m = sym (number-mailbox 2 m (λ e. omega arith) refl)

    pub could_got : {d : ℕ} {t : Triple} → CouldHold (image_of b) d t → Got d t
    could_got (image {e} m) =
        let (i, l, z) = member-entry b m in
        let low : e.domain < domains_most = let r = (right_at acc m).domain in let h = acc.domains in omega arith in
        record {
          from = e.domain;
          passes = own low;
          given = record { number = i; low = l; domain = ap (λ k. k.domain) (sym z); triple = ap (λ k. triple_of k) (sym z) };
        }
    could_got (passed {a} {b = d} {m} {g} {r} {t} x w n y h z) =
        let p = could_got x in
        let q = could_got y in
        let v = could_got z in
        let grants : Has cells (mailbox_first + m) granting p.from =
        subst (λ o. Has cells o granting p.from) (mailbox-number m)
        (given-has granting p.given w (λ l. of_both _ l w.has n.has)) in
        let reads : Has cells (mailbox_first + m) reading q.from =
        subst (λ o. Has cells o reading q.from) (mailbox-number m)
        (given-has reading q.given h (λ l. of_right READ reading reading_test _ l h.has)) in
        record { from = v.from; passes = on (at_low m p.given w) p.passes grants q.passes reads v.passes; given = v.given }

    -- ---- what the masks say

    module _ {rows : List ℕ} (reach : Reach cells rows) where
      -- the row of domain d meets the cell of entry i exactly where d could hold its triple
      pub meets_holds : (d i : ℕ) → i < size_c b → Meets (row rows d) (get_or cells (cell_of (triple_of (entry_numbered b i))) 0)
          → CouldHold (image_of b) d (triple_of (entry_numbered b i))
      meets_holds d i l m =
          let g = noted.told m.domain _ m.right in
          passes_could (reach.told d m.domain m.left)
          (record { number = g.number; low = g.low; domain = g.domain; triple = same-cell g.number i g.low l g.cell })

      pub holds_meets : (d i : ℕ) → CouldHold (image_of b) d (triple_of (entry_numbered b i))
          → Meets (row rows d) (get_or cells (cell_of (triple_of (entry_numbered b i))) 0)
      holds_meets d i h =
          let g = could_got h in
          record {
            domain = g.from;
            left = reach.every d g.from g.passes;
            right = subst (λ t. In g.from (get_or cells (cell_of t) 0)) g.given.triple
                (subst (λ c. In c (get_or cells (cell_of (triple_of (entry_numbered b g.given.number))) 0)) g.given.domain
                (noted.every g.given.number g.given.low));
          }

      -- those who use an object with rights of a mask could hold it with the right, and the other way round
      pub uses_could : {kind object a : ℕ} (right mask : ℕ) → ((x : ℕ) → x < 8 → In x mask → within right x ≡ true) → (o : ℕ) → Numbered kind object o
          → Uses cells rows o mask a → Could (image_of b) kind object right a
      uses_could {a = a} right mask h o n u =
          let f = had o u.has in
          let (k, w) = same_number (numbered_no f.number f.low) n f.object in
          record {
            triple = triple_of (entry_numbered b f.number);
            could = passes_could (reach.told a u.holder u.inside) (given_of f);
            fit = record { kind_is = k; object_is = w; has = h _ f.small f.rights };
          }

      pub could_uses : {kind object a : ℕ} (right mask : ℕ) → ((x : ℕ) → x < 8 → within right x ≡ true → In x mask)
          → Could (image_of b) kind object right a → Uses cells rows (number_of kind object) mask a
      could_uses {a = a} right mask h c =
          let g = could_got c.could in
          record {
            holder = g.from;
            inside = reach.every a g.from g.passes;
            has = given-has mask g.given c.fit (λ l. h _ l c.fit.has);
          }

      pub could-numbered : {kind object right a : ℕ} → Could (image_of b) kind object right a → Numbered kind object (number_of kind object)
      could-numbered {kind} {object} c =
          let g = (could_got c.could).given in
          let (k, o, w) = for_number g.number g.triple c.fit in
          let e = entry_numbered b g.number in
          subst (λ x. Numbered kind x (number_of kind x)) o (subst (λ x. Numbered x e.object (number_of x e.object)) k (numbered_no g.number g.low))
