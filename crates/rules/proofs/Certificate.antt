-- A certificate bounds what may flow where, document 03: a list of what each domain could hold, closed under rule 2, and a table that has
-- the flow from each domain to itself and each direct flow, and is transitive. Computed tests check it. Assumes nothing.
use mathlib.Core.Path.{◌≡◌, refl, sym, ◌∙◌}
use mathlib.Core.Bool.{Bool, true, false, cond, ◌&&◌}
use mathlib.Core.List.Memᴰ
use mathlib.Core.List.{List, [], ◌∷◌, Memᴰ}
use mathlib.Core.Logic.{◌⊎◌, inl, inr}
use Prim.Native.Nat.{ℕ, zero, suc, ◌<◌}
use native.Mathlib.Omega.{arith}
use lib.Dec.{eqb, ltb}
use borrow.Author.Tests.{ltb-true, eqb-true, eqb-false, eq-eqb}
use Rattle.rules.specs.State.{FRAME, MAILBOX, BELL, READ, WRITE, GRANT, within}
use Rattle.rules.specs.Image.{Entry, Image, sourceless, all, some, all_below}
use Rattle.rules.specs.Flow.{Triple, triple_of, For, CouldHold, image, passed, Could, User, Case, frame, ringing, hearing, mailbox, derivation, Flow, itself, direct, onward}
use Rattle.rules.proofs.Laws.{both, decided_by}
use Rattle.rules.proofs.Given.{all_at, some_at}

-- ---- the certificate

-- a domain, and a triple that it could hold
pub record Held : Type 0 where
  pub domain : ℕ
  pub triple : Triple

-- what an entry gives to its domain
abbrev pub entry_held : Entry → Held
entry_held e = record { domain = e.domain; triple = triple_of e }

-- both are one domain with one triple
unfoldable pub same : Held → Held → Bool
same x y =
    eqb x.domain y.domain && eqb x.triple.kind y.triple.kind
    && eqb x.triple.object y.triple.object && eqb x.triple.rights y.triple.rights

-- both are for one object of that kind, the first with the one right, the second with the other
unfoldable pub meet : ℕ → ℕ → ℕ → Triple → Triple → Bool
meet kind r q x y =
    eqb x.kind kind && within r x.rights && eqb y.kind kind && eqb y.object x.object && within q y.rights

-- rule 2: where g has a mailbox with WRITE and GRANT and r the same with READ, every triple of g's domain is listed for r's domain too
unfoldable pub passed_on : List Held → Held → Held → Bool
passed_on hs g r =
    let too : Held → Bool = λ t. some (same (record { domain = r.domain; triple = t.triple })) hs in
    let rest = all (λ t. cond (eqb t.domain g.domain) (too t) true) hs in
    cond (meet MAILBOX WRITE READ g.triple r.triple && within GRANT g.triple.rights) rest true

-- the table has a flow from those with the one right for an object of that kind to those with the other
unfoldable pub channel : List Held → (ℕ → ℕ → Bool) → ℕ → ℕ → ℕ → Bool
channel hs M kind r q = all (λ x. all (λ y. cond (meet kind r q x.triple y.triple) (M x.domain y.domain) true) hs) hs

-- the table has a flow from the domain of the entry's source, if it has one, to the domain of the entry
unfoldable pub sourced : Image → (ℕ → ℕ → Bool) → Entry → Bool
sourced i M e = cond (sourceless e) true (ltb e.source_domain i.domains && M e.source_domain e.domain)

-- the rights of writers and of readers
abbrev pub uses : List ℕ
uses = WRITE ∷ READ ∷ []

-- the tests that a list of what is held and a table pass
pub record Certified (i : Image) (hs : List Held) (M : ℕ → ℕ → Bool) : Type 0 where
  -- what the image gives and what is passed on is listed, for domains of the image
  pub entries : all (λ e. some (same (entry_held e)) hs) i.entries ≡ true
  pub passing : all (λ g. all (passed_on hs g) hs) hs ≡ true
  pub low : all (λ x. ltb x.domain i.domains) hs ≡ true
  -- the table has each case of direct flow
  pub frames : channel hs M FRAME WRITE READ ≡ true
  pub bells_rung : channel hs M BELL WRITE READ ≡ true
  pub bells_heard : channel hs M BELL READ READ ≡ true
  pub mailboxes : all (λ r. all (channel hs M MAILBOX r) uses) uses ≡ true
  pub derivations : all (sourced i M) i.entries ≡ true
  -- the table has each domain to itself, and is transitive
  pub reflexive : all_below i.domains (λ a. M a a) ≡ true
  pub transitive : all_below i.domains
      (λ a. all_below i.domains (λ b. all_below i.domains (λ c. cond (M a b && M b c) (M a c) true))) ≡ true

-- ---- what the tests say

-- a test that passes at each number below n passes at any of them
pub below_at : (f : ℕ → Bool) (n : ℕ) → all_below n f ≡ true → (a : ℕ) → a < n → f a ≡ true
unfolding all_below
below_at f zero h a l = absurd (omega arith)
below_at f (suc n) h a l = go (decided_by (eqb a n)) (both (f n) _ h).0 (below_at f n (both (f n) _ h).1 a)
  where
    go : (eqb a n ≡ true) ⊎ (eqb a n ≡ false) → f n ≡ true → (a < n → f a ≡ true) → f a ≡ true
    go (inl e) t u = rw (eqb-true a n e) t
    go (inr e) t u = u (let d = eqb-false a n e in omega arith)

-- what passes the test is the same
same_true : (x y : Held) → same x y ≡ true → x ≡ y
unfolding same
same_true x y h =
    let (h3, r) = both _ _ h in
    let (h2, o) = both _ _ h3 in
    let (d, k) = both _ _ h2 in
    let domain : x.domain ≡ y.domain = eqb-true _ _ d in
    let kind : x.triple.kind ≡ y.triple.kind = eqb-true _ _ k in
    let object : x.triple.object ≡ y.triple.object = eqb-true _ _ o in
    let rights : x.triple.rights ≡ y.triple.rights = eqb-true _ _ r in
    λ j. record { domain = domain j; triple = record { kind = kind j; object = object j; rights = rights j } }

-- what is listed by the test is in the list
listed : {h : Held} (hs : List Held) → some (same h) hs ≡ true → Memᴰ h hs
listed {h} hs t = let (x, m, e) = some_at (same h) hs t in Memᴰ.cast (same_true h x e) m

-- triples for one object with the two rights pass the test
meet_of : {kind object r q : ℕ} {x y : Triple} → For kind object r x → For kind object q y → meet kind r q x y ≡ true
unfolding meet
meet_of f g =
    rw (eq-eqb _ _ f.kind_is, f.has, eq-eqb _ _ g.kind_is, eq-eqb _ _ (g.object_is ∙ sym f.object_is), g.has)

-- a writer or reader has one of the two rights
used : {i : Image} {kind object a : ℕ} → User i kind object a → (r : ℕ) × Memᴰ r uses × Could i kind object r a
used (inl w) = (WRITE, Memᴰ.head refl, w)
used (inr r) = (READ, Memᴰ.tail (Memᴰ.head refl), r)

-- ---- what a certificate bounds

-- the table has a flow from a to b, and both are domains of the image
pub record Bounded (i : Image) (M : ℕ → ℕ → Bool) (a b : ℕ) : Type 0 where
  pub told : M a b ≡ true
  pub from_low : a < i.domains
  pub to_low : b < i.domains

module _ {i : Image} {hs : List Held} {M : ℕ → ℕ → Bool} (c : Certified i hs M) where
  -- what a domain could hold is listed
  pub could-listed : {a : ℕ} {t : Triple} → CouldHold i a t → Memᴰ (record { domain = a; triple = t }) hs
  unfolding passed_on
  could-listed (image m) = listed hs (all_at _ m c.entries)
  could-listed (passed {a} {b} {g} {r} {t} pg w n pr d pt) =
      let e = all_at _ (could-listed pr) (all_at _ (could-listed pg) c.passing) in
      listed hs (rw (eq-eqb a a refl) at (all_at _ (could-listed pt) (rw (meet_of w d, n.has) at e)))

  -- a domain that could hold a triple is a domain of the image
  could-low : {a : ℕ} {t : Triple} → CouldHold i a t → a < i.domains
  could-low h = ltb-true _ _ (all_at (λ x. ltb x.domain i.domains) (could-listed h) c.low)

  -- what the table has for two rights bounds the domains that could hold them
  through : {kind object r q a b : ℕ} → channel hs M kind r q ≡ true → Could i kind object r a → Could i kind object q b
      → Bounded i M a b
  unfolding channel
  through h x y =
      let t = all_at _ (could-listed y.could) (all_at _ (could-listed x.could) h) in
      record { told = rw (meet_of x.fit y.fit) at t; from_low = could-low x.could; to_low = could-low y.could }

  -- where there is direct flow the table has it
  pub case_bounded : {a b : ℕ} → Case i a b → Bounded i M a b
  unfolding sourced
  case_bounded (frame w r) = through c.frames w r
  case_bounded (ringing w r) = through c.bells_rung w r
  case_bounded (hearing x y) = through c.bells_heard x y
  case_bounded (mailbox x y) =
      let (r, m, v) = used x in
      let (q, n, w) = used y in
      through (all_at _ n (all_at _ m c.mailboxes)) v w
  case_bounded (derivation {e} m n) =
      let (l, t) = both _ _ (rw n at (all_at (sourced i M) m c.derivations)) in
      record { told = t; from_low = ltb-true _ _ l; to_low = could-low (image m) }

  -- where there is flow the table has it
  pub flow_bounded : {a b : ℕ} → Flow i a b → Bounded i M a b
  flow_bounded (itself {a} l) = record { told = below_at (λ a. M a a) _ c.reflexive a l; from_low = l; to_low = l }
  flow_bounded (direct d) = case_bounded d.because
  flow_bounded (onward {a} {b} {c = d} f g) =
      let x = flow_bounded f in
      let y = flow_bounded g in
      let t = below_at _ _ (below_at _ _ (below_at _ _ c.transitive a x.from_low) b x.to_low) d y.to_low in
      record { told = rw (x.told, y.told) at t; from_low = x.from_low; to_low = y.to_low }
