-- What the rows of flows say in the rules' words: they have exactly what may flow where. Assumes nothing.
use mathlib.Core.Path.{◌≡◌, refl, sym, ap, ◌∙◌, subst}
use mathlib.Core.List.{List}
use mathlib.Core.Logic.{◌⊎◌, inl, inr, ⊎_elim}
use Prim.Native.Nat.{ℕ, ◌-◌, ◌≤◌, ◌<◌}
use native.Mathlib.Omega.{arith}
use lib.ListN.{length}
use Rattle.rules.specs.Sizes.{domains_most}
use Rattle.rules.specs.State.{FRAME, MAILBOX, BELL, READ, WRITE}
use Rattle.rules.specs.Image.{Image, size_d, size_c, image_of, sourceless}
use Rattle.rules.specs.Flow.{Could, User, Case, frame, ringing, hearing, mailbox, derivation, Flow, itself, direct, onward}
use Rattle.rules.proofs.Places.{same?}
use Rattle.flow.specs.Masks.{In, row, Themselves}
use Rattle.flow.specs.Cells.{number_of, mailbox_first, bell_first, objects_all, entry_numbered, Accepted, Noted, Reach, reading, writing}
use Rattle.flow.specs.Edges.{Uses, Link, Source, Edge, Added, Chain, link, on, Closing, Whole}
use Rattle.flow.specs.Edges as edges
use Rattle.flow.proofs.Bits.{in_one, one_in}
use Rattle.flow.proofs.Reaching.{in_low}
use Rattle.flow.proofs.Entries.{entry-member, member-entry}
use Rattle.flow.proofs.Holding.{Numbered, reads_of, of_reads, writes_of, of_writes, uses_could, could_uses, could-numbered}

module _ {b cells rows : List ℕ} (acc : Accepted b) (noted : Noted b (size_c b) cells) (reach : Reach cells rows) where
  abbrev i : Image
  i = image_of b

  -- ---- readers and writers

  reader : {kind object a : ℕ} (o : ℕ) → Numbered kind object o → Uses cells rows o reading a → Could i kind object READ a
  reader o n u = uses_could acc noted reach READ reading reads_of o n u

  writer : {kind object a : ℕ} (o : ℕ) → Numbered kind object o → Uses cells rows o writing a → Could i kind object WRITE a
  writer o n u = uses_could acc noted reach WRITE writing writes_of o n u

  user : {kind object a : ℕ} (o : ℕ) → Numbered kind object o → Uses cells rows o writing a ⊎ Uses cells rows o reading a → User i kind object a
  user o n (inl u) = inl (writer o n u)
  user o n (inr u) = inr (reader o n u)

  -- ---- direct flow

  -- over an object there is one of the cases
  link_case : {o x y : ℕ} → o < objects_all → Link cells rows o x y → Case i x y
  link_case {o} l (edges.frame h u v) = frame (writer o (Numbered.frame refl h refl) u) (reader o (Numbered.frame refl h refl) v)
  link_case {o} l (edges.mailbox h k u v) = mailbox (user o here u) (user o here v)
    where
      here : Numbered MAILBOX (o - mailbox_first) o
      here = Numbered.mailbox refl (omega arith) (omega arith)
  link_case {o} {x} {y} l (edges.bell h u v) = go u
    where
      here : Numbered BELL (o - bell_first) o
      here = Numbered.bell refl (omega arith) (omega arith)

      go : Uses cells rows o writing x ⊎ Uses cells rows o reading x → Case i x y
      go (inl w) = ringing (writer o here w) (reader o here v)
      go (inr r) = hearing (reader o here r) (reader o here v)

  -- and for each case there is an object, or an entry
  frame-low : {f n : ℕ} → Numbered FRAME f n → n < mailbox_first
  frame-low (Numbered.frame e l z) = omega arith
  frame-low (Numbered.mailbox e l z) = absurd (omega arith)
  frame-low (Numbered.bell e l z) = absurd (omega arith)

  mailbox-low : {m n : ℕ} → Numbered MAILBOX m n → (mailbox_first ≤ n) × (n < bell_first)
  mailbox-low (Numbered.frame e l z) = absurd (omega arith)
  mailbox-low (Numbered.mailbox e l z) = (omega arith, omega arith)
  mailbox-low (Numbered.bell e l z) = absurd (omega arith)

  bell-low : {m n : ℕ} → Numbered BELL m n → (bell_first ≤ n) × (n < objects_all)
  bell-low (Numbered.frame e l z) = absurd (omega arith)
  bell-low (Numbered.mailbox e l z) = absurd (omega arith)
  bell-low (Numbered.bell e l z) = (omega arith, omega arith)

  abbrev Links : ℕ → ℕ → Type 0
  Links x y = Edge (Link cells rows) 0 objects_all x y

  numbered : {kind object right a : ℕ} → Could i kind object right a → Numbered kind object (number_of kind object)
  numbered c = could-numbered acc noted reach c

  reads : {kind object a : ℕ} → Could i kind object READ a → Uses cells rows (number_of kind object) reading a
  reads c = could_uses acc noted reach READ reading of_reads c

  writes : {kind object a : ℕ} → Could i kind object WRITE a → Uses cells rows (number_of kind object) writing a
  writes c = could_uses acc noted reach WRITE writing of_writes c

  uses : {kind object a : ℕ} → User i kind object a → Uses cells rows (number_of kind object) writing a ⊎ Uses cells rows (number_of kind object) reading a
  uses (inl w) = inl (writes w)
  uses (inr r) = inr (reads r)

  used : {kind object a : ℕ} → User i kind object a → Numbered kind object (number_of kind object)
  used (inl w) = numbered w
  used (inr r) = numbered r

  case_edge : {x y : ℕ} → Case i x y → Links x y ⊎ Edge (Source b) 0 (size_c b) x y
  case_edge (frame {f} w r) =
      let h = frame-low (numbered w) in
      inl (record { number = number_of FRAME f; least = omega arith; low = omega arith; edge = edges.frame h (writes w) (reads r) })
  case_edge (ringing {x} w r) =
      let (h, l) = bell-low (numbered w) in
      inl (record { number = number_of BELL x; least = omega arith; low = l; edge = edges.bell h (inl (writes w)) (reads r) })
  case_edge (hearing {x} w r) =
      let (h, l) = bell-low (numbered w) in
      inl (record { number = number_of BELL x; least = omega arith; low = l; edge = edges.bell h (inr (reads w)) (reads r) })
  case_edge (mailbox {m} u v) =
      let (h, l) = mailbox-low (used u) in
      inl (record { number = number_of MAILBOX m; least = omega arith; low = omega arith; edge = edges.mailbox h l (uses u) (uses v) })
  case_edge (derivation {e} m s) =
      let (k, l, z) = member-entry b m in
      inr (record {
        number = k;
        least = omega arith;
        low = l;
        edge = record { sourced = ap sourceless (sym z) ∙ s; from = ap (λ f. f.source_domain) (sym z); to = ap (λ f. f.domain) (sym z) };
      })

  -- ---- flow

  -- the domains of the image are as many as its first byte says
  domain-low : {x : ℕ} → x < i.domains → x < domains_most
  unfolding image_of
  domain-low l = let h = acc.domains in omega arith

  itself_of : {x : ℕ} → x < size_d b → Flow i x x
  unfolding image_of
  itself_of l = itself l

  -- a flow, or a domain and itself
  abbrev Maybe : ℕ → ℕ → Type 0
  Maybe x y = (x ≡ y) ⊎ Flow i x y

  case_flow : {x y : ℕ} → Case i x y → Maybe x y
  case_flow {x} {y} c = ⊎_elim (λ e. inl e) (λ n. inr (direct (record { different = n; because = c }))) (same? x y)

  then : {x y z : ℕ} → Maybe x y → Maybe y z → Maybe x z
  then {z = z} (inl e) g = subst (λ k. Maybe k z) (sym e) g
  then {x = x} (inr f) (inl e) = subst (Maybe x) e (inr f)
  then (inr f) (inr g) = inr (onward f g)

  module _ {start linked sourced closed : List ℕ} (t : Themselves start) (p : Added (Link cells rows) 0 objects_all start linked)
      (q : Added (Source b) 0 (size_c b) linked sourced) (r : Closing domains_most sourced closed) where
    before : (x y : ℕ) → In y (row sourced x) → Maybe x y
    before x y j =
        ⊎_elim
        (λ k. ⊎_elim
        (λ l. inl (sym (in_one y x (subst (In y) (t.itself x (in_low start x t.long l)) l))))
        (λ e. case_flow (link_case e.low e.edge)) (p.told x y k))
        (λ e. case_flow (source_case e.low e.edge)) (q.told x y j)
      where
        source_case : {k x y : ℕ} → k < size_c b → Source b k x y → Case i x y
        source_case {k} {x} {y} l s =
            subst (λ z. Case i z y) s.from (subst (Case i (entry_numbered b k).source_domain) s.to (derivation (entry-member b k l) s.sourced))

    chained : {x y : ℕ} → Chain sourced x y → Maybe x y
    chained (link j) = before _ _ j
    chained (on c d) = then (chained c) (chained d)

    from_flow : {x y : ℕ} → Flow i x y → In y (row closed x)
    from_flow (itself {a} l) =
        r.stays a a (q.stays a a (p.stays a a (subst (In a) (sym (t.itself a (domain-low l))) (one_in a))))
    from_flow (direct {a} {b = c} d) =
        ⊎_elim (λ e. r.stays a c (q.stays a c (p.every a c e))) (λ e. r.stays a c (q.every a c e)) (case_edge d.because)
    from_flow (onward {a} {b = k} {c} f g) =
        let j = from_flow g in
        r.closed k (in_low closed k long j) a c (from_flow f) j
      where
        long : length closed ≡ domains_most
        long = r.long ∙ (q.long ∙ (p.long ∙ t.long))

    pub whole_law : Whole b closed
    whole_law =
        record {
          long = r.long ∙ (q.long ∙ (p.long ∙ t.long));
          told = λ x y l j. ⊎_elim (λ e. subst (Flow i x) e (itself_of l)) (λ f. f) (chained (r.told x y j));
          every = λ x y f. from_flow f;
        }
