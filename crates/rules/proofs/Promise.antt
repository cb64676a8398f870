-- The promise of document 03, section 3: two runs of one image go side by side, each domain in L with the same answers. One induction
-- carries that the states look the same to L, the tie of both, and the answers so far. Assumes nothing.
use mathlib.Core.Path.{◌≡◌, refl, sym, ap, ap₂, ◌∙◌, subst, subst₂}
use mathlib.Core.Bool.{Bool, true, false, cond}
use mathlib.Core.List.{List, ◌∷◌, Memᴰ}
use mathlib.Core.Logic.{◌⊎◌, inl, inr}
use Prim.Native.Nat.{ℕ, zero, suc, ◌<◌}
use native.Mathlib.Nat.{le_trans}
use borrow.Author.Tests.{eqb-true}
use Rattle.rules.specs.Sizes.{domains_most, slots}
use Rattle.rules.specs.State.{State, slot, nothing, whose}
use Rattle.rules.specs.Turn.{decide, set, apply, advance, next, answer}
use Rattle.rules.specs.Image.{Bytes, Entry, Image, image_of, place_of, sourceless, source_of, capability_given, given, boot, defines, refusal_of}
use Rattle.rules.specs.Flow.{Case, Closed, derivation}
use Rattle.rules.specs.Authority.{Reached, booted, turned}
use Rattle.rules.specs.Partition.{Programs, Run, chosen, stepped, run, Agree, Promise}
use Rattle.rules.specs.declared.Decision.{Decision}
use Rattle.rules.proofs.Laws.{both, decided_by, not_both, passes}
use Rattle.rules.proofs.Licence.{licensed}
use Rattle.rules.proofs.Formed.{whose-low}
use Rattle.rules.proofs.Given.{some_at, Entered, given_either, FormRight, form-right}
use Rattle.rules.proofs.Bootable.{accepted_exactly}
use Rattle.rules.proofs.Confinement.{could}
use Rattle.rules.proofs.Reached.{formed_always, confinement}
use Rattle.rules.proofs.View.{Alike, set_both, Seen, View, Tied, Tie, Able, view_refl, view_carried, advanced, ours_slot, seen-slot, drawn}
use Rattle.rules.proofs.Inside.{same-decision, inside-kept}
use Rattle.rules.proofs.Outside.{untied, tied_to, tie_kept, outside}
use Rattle.rules.proofs.Table.{turns_by_table}

-- ---- boot

-- the tie holds at boot, since L has the domain of an entry's source with the entry's own
boot_tie : (b : List ℕ) → refusal_of b ≡ 0 → (L : ℕ → Bool) → Closed (image_of b) L → Tie (image_of b) L (boot (image_of b)).capability
unfolding boot refusal_of capability_given source_of defines
boot_tie b h L closed q seen = by (given_either (image_of b).entries q)
  where
    form : FormRight b
    form = form-right b (passes _ _ 25 h).0

    low : (e : Entry) → Memᴰ e (image_of b).entries → (e.domain < domains_most) × (e.slot < slots)
    low e m = let r = form.entry e m in (le_trans r.domain form.domains.1, r.slot)

    source : (e : Entry) → Memᴰ e (image_of b).entries → q ≡ place_of e → (x : Bool) → sourceless e ≡ x
        → Tied L (cond x 0 (suc (slot e.source_domain e.source_slot)))
    source e m p true n = untied
    source e m p false n =
        let (f, k, t) = some_at (defines e) _ (((accepted_exactly b (passes _ _ 25 h).0).0 h).defined m n) in
        let (domain, place) = both _ _ t in
        let inside = seen-slot e.domain (low e m).0 (low e m).1 (subst (Seen (image_of b) L) p seen) in
        tied_to
        (ours_slot (subst (λ a. a < domains_most) (eqb-true _ _ domain) (low f k).0) (subst (λ a. a < slots) (eqb-true _ _ place) (low f k).1)
        (drawn (image_of b) L closed _ {R = Case (image_of b) e.source_domain} (λ a c. c)
        (record { domain = e.domain; inside = inside; does = derivation m n })))

    by : (given (image_of b).entries q ≡ nothing) ⊎ Entered (image_of b).entries q → Tied L (given (image_of b).entries q).source
    by (inl n) = rw n untied
    by (inr k) = let (e, m, p, c) = k in rw c (source e m p _ refl)

-- ---- two runs, one turn

-- two runs as far as they have come: they look the same to L, and its domains have had the same answers
record Together (i : Image) (L : ℕ → Bool) (r r' : Run) : Type 0 where
  pub view : View i L r.state r'.state
  pub left : Tie i L r.state.capability
  pub right : Tie i L r'.state.capability
  pub past : Alike (λ d. L d ≡ true) r.past r'.past

-- what domain d comes to in a run
abbrev comes : Programs → Run → ℕ → Decision
comes P r d = decide r.state d (P d (r.past d))

-- a turn of a run, which is domain d's
turn-of : Programs → Run → ℕ → Run
turn-of P r d =
    record { state = advance (apply r.state (comes P r d).effect); past = set r.past d ((comes P r d).answer ∷ r.past d) }

turn_is : (P : Programs) (r : Run) {d : ℕ} → whose r.state ≡ d → stepped P r ≡ turn-of P r d
unfolding turn-of stepped chosen next answer
turn_is P r e = ap (turn-of P r) e

module _ (i : Image) (L : ℕ → Bool) (closed : Closed i L) (P Q : Programs) (agree : Agree L P Q) (r r' : Run) (d : ℕ) (below : d < domains_most)
    (able : Able i r.state d) (able' : Able i r'.state d) (runs : Together i L r r') where
  -- in L: the same operation, so the same decision
  same : L d ≡ true → comes P r d ≡ comes Q r' d
  same h =
      same-decision i L r.state r'.state d below able runs.view h _
      ∙ ap₂ (λ p l. decide r'.state d (p l)) (agree d h) (runs.past d h)

  viewed : (L d ≡ true) ⊎ (L d ≡ false) → View i L (apply r.state (comes P r d).effect) (apply r'.state (comes Q r' d).effect)
  viewed (inl h) =
      subst (λ c. View i L (apply r.state (comes P r d).effect) (apply r'.state c.effect)) (same h)
      (inside-kept i L r.state r'.state d below able runs.view h runs.left (licensed r.state d _))
  viewed (inr h) =
      view_carried runs.view (outside i L closed r.state d below able runs.left h (licensed r.state d _))
      (outside i L closed r'.state d below able' runs.right h (licensed r'.state d _))

  heard : (L d ≡ true) ⊎ (L d ≡ false) → L d ≡ true → (comes P r d).answer ∷ r.past d ≡ (comes Q r' d).answer ∷ r'.past d
  heard (inl h) k = ap₂ (λ c l. c.answer ∷ l) (same h) (runs.past d h)
  heard (inr h) k = absurd (not_both k h)

  one_turn : Together i L (turn-of P r d) (turn-of Q r' d)
  unfolding turn-of advance
  one_turn =
      record {
        view = advanced (viewed (decided_by (L d)));
        left = tie_kept i L closed r.state d below able runs.left (licensed r.state d _);
        right = tie_kept i L closed r'.state d below able' runs.right (licensed r'.state d _);
        past = set_both (λ j x y. L j ≡ true → x ≡ y) runs.past (heard (decided_by (L d)));
      }

-- ---- the promise

reached : (b : List ℕ) → Bytes b → refusal_of b ≡ 0 → (P : Programs) (n : ℕ) → Reached b (run (image_of b) P n).state
unfolding run stepped
reached b y h P zero = booted y h
reached b y h P (suc n) = turned (reached b y h P n) _

-- what the domain whose turn it is holds, it could hold
able : {b : List ℕ} {s : State} → Reached b s → Able (image_of b) s (whose s)
able {b} {s} r x k m o = let f = formed_always b s r in could (image_of b) f (confinement b s r) (whose s) (whose-low f) o

-- two runs of one image, with programs that agree on a closed set
together : (b : List ℕ) → Bytes b → refusal_of b ≡ 0 → (L : ℕ → Bool) → Closed (image_of b) L → (P Q : Programs) → Agree L P Q
    → (n : ℕ) → Together (image_of b) L (run (image_of b) P n) (run (image_of b) Q n)
unfolding run
together b y h L closed P Q agree zero =
    let tie = boot_tie b h L closed in
    record { view = view_refl _; left = tie; right = tie; past = λ d k. refl }
together b y h L closed P Q agree (suc n) =
    let r = reached b y h P n in
    let e = turns_by_table b y h Q n ∙ sym (turns_by_table b y h P n) in
    let f = formed_always b _ r in
    subst₂ (Together (image_of b) L) (sym (turn_is P _ refl)) (sym (turn_is Q _ e))
    (one_turn (image_of b) L closed P Q agree _ _ _ (le_trans (whose-low f) f.domains.1) (able r)
    (subst (Able (image_of b) _) e (able (reached b y h Q n))) (together b y h L closed P Q agree n))

-- different programs outside a closed set change nothing that it can see
pub promise : Promise
promise b y h L closed P Q agree n = (together b y h L closed P Q agree n).past
