-- What licenses an effect: the checks of document 01, section 3, walked once. Whatever an operation of domain d does in state s, d
-- holds the capabilities for it. Invariants go by cases on licences and never on checks. Assumes nothing.
use mathlib.Core.Path.{◌≡◌, refl, ap}
use mathlib.Core.Bool.{Bool, true, false, cond, not, ◌||◌}
use Prim.Native.Nat.{ℕ, ◌≤◌, ◌<◌}
use borrow.Author.Tests.{ltb-true, leb-true, eqb-true}
use Rattle.rules.specs.Sizes.{slots, frame_words, badge_most}
use Rattle.rules.specs.State.{State, FRAME, MAILBOX, BELL, READ, WRITE, GRANT, within, slot, room, nothing, whose, Holds}
use Rattle.rules.specs.Turn.{◌then◌else◌, held, holds, any_slot_refusal, slot_for_refusal, load, store, derived, derive, delete, revoke, ring, hear, copied, goes, send, moves, receive, look, Name, IDLE, LOAD, STORE, DERIVE, DELETE, REVOKE, RING, HEAR, SEND, RECEIVE, LOOK, unknown, named, decided, decide, apply, advance, next, answer}
use Rattle.rules.specs.Authority.{RefusalLeaves}
use Rattle.rules.specs.declared.Capability.{Capability}
use Rattle.rules.specs.declared.Operation.{Operation}
use Rattle.rules.specs.declared.Effect.{Effect}
use Rattle.rules.specs.declared.Effect.TheVariants.{Nothing, Store, Ring, Hush, Put, Drop, Prune, Post, Take, Move}
use Rattle.rules.proofs.Laws.{both, passes, Leaves, leaves, concluded, present-true, present-false}

-- slot x of domain d holds a capability
pub record Has (s : State) (d x : ℕ) : Type 0 where
  pub in_range : x < slots
  pub there : Holds s.capability (slot d x)

-- slot x of domain d holds a capability of that kind with that right
pub record Owns (s : State) (d x kind right : ℕ) : Type 0 where
  pub has : Has s d x
  pub kind_is : (held s d x).kind ≡ kind
  pub can : within right (held s d x).rights ≡ true

-- slot t of domain d is empty
pub record Free (s : State) (d t : ℕ) : Type 0 where
  pub in_range : t < slots
  pub free : (held s d t).kind ≡ 0

pub data Licence (s : State) (d : ℕ) : Effect → Type 0 where
  nothing-done : Licence s d Nothing
  stores : {x w v : ℕ} → Owns s d x FRAME WRITE → w < frame_words → Licence s d (Store (held s d x).object w v)
  rings : {x : ℕ} → Owns s d x BELL WRITE → Licence s d (Ring (held s d x).object (held s d x).badge)
  hushes : {x : ℕ} → Owns s d x BELL READ → Licence s d (Hush (held s d x).object)
  puts : {x t b : ℕ} (r : ℕ) → Has s d x → Free s d t → b ≤ badge_most → Licence s d (Put (slot d t) (derived (held s d x) (slot d x) r b))
  drops : {x : ℕ} → Has s d x → Licence s d (Drop (slot d x))
  prunes : {x : ℕ} → Has s d x → Licence s d (Prune (slot d x))
  posts : {x w0 w1 w2 w3 : ℕ} → Owns s d x MAILBOX WRITE → (s.message (held s d x).object).full ≡ 0
      → Licence s d (Post (held s d x).object (record { full = 1; badge = (held s d x).badge; w0 = w0; w1 = w1; w2 = w2; w3 = w3 }) nothing)
  sends : {x c w0 w1 w2 w3 : ℕ} → Owns s d x MAILBOX WRITE → within GRANT (held s d x).rights ≡ true → Has s d c
      → (s.message (held s d x).object).full ≡ 0
      → Licence s d (Post (held s d x).object (record { full = 1; badge = (held s d x).badge; w0 = w0; w1 = w1; w2 = w2; w3 = w3 })
      (copied (held s d c) (slot d c)))
  takes : {x : ℕ} → Owns s d x MAILBOX READ → Licence s d (Take (held s d x).object)
  gets : {x t : ℕ} → Owns s d x MAILBOX READ → Holds s.capability (room (held s d x).object) → Free s d t
      → Licence s d (Move (held s d x).object (slot d t))

-- the checks of any_slot_refusal, of whether x is a slot and what it holds
abbrev pub any_slot_row : Bool → Capability → ℕ
any_slot_row g c = 0 then g else 2 then holds c else 3

module _ (s : State) (d : ℕ) where
  pub has : (x : ℕ) → any_slot_refusal s d x ≡ 0 → Has s d x
  unfolding any_slot_refusal
  has x h =
      let (e, t) = passes _ _ 2 h in
      record { in_range = ltb-true x slots (passes 0 _ 1 e).1; there = present-true _ t }

  pub owns : (x k r : ℕ) → slot_for_refusal s d x k r ≡ 0 → Owns s d x k r
  unfolding slot_for_refusal
  owns x k r h =
      let (e, t) = passes _ _ 4 h in
      let (f, u) = passes _ _ 3 e in
      record { has = has x f; kind_is = eqb-true _ _ u; can = t }

  sent : (x c w0 w1 w2 w3 : ℕ) (g : Bool) → goes c ≡ g → Owns s d x MAILBOX WRITE
      → (not g || within GRANT (held s d x).rights) ≡ true → (not g || holds (held s d c)) ≡ true
      → (s.message (held s d x).object).full ≡ 0
      → Licence s d (Post (held s d x).object (record { full = 1; badge = (held s d x).badge; w0 = w0; w1 = w1; w2 = w2; w3 = w3 })
      (cond g (copied (held s d c) (slot d c)) nothing))
  sent x c w0 w1 w2 w3 true e o g h f = sends o g (record { in_range = ltb-true c slots e; there = present-true _ h }) f
  sent x c w0 w1 w2 w3 false e o g h f = posts o f

  received : (x t : ℕ) (b : Bool) → moves s d (held s d x).object t ≡ b → Owns s d x MAILBOX READ
      → Licence s d (cond b (Move (held s d x).object (slot d t)) (Take (held s d x).object))
  unfolding moves
  received x t true e o =
      let (h, f) = both _ _ e in
      let (r, i) = both _ _ h in
      gets o (present-true _ r) (record { in_range = ltb-true t slots i; free = present-false _ f })
  received x t false e o = takes o

  pub by_name : (n : Name) (o : Operation) → Licence s d (decided s d n o).effect
  unfolding decided load store derive delete revoke ring hear send receive look
  by_name IDLE o = concluded (Licence s d) _ _ _ nothing-done (λ h. nothing-done)
  by_name LOAD o = concluded (Licence s d) _ _ _ nothing-done (λ h. nothing-done)
  by_name STORE o =
      concluded (Licence s d) _ _ _ nothing-done
      (λ h. let (e, t) = passes _ _ 5 h in stores (owns _ _ _ e) (ltb-true _ _ t))
  by_name DERIVE o =
      concluded (Licence s d) _ _ _ nothing-done
      (λ h.
      let (e, t) = passes _ _ 5 h in
      let (f, u) = passes _ _ 6 e in
      let (g, i) = passes _ _ 1 f in
      puts _ (has _ g) (record { in_range = ltb-true _ _ i; free = present-false _ u }) (leb-true _ _ t))
  by_name DELETE o = concluded (Licence s d) _ _ _ nothing-done (λ h. drops (has _ h))
  by_name REVOKE o = concluded (Licence s d) _ _ _ nothing-done (λ h. prunes (has _ h))
  by_name RING o = concluded (Licence s d) _ _ _ nothing-done (λ h. rings (owns _ _ _ h))
  by_name HEAR o = concluded (Licence s d) _ _ _ nothing-done (λ h. hushes (owns _ _ _ h))
  by_name SEND o =
      concluded (Licence s d) _ _ _ nothing-done
      (λ h.
      let (e, t) = passes _ _ 7 h in
      let (f, u) = passes _ _ 2 e in
      let (g, v) = passes _ _ 4 f in
      let (i, w) = passes _ _ 1 g in
      sent _ o.second _ _ _ _ _ refl (owns _ _ _ i) v u (present-false _ t))
  by_name RECEIVE o =
      concluded (Licence s d) _ _ _ nothing-done
      (λ h.
      let (e, t) = passes _ _ 8 h in
      let (f, u) = passes _ _ 1 e in
      received _ o.second _ refl (owns _ _ _ f))
  by_name LOOK o = concluded (Licence s d) _ _ _ nothing-done (λ h. nothing-done)
  by_name unknown o = concluded (Licence s d) _ _ _ nothing-done (λ h. nothing-done)

  -- whatever operation domain d performs, its effect is licensed
  pub licensed : (o : Operation) → Licence s d (decide s d o).effect
  unfolding decide
  licensed o = by_name (named o.number) o

-- ---- refusals

leaves_by_name : (s : State) (d : ℕ) (n : Name) (o : Operation) → Leaves (decided s d n o)
unfolding decided load store derive delete revoke ring hear send receive look
leaves_by_name s d IDLE o = leaves _ _ _ refl
leaves_by_name s d LOAD o = leaves _ _ _ refl
leaves_by_name s d STORE o = leaves _ _ _ refl
leaves_by_name s d DERIVE o = leaves _ _ _ refl
leaves_by_name s d DELETE o = leaves _ _ _ refl
leaves_by_name s d REVOKE o = leaves _ _ _ refl
leaves_by_name s d RING o = leaves _ _ _ refl
leaves_by_name s d HEAR o = leaves _ _ _ refl
leaves_by_name s d SEND o = leaves _ _ _ refl
leaves_by_name s d RECEIVE o = leaves _ _ _ refl
leaves_by_name s d LOOK o = leaves _ _ _ refl
leaves_by_name s d unknown o = leaves _ _ _ refl

-- a refusal leaves everything but the position as it was, and the words of its answer are all 0
pub refusal_leaves : RefusalLeaves
unfolding next answer decide apply
refusal_leaves s o h =
    let (e, a) = leaves_by_name s (whose s) (named o.number) o h in
    (ap (λ x. advance (apply s x)) e, a)

-- what an effect needs of the places and mailboxes that it fills or empties
abbrev pub Need : State → Effect → Type 0
Need s Nothing = Unit {0}
Need s (Store f w v) = Unit {0}
Need s (Ring b v) = Unit {0}
Need s (Hush b) = Unit {0}
Need s (Put p c) = (s.capability p).kind ≡ 0
Need s (Drop p) = Holds s.capability p
Need s (Prune p) = Holds s.capability p
Need s (Post m g c) = (s.message m).full ≡ 0
Need s (Take m) = Unit {0}
Need s (Move m p) = ((s.capability p).kind ≡ 0) × Holds s.capability (room m)

pub needed : {s : State} {d : ℕ} {e : Effect} → Licence s d e → Need s e
needed nothing-done = tt
needed (stores o l) = tt
needed (rings o) = tt
needed (hushes o) = tt
needed (puts r o g l) = g.free
needed (drops o) = o.there
needed (prunes o) = o.there
needed (posts o z) = z
needed (sends o g a z) = z
needed (takes o) = tt
needed (gets o u g) = (g.free, u)
