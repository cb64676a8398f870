-- The laws by which the ways through SEND's and RECEIVE's checks are the rules' ways, and of their visits. Assumes nothing.
use mathlib.Core.Path.{◌≡◌, refl, ap, ◌∙◌}
use mathlib.Core.Bool.{Bool, true, false, cond, ◌&&◌}
use mathlib.Core.List.{List}
use Prim.Native.Nat.{ℕ, ◌+◌, ◌≤◌, ◌<◌}
use native.Mathlib.Omega.{arith}
use lib.Dec.{ltb}
use lib.Bits.{bit_and}
use borrow.Author.Tests.{lt-ltb, le-ltb, eq-eqb, ne_eqb, ltb-true}
use Rattle.rules.specs.Sizes.{slots, mailboxes}
use Rattle.rules.specs.State.{State, MAILBOX, READ, WRITE, GRANT, within, slot, room}
use Rattle.rules.specs.Turn.{held, present, holds, slot_for_refusal, goes, moves, receive}
use Rattle.rules.specs.declared.Capability.{Capability}
use Rattle.rules.specs.declared.Message.{Message}
use Rattle.rules.specs.declared.Effect.TheVariants.{Take, Move}
use Rattle.layout.specs.Layout.{size, cells, of_cells, state_of}
use Rattle.rules.specs.Refusal.{number_of, status_of}
use Rattle.rules.specs.declared.Refusal.{Refusal}
use Rattle.look.specs.Looks.{Decides, Looks, seen}
use Rattle.look.proofs.Checks.{checks, is_refused}
use Rattle.look.proofs.Visits.{unless-refused, unless-done, one_most, seen_most, unless-most}
use Rattle.mail.specs.Mail.{Carries, Moves, effect_for, flag_for, seen_along, seen_taking, checks_along, checks_receive, looks_send, looks_receive}
use Rattle.std.specs.Prelude.{Option, Some, None, Result, Ok, Err}

-- a mailbox that holds a message is one of those that there are
pub full-low : (m : List ℕ) (b : ℕ) (g : Message) → (g.full ≡ 0 → ⊥) → g ≡ (state_of m).message b → b < mailboxes
unfolding state_of of_cells cells size
full-low m b g n e = go (ltb b mailboxes) refl
  where
    go : (t : Bool) → ltb b mailboxes ≡ t → b < mailboxes
    go true q = ltb-true b mailboxes q
    go false q = absurd (n (ap (λ y. y.full) e ∙ rw q))

-- the checks of SEND's argument c, after those of its slot, which holds k
pub carried : {r : Result Capability Refusal} {k : Capability} {s : State} {d x c v w u y : ℕ} → Looks (Ok k) w s d x (slot_for_refusal s d x MAILBOX WRITE) v
    → Carries r y s d c k.rights u → status_of r ≡ checks_along s d c (held s d x).rights (slot_for_refusal s d x MAILBOX WRITE)
carried l m = let h = l.capability in let i = l.refusal in let j = m.refusal in cc

-- ---- visits

module _ (v a : ℕ) where
  -- what goes along in a SEND

  pub along_no : (c r : ℕ) → slots ≤ c → v ≡ a → v ≡ a + seen_along c r
  unfolding seen_along
  along_no c r h e = rw (le-ltb c slots h) (omega arith)

  pub along_no_grant : (c r : ℕ) → (bit_and GRANT r ≡ GRANT → ⊥) → c < slots → v ≡ a → v ≡ a + seen_along c r
  unfolding seen_along within
  along_no_grant c r n h e = rw (lt-ltb c slots h, ne_eqb (bit_and GRANT r) GRANT n) (omega arith)

  pub along_yes : (c r : ℕ) → bit_and GRANT r ≡ GRANT → c < slots → v ≡ a + 1 → v ≡ a + seen_along c r
  unfolding seen_along within
  along_yes c r n h e = rw (lt-ltb c slots h, eq-eqb (bit_and GRANT r) GRANT n) e

  -- what RECEIVE takes; the capability under way is c

  module _ (s : State) (m t : ℕ) where
    pub taking_no : slots ≤ t → v ≡ a → v ≡ a + seen_taking s m t
    unfolding seen_taking
    taking_no h e = rw (le-ltb t slots h) (omega arith)

    pub taking_none : (c : Capability) → c.kind ≡ 0 → c ≡ s.capability (room m) → t < slots → v ≡ a + 1 → v ≡ a + seen_taking s m t
    unfolding seen_taking present
    taking_none c n g h e = rw (lt-ltb t slots h, ← g, eq-eqb c.kind 0 n) (omega arith)

    pub taking_yes : (c : Capability) → (c.kind ≡ 0 → ⊥) → c ≡ s.capability (room m) → t < slots → (u : ℕ) → u ≡ a + 1 → v ≡ u + 1 → v ≡ a + seen_taking s m t
    unfolding seen_taking present
    taking_yes c n g h u f e = rw (lt-ltb t slots h, ← g, ne_eqb c.kind 0 n) (omega arith)

-- what RECEIVE takes, by the ways of its code: t is no slot, nothing is under way, slot t holds something; and else it moves
module _ (s : State) (d m t : ℕ) where
  pub stays_no : slots ≤ t → moves s d m t ≡ false
  unfolding moves
  stays_no h = search checks

  pub stays_none : (c : Capability) → c.kind ≡ 0 → c ≡ s.capability (room m) → moves s d m t ≡ false
  unfolding moves
  stays_none c n g = search checks

  pub stays-full : (c : Capability) → (c.kind ≡ 0 → ⊥) → c ≡ held s d t → moves s d m t ≡ false
  unfolding moves
  stays-full c n g = search checks

  pub moves-there : (c a : Capability) → (c.kind ≡ 0 → ⊥) → c ≡ s.capability (room m) → t < slots → a.kind ≡ 0 → a ≡ held s d t
      → moves s d m t ≡ true
  unfolding moves
  moves-there c a n g h k e = search checks

  pub moves_no : {v before : ℕ} → moves s d m t ≡ false → v ≡ before + seen_taking s m t → Moves None v s d m t before
  moves_no e g = record { to = rw e; visits = g }

  pub moves_yes : {v before : ℕ} → moves s d m t ≡ true → v ≡ before + seen_taking s m t → Moves (Some (slot d t)) v s d m t before
  moves_yes e g = record { to = rw e; visits = g }

-- what RECEIVE does, by where what is under way moves to
module _ {r : Option ℕ} {s : State} {d m t v before : ℕ} (h : Moves r v s d m t before) where
  pub effect_taken : effect_for m r ≡ cond (moves s d m t) (Move m (slot d t)) (Take m)
  effect_taken = rw h.to (go (moves s d m t))
    where
      go : (b : Bool) → effect_for m (cond b (Some (slot d t)) None) ≡ cond b (Move m (slot d t)) (Take m)
      go true = refl
      go false = refl

  pub flag_taken : flag_for r ≡ cond (moves s d m t) 1 0
  flag_taken = rw h.to (go (moves s d m t))
    where
      go : (b : Bool) → flag_for (cond b (Some (slot d t)) None) ≡ cond b 1 0
      go true = refl
      go false = refl

-- ---- the operations, whose slot x was looked up

module _ {s : State} {d x before after : ℕ} where
  -- the slot is refused; and it holds k, and what goes along was looked up
  pub send-refused : (y : Refusal) (c : ℕ) → Looks (Err y) after s d x (slot_for_refusal s d x MAILBOX WRITE) before → after ≡ before + looks_send s d x c
  unfolding looks_send
  send-refused y c l =
      let a = l.visits in
      let u = unless-refused after (before + seen x) (seen_along c (held s d x).rights) y l.refusal a in
      omega arith

  pub send-seen : {k : Capability} {r : Result Capability Refusal} {c v : ℕ} → Looks (Ok k) after s d x (slot_for_refusal s d x MAILBOX WRITE) before
      → Carries r v s d c k.rights after → v ≡ before + looks_send s d x c
  unfolding looks_send
  send-seen {c = c} {v = v} l m =
      let a = l.visits in
      let g = m.visits in
      let h = ap (λ y. seen_along c y.rights) l.capability in
      let u = unless-done v (before + seen x) (seen_along c (held s d x).rights) l.refusal (omega arith) in
      omega arith

  pub receive-taken : {k : Capability} {r : Option ℕ} {t v : ℕ} → Looks (Ok k) after s d x (slot_for_refusal s d x MAILBOX READ) before → 0 ≡ checks_receive s d x t
      → Moves r v s d k.object t after → v ≡ before + looks_receive s d x t
  unfolding looks_receive
  receive-taken {t = t} {v} l q m =
      let a = l.visits in
      let g = m.visits in
      let h = ap (λ y. seen_taking s y.object t) l.capability in
      let u = unless-done v (before + seen x) (seen_taking s (held s d x).object t) q (omega arith) in
      omega arith

-- RECEIVE refused, after its slot was looked up
pub receive-refused : (s : State) (d x before after : ℕ) (y : Refusal) (t : ℕ) → number_of y ≡ checks_receive s d x t → after ≡ before + seen x
    → Decides (Err y) after (receive s d x t) before (looks_receive s d x t)
unfolding receive looks_receive
receive-refused s d x before after y t q a =
    is_refused _ _ _ y q
    (let u = unless-refused after (before + seen x) (seen_taking s (held s d x).object t) y q a in omega arith)

-- ---- at most

pub along-most : (c r : ℕ) → seen_along c r ≤ 1
unfolding seen_along
along-most c r = one_most (goes c && within GRANT r)

pub taking-most : (s : State) (m t : ℕ) → seen_taking s m t ≤ 2
unfolding seen_taking
taking-most s m t = go (goes t) (holds (s.capability (room m)))
  where
    go : (b h : Bool) → cond b (1 + cond h 1 0) 0 ≤ 2
    go true h = let l = one_most h in omega arith
    go false h = omega arith

pub send-most : (s : State) (d x c : ℕ) → looks_send s d x c ≤ 2
unfolding looks_send
send-most s d x c =
    let l = seen_most x in
    let k = unless-most (slot_for_refusal s d x MAILBOX WRITE) (seen_along c (held s d x).rights) in
    let h = along-most c (held s d x).rights in
    omega arith

pub receive-most : (s : State) (d x t : ℕ) → looks_receive s d x t ≤ 3
unfolding looks_receive
receive-most s d x t =
    let l = seen_most x in
    let k = unless-most (checks_receive s d x t) (seen_taking s (held s d x).object t) in
    let h = taking-most s (held s d x).object t in
    omega arith
