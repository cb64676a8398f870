-- What SEND and RECEIVE do: a capability needs GRANT to go, a message has the badge of the slot that it was sent by, and one that is
-- there is received, whatever slot t holds, which leaves the mailbox empty. Assumes nothing.
use mathlib.Core.Path.{◌≡◌, refl, sym, ap, subst}
use mathlib.Core.Bool.{Bool, true, false, cond, not, ◌&&◌}
use Prim.Native.Nat.{ℕ, suc, ◌≤◌, ◌<◌}
use native.Mathlib.Omega.{arith}
use lib.Dec.{ltb}
use borrow.Author.Tests.{ltb-true, lt-ltb, le-leb, ne_eqb}
use Rattle.rules.specs.Sizes.{domains_most, slots}
use Rattle.rules.specs.State.{State, MAILBOX, READ, WRITE, GRANT, within, slot, room, no_message, whose}
use Rattle.rules.specs.Turn.{◌then◌else◌, held, present, holds, slot_for_refusal, conclude, send, moves, receive, RECEIVE, named, decided, decide, apply, advance, next, answer}
use Rattle.rules.specs.Authority.{SendNeedsGrant, SendBadge, Received}
use Rattle.rules.specs.declared.Operation.{Operation}
use Rattle.rules.specs.declared.Answer.{Answer}
use Rattle.rules.specs.declared.Effect.{Effect}
use Rattle.rules.specs.declared.Effect.TheVariants.{Take, Move}
use Rattle.rules.specs.declared.Decision.{Decision}
use Rattle.rules.proofs.Laws.{both, concluded_both, set_here}
use Rattle.rules.proofs.Places.{take_empties, move_empties}
use Rattle.rules.proofs.Always.{slot-room}

-- ---- SEND

-- a capability does not go without GRANT
ungranted : (s : State) (d x c w0 w1 w2 w3 : ℕ) → slot_for_refusal s d x MAILBOX WRITE ≡ 0 → c < slots → within GRANT (held s d x).rights ≡ false
    → (send s d x c w0 w1 w2 w3).answer.status ≡ 5
unfolding send conclude ◌then◌else◌
ungranted s d x c w0 w1 w2 w3 h l g = rw (h, le-leb c slots (omega arith), lt-ltb c slots l, g)

pub send_needs_grant : SendNeedsGrant
unfolding answer decide decided
send_needs_grant s o e h l g =
    subst (λ n. (decided s (whose s) n o).answer.status ≡ 5) (sym e)
    (ungranted s (whose s) o.first o.second o.third o.fourth o.fifth o.sixth h l g)

-- a decision to send leaves a message with badge b in mailbox m
abbrev Badged : State → ℕ → ℕ → Effect → Answer → Type 0
Badged s m b e a = a.status ≡ 0 → ((advance (apply s e)).message m).badge ≡ b

sent : (s : State) (d x c w0 w1 w2 w3 : ℕ)
    → let f = send s d x c w0 w1 w2 w3 in Badged s (held s d x).object (held s d x).badge f.effect f.answer
unfolding send advance apply
sent s d x c w0 w1 w2 w3 =
    concluded_both (Badged s (held s d x).object (held s d x).badge) _ _ _ (λ n z. absurd (let e : suc n ≡ 0 = z in omega arith))
    (λ h z. ap (λ g. g.badge) (set_here s.message (held s d x).object _))

pub send-badge : SendBadge
unfolding next answer decide decided
send-badge s o e =
    subst (λ n. let f = decided s (whose s) n o in Badged s (held s (whose s) o.first).object (held s (whose s) o.first).badge f.effect f.answer)
    (sym e) (sent s (whose s) o.first o.second o.third o.fourth o.fifth o.sixth)

-- ---- RECEIVE

-- what is not 0 is there
there : (n : ℕ) → (n ≡ 0 → ⊥) → present n ≡ true
unfolding present
there n h = ap not (ne_eqb n 0 h)

-- what a decision comes to
abbrev Empties : State → ℕ → Decision → Type 0
Empties s m c = Received (advance (apply s c.effect)) c.answer m

module _ (s : State) (d : ℕ) (below : d < domains_most) where
  emptied : (m t : ℕ) (a : Answer) → a.status ≡ 0 → (b : Bool) → moves s d m t ≡ b
      → Received (advance (apply s (cond b (Move m (slot d t)) (Take m)))) a m
  unfolding moves advance apply
  emptied m t a z true e =
      let (h, free) = both (holds (s.capability (room m)) && ltb t slots) _ e in
      let (under, range) = both (holds (s.capability (room m))) _ h in
      record {
        status = z;
        message = set_here s.message m no_message;
        under_way = move_empties s m (slot d t) (λ y. slot-room d t m below (ltb-true t slots range) (sym y));
      }
  emptied m t a z false e = record { status = z; message = set_here s.message m no_message; under_way = take_empties s m }

  received : (x t : ℕ) → slot_for_refusal s d x MAILBOX READ ≡ 0 → t ≤ slots → ((s.message (held s d x).object).full ≡ 0 → ⊥)
      → Empties s (held s d x).object (receive s d x t)
  unfolding receive conclude ◌then◌else◌
  received x t h k g = rw (h, le-leb t slots k, there _ g) (emptied (held s d x).object t _ refl _ refl)

-- RECEIVE by the domain whose turn it is
pub receive-empty : (s : State) → whose s < domains_most → (o : Operation) → named o.number ≡ RECEIVE
    → slot_for_refusal s (whose s) o.first MAILBOX READ ≡ 0 → o.second ≤ slots
    → ((s.message (held s (whose s) o.first).object).full ≡ 0 → ⊥)
    → Received (next s o) (answer s o) (held s (whose s) o.first).object
unfolding next answer decide decided
receive-empty s below o e h k g =
    subst (λ n. Empties s (held s (whose s) o.first).object (decided s (whose s) n o)) (sym e) (received s (whose s) below _ _ h k g)
