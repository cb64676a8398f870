-- The contracts of SEND's and RECEIVE's checks: what goes along, what is taken, and how many places they visit, exactly, on any state.
-- Assumes nothing.
use Rattle.std.specs.Prelude.{◌≡◌, cond, not, ◌&&◌, ◌||◌, ℕ, ◌+◌, leb, Option, Some, None, Result, IfOk}
use Rattle.rules.specs.Sizes.{slots}
use Rattle.rules.specs.State.{State, MAILBOX, READ, WRITE, GRANT, within, slot, room, nothing}
use Rattle.rules.specs.Turn.{◌then◌else◌, held, holds, full, slot_for_refusal, goes, copied, moves}
use Rattle.rules.specs.declared.Message.{Message}
use Rattle.rules.specs.declared.Operation.{Operation}
use Rattle.rules.specs.Refusal.{status_of}
use Rattle.rules.specs.declared.Capability.{Capability}
use Rattle.rules.specs.declared.Effect.{Effect}
use Rattle.rules.specs.declared.Effect.TheVariants.{Take, Move}
use Rattle.rules.specs.declared.Refusal.{Refusal}
use Rattle.look.specs.Looks.{seen, unless}

-- the message of a SEND
abbrev pub message_of : Operation → ℕ → Message
message_of o badge = record { full = 1; badge = badge; w0 = o.third; w1 = o.fourth; w2 = o.fifth; w3 = o.sixth }

-- SEND by a capability with those rights looks at what goes along from slot c
unfoldable pub seen_along : ℕ → ℕ → ℕ
seen_along c rights = cond (goes c && within GRANT rights) 1 0

-- RECEIVE from mailbox m with argument t looks at the room, and at slot t where a capability is under way
unfoldable pub seen_taking : State → ℕ → ℕ → ℕ
seen_taking s m t = cond (goes t) (1 + cond (holds (s.capability (room m))) 1 0) 0

-- the checks of SEND's argument c, by a capability with those rights, after checks that came to e
abbrev pub checks_along : State → ℕ → ℕ → ℕ → ℕ → ℕ
checks_along s d c rights e =
    e then leb c slots else 2 then not (goes c) || within GRANT rights else 5 then not (goes c) || holds (held s d c) else 3

-- the checks of RECEIVE
abbrev pub checks_receive : State → ℕ → ℕ → ℕ → ℕ
checks_receive s d x t = slot_for_refusal s d x MAILBOX READ then leb t slots else 2 then full (s.message (held s d x).object) else 9

-- what goes along from slot c of domain d was looked up with those checks, its visits from before on
pub record Carries (r : Result Capability Refusal) (after : ℕ) (s : State) (d c rights before : ℕ) : Type 0 where
  pub refusal : status_of r ≡ checks_along s d c rights 0
  pub capability : IfOk r (λ x. x ≡ cond (goes c) (copied (held s d c) (slot d c)) nothing)
  pub visits : after ≡ before + seen_along c rights

-- where a RECEIVE by domain d from mailbox m with argument t moves what is under way was found, its visits from before on
pub record Moves (r : Option ℕ) (after : ℕ) (s : State) (d m t before : ℕ) : Type 0 where
  pub to : r ≡ cond (moves s d m t) (Some (slot d t)) None
  pub visits : after ≡ before + seen_taking s m t

-- what a RECEIVE from mailbox m does, where what is under way moves there, and its flag
abbrev pub effect_for : ℕ → Option ℕ → Effect
effect_for m (Some p) = Move m p
effect_for m None = Take m

abbrev pub flag_for : Option ℕ → ℕ
flag_for (Some p) = 1
flag_for None = 0

-- the visits of SEND, and of RECEIVE
unfoldable pub looks_send : State → ℕ → ℕ → ℕ → ℕ
looks_send s d x c = seen x + unless (slot_for_refusal s d x MAILBOX WRITE) (seen_along c (held s d x).rights)

unfoldable pub looks_receive : State → ℕ → ℕ → ℕ → ℕ
looks_receive s d x t = seen x + unless (checks_receive s d x t) (seen_taking s (held s d x).object t)
