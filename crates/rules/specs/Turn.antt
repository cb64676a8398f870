-- Document 01, section 3: a turn. The checks of an operation read the state and give an effect and an answer; the effect is then
-- performed without any check. Assumes nothing.
use Rattle.std.specs.Prelude.{Bool, true, false, cond, not, ◌&&◌, ◌||◌, List, [], ◌∷◌, ℕ, zero, suc, eqb, leb, ltb, length, get_or}
use Rattle.std.specs.Int.Bits.{bit_and, bit_or}
use Rattle.rules.specs.Sizes.{slots, frame_words, badge_most}
use Rattle.rules.specs.State.{State, Places, FRAME, MAILBOX, BELL, READ, WRITE, GRANT, within, slot, room, nothing, no_message, whose, derived_from}
use Rattle.rules.specs.declared.Capability.{Capability}
use Rattle.rules.specs.declared.Message.{Message}
use Rattle.rules.specs.declared.Operation.{Operation}
use Rattle.rules.specs.declared.Answer.{Answer}
use Rattle.rules.specs.declared.Effect.{Effect}
use Rattle.rules.specs.declared.Effect.TheVariants.{Nothing, Store, Ring, Hush, Put, Drop, Prune, Post, Take, Move}
use Rattle.rules.specs.declared.Decision.{Decision}

infixl 20 ◌then◌else◌
-- checks in order, "test, else refusal n": the first refusal stands
unfoldable pub ◌then◌else◌ : ℕ → Bool → ℕ → ℕ
◌then◌else◌ zero true n = zero
◌then◌else◌ zero false n = n
◌then◌else◌ (suc e) test n = suc e

-- slot x of domain d
abbrev pub held : State → ℕ → ℕ → Capability
held s d x = s.capability (slot d x)

-- 0 is nothing: a capability is there, a mailbox holds a message
unfoldable pub present : ℕ → Bool
present n = not (eqb n 0)

abbrev pub holds : Capability → Bool
holds c = present c.kind

abbrev pub full : Message → Bool
full g = present g.full

-- "slot x, any kind"
unfoldable pub any_slot_refusal : State → ℕ → ℕ → ℕ
any_slot_refusal s d x = 0 then ltb x slots else 2 then holds (held s d x) else 3

-- "slot x for kind k with right r"
unfoldable pub slot_for_refusal : State → ℕ → ℕ → ℕ → ℕ → ℕ
slot_for_refusal s d x k r = any_slot_refusal s d x then eqb (held s d x).kind k else 4 then within r (held s d x).rights else 5

-- an answer with status 0 and its six words
abbrev pub words : ℕ → ℕ → ℕ → ℕ → ℕ → ℕ → Answer
words a b c d e f = record { status = 0; w0 = a; w1 = b; w2 = c; w3 = d; w4 = e; w5 = f }

-- the words of an answer are all 0 after a refusal
abbrev pub refusal : ℕ → Answer
refusal n = record { status = n; w0 = 0; w1 = 0; w2 = 0; w3 = 0; w4 = 0; w5 = 0 }

-- where no check refused, the effect and the answer; a refusal leaves everything as it was
unfoldable pub conclude : ℕ → Effect → Answer → Decision
conclude zero f a = record { effect = f; answer = a }
conclude (suc e) f a = record { effect = Nothing; answer = refusal (suc e) }

-- ---- the operations: first their checks, then effect and answer

unfoldable pub load : State → ℕ → ℕ → ℕ → Decision
load s d x w =
    conclude (slot_for_refusal s d x FRAME READ then ltb w frame_words else 6)
    Nothing (words (s.word (held s d x).object w) 0 0 0 0 0)

unfoldable pub store : State → ℕ → ℕ → ℕ → ℕ → Decision
store s d x w v =
    conclude (slot_for_refusal s d x FRAME WRITE then ltb w frame_words else 6)
    (Store (held s d x).object w v) (words 0 0 0 0 0 0)

-- what DERIVE puts: kind and object of c, the rights that are in both c and r, the badge of c if that isn't 0, else b
unfoldable pub derived : Capability → ℕ → ℕ → ℕ → Capability
derived c place r b =
    record {
      kind = c.kind;
      rights = bit_and c.rights r;
      object = c.object;
      badge = cond (eqb c.badge 0) b c.badge;
      source = suc place;
    }

unfoldable pub derive : State → ℕ → ℕ → ℕ → ℕ → ℕ → Decision
derive s d x t r b =
    conclude (any_slot_refusal s d x then ltb t slots else 2 then not (holds (held s d t)) else 7 then leb b badge_most else 6)
    (Put (slot d t) (derived (held s d x) (slot d x) r b)) (words 0 0 0 0 0 0)

unfoldable pub delete : State → ℕ → ℕ → Decision
delete s d x = conclude (any_slot_refusal s d x) (Drop (slot d x)) (words 0 0 0 0 0 0)

unfoldable pub revoke : State → ℕ → ℕ → Decision
revoke s d x = conclude (any_slot_refusal s d x) (Prune (slot d x)) (words 0 0 0 0 0 0)

unfoldable pub ring : State → ℕ → ℕ → Decision
ring s d x = conclude (slot_for_refusal s d x BELL WRITE) (Ring (held s d x).object (held s d x).badge) (words 0 0 0 0 0 0)

unfoldable pub hear : State → ℕ → ℕ → Decision
hear s d x = conclude (slot_for_refusal s d x BELL READ) (Hush (held s d x).object) (words (s.bell (held s d x).object) 0 0 0 0 0)

-- a copy of capability c, with its place as source
unfoldable pub copied : Capability → ℕ → Capability
copied c place = record { kind = c.kind; rights = c.rights; object = c.object; badge = c.badge; source = suc place }

-- argument c names a slot whose capability goes along: c <= 63
abbrev pub goes : ℕ → Bool
goes c = ltb c slots

unfoldable pub send : State → ℕ → ℕ → ℕ → ℕ → ℕ → ℕ → ℕ → Decision
send s d x c w0 w1 w2 w3 =
    conclude (slot_for_refusal s d x MAILBOX WRITE
    then leb c slots else 2
    then not (goes c) || within GRANT (held s d x).rights else 5
    then not (goes c) || holds (held s d c) else 3
    then not (full (s.message (held s d x).object)) else 8)
    (Post (held s d x).object (record { full = 1; badge = (held s d x).badge; w0 = w0; w1 = w1; w2 = w2; w3 = w3 })
    (cond (goes c) (copied (held s d c) (slot d c)) nothing))
    (words 0 0 0 0 0 0)

-- a capability is under way in mailbox m, t is a slot and it is empty
unfoldable pub moves : State → ℕ → ℕ → ℕ → Bool
moves s d m t = holds (s.capability (room m)) && ltb t slots && not (holds (held s d t))

unfoldable pub receive : State → ℕ → ℕ → ℕ → Decision
receive s d x t =
    let m = (held s d x).object in
    let g = s.message m in
    conclude (slot_for_refusal s d x MAILBOX READ then leb t slots else 2 then full g else 9)
    (cond (moves s d m t) (Move m (slot d t)) (Take m))
    (words g.badge g.w0 g.w1 g.w2 g.w3 (cond (moves s d m t) 1 0))

unfoldable pub look : State → ℕ → ℕ → Decision
look s d x =
    let c = held s d x in
    conclude (any_slot_refusal s d x) Nothing (words c.kind c.rights c.object c.badge 0 0)

-- the operations, in the order of their numbers; any other number is unknown
pub data Name : Type 0 where
  IDLE LOAD STORE DERIVE DELETE REVOKE RING HEAR SEND RECEIVE LOOK unknown : Name

unfoldable pub named : ℕ → Name
named n = get_or (IDLE ∷ LOAD ∷ STORE ∷ DERIVE ∷ DELETE ∷ REVOKE ∷ RING ∷ HEAR ∷ SEND ∷ RECEIVE ∷ LOOK ∷ []) n unknown

-- what domain d's operation o comes to; unused arguments are ignored
unfoldable pub decided : State → ℕ → Name → Operation → Decision
decided s d IDLE o = conclude 0 Nothing (words 0 0 0 0 0 0)
decided s d LOAD o = load s d o.first o.second
decided s d STORE o = store s d o.first o.second o.third
decided s d DERIVE o = derive s d o.first o.second o.third o.fourth
decided s d DELETE o = delete s d o.first
decided s d REVOKE o = revoke s d o.first
decided s d RING o = ring s d o.first
decided s d HEAR o = hear s d o.first
decided s d SEND o = send s d o.first o.second o.third o.fourth o.fifth o.sixth
decided s d RECEIVE o = receive s d o.first o.second
decided s d LOOK o = look s d o.first
decided s d unknown o = conclude 1 Nothing (words 0 0 0 0 0 0)

unfoldable pub decide : State → ℕ → Operation → Decision
decide s d o = decided s d (named o.number) o

-- ---- the effects

-- f, but v at i
unfoldable pub set : {A : Type 0} → (ℕ → A) → ℕ → A → ℕ → A
set f i v j = cond (eqb j i) v (f j)

-- whatever had place p as its source gets p's source instead; then p is empty
unfoldable pub dropped : Places → ℕ → Places
dropped at p q =
    let c = at q in
    cond (eqb q p) nothing
    (record {
      kind = c.kind;
      rights = c.rights;
      object = c.object;
      badge = c.badge;
      source = cond (eqb c.source (suc p)) (at p).source c.source;
    })

-- every place derived from place p is empty
unfoldable pub pruned : Places → ℕ → Places
pruned at p q = cond (derived_from at p q) nothing (at q)

-- the state with other places, words, bells and messages; with other places and messages; with other places
abbrev pub changed : State → Places → (ℕ → ℕ → ℕ) → (ℕ → ℕ) → (ℕ → Message) → State
changed s at words bells messages =
    record {
      domains = s.domains;
      frames = s.frames;
      turns = s.turns;
      position = s.position;
      capability = at;
      word = words;
      bell = bells;
      message = messages;
    }

abbrev pub with_mail : State → Places → (ℕ → Message) → State
with_mail s at messages = changed s at s.word s.bell messages

abbrev pub with_places : State → Places → State
with_places s at = with_mail s at s.message

unfoldable pub apply : State → Effect → State
apply s Nothing = s
-- word w of the frame becomes v
apply s (Store f w v) = changed s s.capability (set s.word f (set (s.word f) w v)) s.bell s.message
-- the bell's number becomes its bitwise or with the badge
apply s (Ring b badge) = changed s s.capability s.word (set s.bell b (bit_or (s.bell b) badge)) s.message
-- the bell's number becomes 0
apply s (Hush b) = changed s s.capability s.word (set s.bell b 0) s.message
apply s (Put p c) = with_places s (set s.capability p c)
apply s (Drop p) = with_places s (dropped s.capability p)
apply s (Prune p) = with_places s (pruned s.capability p)
-- the mailbox holds the message and the capability under way
apply s (Post m g c) = with_mail s (set s.capability (room m) c) (set s.message m g)
-- the mailbox is empty
apply s (Take m) = with_mail s (set s.capability (room m) nothing) (set s.message m no_message)
-- the capability under way moves to place p with its source unchanged; the mailbox is empty
apply s (Move m p) =
    with_mail s (set (set s.capability (room m) nothing) p (s.capability (room m))) (set s.message m no_message)

-- ---- the turn

-- the position moves on by one, from the last to the first
unfoldable pub advance : State → State
advance s =
    record {
      domains = s.domains;
      frames = s.frames;
      turns = s.turns;
      position = cond (eqb (suc s.position) (length s.turns)) 0 (suc s.position);
      capability = s.capability;
      word = s.word;
      bell = s.bell;
      message = s.message;
    }

-- the domain whose number stands at the current position performs one operation; then the position moves on
unfoldable pub next : State → Operation → State
next s o = advance (apply s (decide s (whose s) o).effect)

unfoldable pub answer : State → Operation → Answer
answer s o = (decide s (whose s) o).answer

-- a sequence of turns: the state after it, and the answers in order
unfoldable pub after : State → List Operation → State
after s [] = s
after s (o ∷ os) = after (next s o) os

unfoldable pub answers : State → List Operation → List Answer
answers s [] = []
answers s (o ∷ os) = answer s o ∷ answers (next s o) os
