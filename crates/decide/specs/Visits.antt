-- How many places the checks of an operation visit, exactly, on any state: a slot that they look up is visited where its number is one,
-- and what comes after a refusal is not looked at. Assumes nothing.
use Rattle.std.specs.Prelude.{ℕ, ◌+◌, ltb}
use Rattle.rules.specs.Sizes.{frame_words}
use Rattle.rules.specs.State.{State, FRAME}
use Rattle.rules.specs.Turn.{◌then◌else◌, any_slot_refusal, slot_for_refusal, Name, IDLE, LOAD, STORE, DERIVE, DELETE, REVOKE, RING, HEAR, SEND, RECEIVE, LOOK, unknown}
use Rattle.rules.specs.declared.Operation.{Operation}
use Rattle.look.specs.Looks.{seen, unless}
use Rattle.mail.specs.Mail.{looks_send, looks_receive}

-- the checks of LOAD and STORE: slot x for a frame with that right, and w one of its words
abbrev pub word_for : State → ℕ → ℕ → ℕ → ℕ → ℕ
word_for s d x w right = slot_for_refusal s d x FRAME right then ltb w frame_words else 6

-- DERIVE looks at slot t besides, as SEND and RECEIVE look at more than their slot x
unfoldable pub looks_derive : State → ℕ → ℕ → ℕ → ℕ
looks_derive s d x t = seen x + unless (any_slot_refusal s d x) (seen t)

-- how many places the checks of domain d's operation visit
unfoldable pub looks : State → ℕ → Name → Operation → ℕ
looks s d IDLE o = 0
looks s d LOAD o = seen o.first
looks s d STORE o = seen o.first
looks s d DERIVE o = looks_derive s d o.first o.second
looks s d DELETE o = seen o.first
looks s d REVOKE o = seen o.first
looks s d RING o = seen o.first
looks s d HEAR o = seen o.first
looks s d SEND o = looks_send s d o.first o.second
looks s d RECEIVE o = looks_receive s d o.first o.second
looks s d LOOK o = seen o.first
looks s d unknown o = 0

-- and at most
abbrev pub looks_most : Name → ℕ
looks_most IDLE = 0
looks_most LOAD = 1
looks_most STORE = 1
looks_most DERIVE = 2
looks_most DELETE = 1
looks_most REVOKE = 1
looks_most RING = 1
looks_most HEAR = 1
looks_most SEND = 2
looks_most RECEIVE = 3
looks_most LOOK = 1
looks_most unknown = 0
