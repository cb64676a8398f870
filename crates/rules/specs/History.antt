-- Every capability followed from its birth: at boot, by DERIVE or by SEND; RECEIVE moves it. A birth's parent is the capability that it
-- was made from, for ever, also after that one is gone. The statements; proofs/ has a proof of each under the same name in small letters.
-- Assumes nothing.
use Rattle.std.specs.Prelude.{◌≡◌, cond, List, ◌↔◌, ℕ, suc, eqb}
use Rattle.rules.specs.Sizes.{places}
use Rattle.rules.specs.State.{State, slot, room, whose, Holds, Derived}
use Rattle.rules.specs.Turn.{Name, IDLE, LOAD, STORE, DERIVE, DELETE, REVOKE, RING, HEAR, SEND, RECEIVE, LOOK, unknown, named, held, goes, set, answer, next}
use Rattle.rules.specs.Image.{Bytes, image_of, boot, refusal_of}
use Rattle.rules.specs.declared.Operation.{Operation}
use Rattle.rules.specs.declared.Answer.{Answer}

-- the record of births, numbered from 0: how many there were, each one's parent (0 for none, else its number + 1), and which birth's
-- capability stands at a place
pub record Ledger : Type 0 where
  pub births : ℕ
  pub parent : ℕ → ℕ
  pub name : ℕ → ℕ

-- a is a proper ancestor of b: its parent, its parent's parent, and so on
pub data Ancestor (parent : ℕ → ℕ) (a : ℕ) : ℕ → Type 0 where
  parent : {b : ℕ} → parent b ≡ suc a → Ancestor parent a b
  older : {b c : ℕ} → Ancestor parent a b → parent c ≡ suc b → Ancestor parent a c

-- at boot the capability at place p is birth p, and its parent is its source
unfoldable pub opened : State → Ledger
opened s = record { births = places; parent = λ p. (s.capability p).source; name = λ p. p }

-- a birth at a place, made from the capability at another; a capability moves to a place
unfoldable pub born : ℕ → ℕ → Ledger → Ledger
born to from l =
    record { births = suc l.births; parent = set l.parent l.births (suc (l.name from)); name = set l.name to l.births }

unfoldable pub moved : ℕ → ℕ → Ledger → Ledger
moved to from l = record { births = l.births; parent = l.parent; name = set l.name to (l.name from) }

-- what domain d's operation adds to the record, where it was not refused and answered a
unfoldable pub noted : State → ℕ → Name → Operation → Answer → Ledger → Ledger
noted s d IDLE o a l = l
noted s d LOAD o a l = l
noted s d STORE o a l = l
noted s d DERIVE o a l = born (slot d o.second) (slot d o.first) l
noted s d DELETE o a l = l
noted s d REVOKE o a l = l
noted s d RING o a l = l
noted s d HEAR o a l = l
noted s d SEND o a l = cond (goes o.second) (born (room (held s d o.first).object) (slot d o.second) l) l
noted s d RECEIVE o a l = cond (eqb a.w5 1) (moved (slot d o.second) (room (held s d o.first).object) l) l
noted s d LOOK o a l = l
noted s d unknown o a l = l

unfoldable pub recorded : State → Operation → Ledger → Ledger
recorded s o l = cond (eqb (answer s o).status 0) (noted s (whose s) (named o.number) o (answer s o) l) l

-- a reached state with the record of all births on the way to it
pub data Followed (b : List ℕ) : State → Ledger → Type 0 where
  booted : Bytes b → refusal_of b ≡ 0 → Followed b (boot (image_of b)) (opened (boot (image_of b)))
  turned : {s : State} {l : Ledger} → Followed b s l → (o : Operation) → Followed b (next s o) (recorded s o l)

-- in every reached state a place is derived from another exactly when the capability there is a proper ancestor of its own
abbrev pub DerivedIsAncestry : Type 0
DerivedIsAncestry = (b : List ℕ) (s : State) (l : Ledger) → Followed b s l → (p q : ℕ) → Holds s.capability p → Holds s.capability q
    → Derived s.capability p q ↔ Ancestor l.parent (l.name p) (l.name q)

-- so a REVOKE removes everything that ever came from slot s and is still there, whatever was deleted in between, and nothing else
abbrev pub RevokeByAncestry : Type 0
RevokeByAncestry = (b : List ℕ) (s : State) (l : Ledger) → Followed b s l → (o : Operation) → named o.number ≡ REVOKE
    → (answer s o).status ≡ 0 → (q : ℕ) → Holds s.capability q
    → (((next s o).capability q).kind ≡ 0) ↔ Ancestor l.parent (l.name (slot (whose s) o.first)) (l.name q)
