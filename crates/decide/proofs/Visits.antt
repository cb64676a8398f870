-- The laws of the visits of DERIVE's checks, and how many any operation's are at most. Assumes nothing.
use mathlib.Core.Path.{◌≡◌}
use Prim.Native.Nat.{ℕ, ◌+◌, ◌≤◌, ◌<◌}
use native.Mathlib.Omega.{arith}
use Rattle.rules.specs.Sizes.{slots}
use Rattle.rules.specs.State.{State}
use Rattle.rules.specs.Turn.{any_slot_refusal, Name, IDLE, LOAD, STORE, DERIVE, DELETE, REVOKE, RING, HEAR, SEND, RECEIVE, LOOK, unknown}
use Rattle.rules.specs.declared.Operation.{Operation}
use Rattle.look.specs.Looks.{Looks, seen}
use Rattle.rules.specs.declared.Capability.{Capability}
use Rattle.rules.specs.declared.Refusal.{Refusal}
use Rattle.std.specs.Prelude.{Ok, Err}
use Rattle.look.proofs.Visits.{seen_no, seen_yes, unless-refused, unless-done, seen_most, unless-most}
use Rattle.mail.proofs.Laws.{send-most, receive-most}
use Rattle.decide.specs.Visits.{looks_derive, looks, looks_most}

-- DERIVE's slot x was looked up
module _ {s : State} {d x before after : ℕ} where
  -- it was refused; it was not, and t is no slot; and it is one
  pub derive-refused : (y : Refusal) (t : ℕ) → Looks (Err y) after s d x (any_slot_refusal s d x) before → after ≡ before + looks_derive s d x t
  unfolding looks_derive
  derive-refused y t l = let a = l.visits in let u = unless-refused after (before + seen x) (seen t) y l.refusal a in omega arith

  pub derive_no : {k : Capability} (t : ℕ) → Looks (Ok k) after s d x (any_slot_refusal s d x) before → slots ≤ t → after ≡ before + looks_derive s d x t
  unfolding looks_derive
  derive_no t l h =
      let a = l.visits in
      let u = unless-done after (before + seen x) (seen t) l.refusal (seen_no _ _ t h a) in
      omega arith

  pub derive_yes : {k : Capability} (t v : ℕ) → Looks (Ok k) after s d x (any_slot_refusal s d x) before → t < slots → v ≡ after + 1 → v ≡ before + looks_derive s d x t
  unfolding looks_derive
  derive_yes t v l h g =
      let a = l.visits in
      let u = unless-done v (before + seen x) (seen t) l.refusal (seen_yes _ _ t h (omega arith)) in
      omega arith

pub looks-most : (s : State) (d : ℕ) (n : Name) (o : Operation) → looks s d n o ≤ looks_most n
unfolding looks looks_derive
looks-most s d IDLE o = omega arith
looks-most s d LOAD o = seen_most o.first
looks-most s d STORE o = seen_most o.first
looks-most s d DERIVE o =
    let l = seen_most o.first in
    let k = unless-most (any_slot_refusal s d o.first) (seen o.second) in
    let h = seen_most o.second in
    omega arith
looks-most s d DELETE o = seen_most o.first
looks-most s d REVOKE o = seen_most o.first
looks-most s d RING o = seen_most o.first
looks-most s d HEAR o = seen_most o.first
looks-most s d SEND o = send-most s d o.first o.second
looks-most s d RECEIVE o = receive-most s d o.first o.second
looks-most s d LOOK o = seen_most o.first
looks-most s d unknown o = omega arith
