-- What a licensed effect asks of memory: its places are places, its objects are there, its visits are within the limit.
-- Assumes nothing.
use mathlib.Core.Path.{◌≡◌, refl, sym, ap, ◌∙◌, subst}
use mathlib.Core.Bool.{Bool, true, false, cond}
use mathlib.Core.List.{List}
use Prim.Native.Nat.{ℕ, ◌+◌, ◌-◌, ◌*◌, ◌≤◌, ◌<◌}
use native.Mathlib.Omega.{arith}
use lib.Bits.{bit_or}
use Rattle.rules.specs.Sizes.{domains_most, all_slots, places, mailboxes, bells, frame_words}
use Rattle.rules.specs.State.{State, slot, nothing, no_message, objects, Section4, Formed, Sound}
use Rattle.rules.specs.Turn.{held, load, store, derive, delete, revoke, ring, hear, send, moves, receive, look, Name, IDLE, LOAD, STORE, DERIVE, DELETE, REVOKE, RING, HEAR, SEND, RECEIVE, LOOK, unknown, decided, apply}
use Rattle.rules.specs.declared.Capability.{Capability}
use Rattle.rules.specs.declared.Message.{Message}
use Rattle.rules.specs.declared.Operation.{Operation}
use Rattle.rules.specs.declared.Effect.{Effect}
use Rattle.rules.specs.declared.Effect.TheVariants.{Nothing, Store, Ring, Hush, Put, Drop, Prune, Post, Take, Move}
use Rattle.rules.proofs.Laws.{concluded}
use Rattle.rules.proofs.Licence.{Owns, Licence, nothing-done, stores, rings, hushes, puts, drops, prunes, posts, sends, takes, gets}
use Rattle.layout.specs.Layout.{state_of}
use Rattle.layout.specs.Stored.{Stored, placed, worded, belled, mailed}
use Rattle.layout.proofs.Stores.{stored-nothing, stored_then}
use Rattle.tree.specs.Tree.{places_of, dropping, pruning, drop_visits, prune_visits}
use Rattle.tree.specs.Sweeps.{PruneVisits}
use Rattle.turn.specs.Turned.{Named, Fitting, Applied}
use Rattle.turn.specs.Visits.{cost, allowed}

-- the places that a licensed effect names are slots of its domain
pub licensed_named : {s : State} {d : ℕ} {e : Effect} → d < domains_most → Licence s d e → Named e
licensed_named h nothing-done = tt
licensed_named h (stores o l) = tt
licensed_named h (rings o) = tt
licensed_named h (hushes o) = tt
licensed_named h (puts r o g l) = let i = g.in_range in omega arith
licensed_named h (drops o) = let i = o.in_range in omega arith
licensed_named h (prunes o) = let i = o.in_range in omega arith
licensed_named h (posts o z) = tt
licensed_named h (sends o g a z) = tt
licensed_named h (takes o) = tt
licensed_named h (gets o u g) = let i = g.in_range in omega arith

module _ {s : State} (f : Formed s) where
  -- the object of a capability that d owns is there
  owned : {d x k r : ℕ} → Owns s d x k r → (held s d x).object < objects s.frames k
  owned {d} {x} o = subst (λ k. (held s d x).object < objects s.frames k) o.kind_is (f.capability (slot d x) o.has.there).object

  pub licensed_fitting : {d : ℕ} {e : Effect} → Section4 s.capability → d < domains_most → Licence s d e → Fitting s e
  unfolding objects
  licensed_fitting q h nothing-done = tt
  licensed_fitting q h (stores o l) = (owned o, l)
  licensed_fitting q h (rings o) = owned o
  licensed_fitting q h (hushes o) = owned o
  licensed_fitting q h (puts r o g l) = let i = g.in_range in omega arith
  licensed_fitting q h (drops o) = let i = o.in_range in omega arith
  licensed_fitting q h (prunes o) = (f, q)
  licensed_fitting q h (posts o z) = owned o
  licensed_fitting q h (sends o g a z) = owned o
  licensed_fitting q h (takes o) = owned o
  licensed_fitting q h (gets o u g) = owned o

-- how many visits the effect of an operation of that name may take
unfoldable pub most : Name → ℕ
most IDLE = 0
most LOAD = 0
most STORE = 0
most DERIVE = 1
most DELETE = places + 2
most REVOKE = places * places + (places - 1)
most RING = 0
most HEAR = 0
most SEND = 1
most RECEIVE = 3
most LOOK = 0
most unknown = 0

module _ (s : State) (d : ℕ) where
  pub cheap : (n : Name) (o : Operation) → cost (decided s d n o).effect ≤ most n
  unfolding most decided load store derive delete revoke ring hear send receive look
  cheap IDLE o = concluded (λ e. cost e ≤ 0) _ _ _ (omega arith) (λ h. omega arith)
  cheap LOAD o = concluded (λ e. cost e ≤ 0) _ _ _ (omega arith) (λ h. omega arith)
  cheap STORE o = concluded (λ e. cost e ≤ 0) _ _ _ (omega arith) (λ h. omega arith)
  cheap DERIVE o = concluded (λ e. cost e ≤ 1) _ _ _ (omega arith) (λ h. omega arith)
  cheap DELETE o = concluded (λ e. cost e ≤ places + 2) _ _ _ (omega arith) (λ h. omega arith)
  cheap REVOKE o = concluded (λ e. cost e ≤ places * places + (places - 1)) _ _ _ (omega arith) (λ h. omega arith)
  cheap RING o = concluded (λ e. cost e ≤ 0) _ _ _ (omega arith) (λ h. omega arith)
  cheap HEAR o = concluded (λ e. cost e ≤ 0) _ _ _ (omega arith) (λ h. omega arith)
  cheap SEND o = concluded (λ e. cost e ≤ 1) _ _ _ (omega arith) (λ h. omega arith)
  cheap RECEIVE o = concluded (λ e. cost e ≤ 3) _ _ _ (omega arith) (λ h. either (moves s d (held s d o.first).object o.second))
    where
      either : (t : Bool) → cost (cond t (Move (held s d o.first).object (slot d o.second)) (Take (held s d o.first).object)) ≤ 3
      either true = omega arith
      either false = omega arith
  cheap LOOK o = concluded (λ e. cost e ≤ 0) _ _ _ (omega arith) (λ h. omega arith)
  cheap unknown o = concluded (λ e. cost e ≤ 0) _ _ _ (omega arith) (λ h. omega arith)

-- ---- what the code of each effect did

-- an object that there is not: nothing is stored
pub applied_none : {m : List ℕ} {before b : ℕ} {g : Message} {c : Capability} → mailboxes ≤ b → Applied m (Post b g c) m before before
applied_none h = record { stored = stored-nothing (λ o. omega arith); within = omega arith; counted = λ o. absurd (omega arith); still = absurd }

pub applied_no_move : {m : List ℕ} {before b p : ℕ} → mailboxes ≤ b → Applied m (Move b p) m before before
applied_no_move h = record { stored = stored-nothing (λ o. omega arith); within = omega arith; counted = λ o. absurd (omega arith); still = absurd }

module _ {m n : List ℕ} {before : ℕ} where
  pub applied_store : {f w v : ℕ} → Stored ((f < (state_of m).frames) × (w < frame_words)) (worded f w v) m n → Applied m (Store f w v) n before before
  unfolding worded apply
  applied_store s = record { stored = s; within = omega arith; counted = λ o. omega arith; still = absurd }

  pub applied_ring : {b v badge : ℕ} → v ≡ bit_or ((state_of m).bell b) badge → Stored (b < bells) (belled b v) m n → Applied m (Ring b badge) n before before
  unfolding belled apply
  applied_ring {b} e s =
      record {
        stored = record { long = s.long; frames = s.frames; behind = s.behind; exact = λ o. s.exact o ∙ ap (λ x. belled b x (state_of m)) e };
        within = omega arith;
        counted = λ o. omega arith;
        still = absurd;
      }

  pub applied_hush : {b : ℕ} → Stored (b < bells) (belled b 0) m n → Applied m (Hush b) n before before
  unfolding belled apply
  applied_hush s = record { stored = s; within = omega arith; counted = λ o. omega arith; still = absurd }

  pub applied_put : {p r : ℕ} {c : Capability} → Stored (p < places) (placed p c) m n → r ≡ before + 1 → Applied m (Put p c) n before r
  unfolding placed apply
  applied_put s e = record { stored = s; within = omega arith; counted = λ o. e; still = absurd }

  pub applied_post : {o : List ℕ} {b r : ℕ} {g : Message} {c : Capability} → b < mailboxes → Stored (all_slots + b < places) (placed (all_slots + b) c) m o
      → Stored (b < mailboxes) (mailed b g) o n → r ≡ before + 1 → Applied m (Post b g c) n before r
  unfolding placed mailed apply
  applied_post h s t e =
      let u = stored_then s t in
      record {
        stored = record { long = u.long; frames = u.frames; behind = u.behind; exact = λ k. u.exact (omega arith, k) };
        within = omega arith;
        counted = λ o. e;
        still = absurd;
      }

  pub applied_take : {b r : ℕ} → Applied m (Post b no_message nothing) n before r → Applied m (Take b) n before r
  unfolding apply
  applied_take a = record { stored = a.stored; within = a.within; counted = a.counted; still = absurd }

  pub applied_move : {o : List ℕ} {b p seen mid r : ℕ} {c : Capability} → b < mailboxes → p < places → c ≡ (state_of m).capability (all_slots + b)
      → seen ≡ before + 1 → Applied m (Take b) o seen mid → Stored (p < places) (placed p c) o n → r ≡ mid + 1 → Applied m (Move b p) n before r
  unfolding placed apply
  applied_move {b = b} {p} h l e g a s f =
      let u = stored_then a.stored s in
      let w = a.within in
      let taken = a.counted h in
      record {
        stored = record { long = u.long; frames = u.frames; behind = u.behind; exact = λ k. u.exact (k, l) ∙ ap (λ x. placed p x (apply (state_of m) (Take b))) e };
        within = omega arith;
        counted = λ o. omega arith;
        still = absurd;
      }

-- nothing, and the sweeps
pub applied_nothing : {m : List ℕ} {before : ℕ} → Applied m Nothing m before before
unfolding apply
applied_nothing = record { stored = record { long = refl; frames = refl; behind = λ k h. refl; exact = λ o. refl }; within = omega arith; counted = λ o. omega arith; still = λ i. refl }

pub applied_drop : {m n : List ℕ} {before p r : ℕ} → r ≡ before + drop_visits → Stored (p < places) (dropping p) m n → Applied m (Drop p) n before r
unfolding dropping apply
applied_drop e s = record { stored = s; within = omega arith; counted = λ o. e; still = absurd }

pub applied_prune : {m n : List ℕ} {before p r : ℕ} → r ≤ before + prune_visits → Stored (Sound (state_of m)) (pruning p) m n → PruneVisits (places_of m) p before r → Applied m (Prune p) n before r
unfolding pruning apply
applied_prune e s v =
    record {
      stored = record { long = s.long; frames = s.frames; behind = s.behind; exact = λ o. s.exact (record { formed = o.0; section4 = o.1 }) };
      within = omega arith;
      counted = λ o. v;
      still = absurd;
    }

-- ---- in an arm, the effect is known

pub applied_on : {e f : Effect} {m n : List ℕ} {before r : ℕ} → e ≡ f → Applied m f n before r → Applied m e n before r
applied_on {m = m} {n = n} {before = before} {r = r} q a = subst (λ x. Applied m x n before r) (sym q) a

pub named_on : {e f : Effect} → e ≡ f → Named e → Named f
named_on q h = subst (λ x. Named x) q h

pub allowed_on : {e f : Effect} {k : ℕ} → e ≡ f → k ≤ allowed e → k ≤ allowed f
allowed_on {k = k} q h = subst (λ x. k ≤ allowed x) q h
