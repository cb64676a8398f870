-- What holds of every reached state, from the image on: sections 1, 2 and 4 of document 01, what REVOKE, DELETE and RECEIVE do, and
-- confinement.
-- Assumes nothing.
use mathlib.Core.Path.{◌≡◌, refl, sym, subst}
use mathlib.Core.Bool.{Bool, true, false, cond}
use mathlib.Core.List.{List, Memᴰ}
use Prim.Native.Nat.{ℕ, suc, ◌<◌}
use native.Mathlib.Omega.{arith}
use native.Mathlib.Nat.{le_trans}
use lib.Dec.{eqb}
use lib.ListN.{length}
use borrow.Author.Tests.{eqb-false}
use Rattle.rules.specs.State.{State, slot, room, whose, Formed, Sound}
use Rattle.rules.specs.Turn.{advance, next}
use Rattle.rules.specs.Image.{Bytes, Entry, Image, refusal_of, image_of, capability_given, given, boot}
use Rattle.rules.specs.Flow.{triple_of, image}
use Rattle.rules.specs.Authority.{Reached, booted, turned, Section4Always, FormedAlways, NeverMore, RevokeExactly, DeleteKeeps, ReusedIsFresh, ReceiveEmpties, Covered, Confined, Confinement}
use Rattle.rules.specs.declared.Operation.{Operation}
use Rattle.rules.proofs.Laws.{passes, within-refl}
use Rattle.rules.proofs.Licence.{licensed}
use Rattle.rules.proofs.Section4.{never_more_than}
use Rattle.rules.proofs.Always.{section4-kept}
use Rattle.rules.proofs.Formed.{formed-kept, whose-low}
use Rattle.rules.proofs.Given.{given_from, FormRight, form-right}
use Rattle.rules.proofs.Bootable.{held_below, boot-section4, boot-formed}
use Rattle.rules.proofs.Revoke.{revoked, revoking, deleted, deleting, fresh}
use Rattle.rules.proofs.Mail.{receive-empty}
use Rattle.rules.proofs.Confinement.{confined-next}

-- what an entry gives, its domain could hold
entry_covered : (i : Image) (e : Entry) → Memᴰ e i.entries → Covered i e.domain (capability_given e)
unfolding capability_given
entry_covered i e m = record { triple = triple_of e; could = image m; kind = refl; object = refl; rights = within-refl e.rights }

formed-advance : {s : State} → Formed s → Formed (advance s)
unfolding advance
formed-advance {s} f =
    record {
      domains = f.domains;
      frames = f.frames;
      table = f.table;
      turns = f.turns;
      position = moved (eqb (suc s.position) (length s.turns)) refl;
      capability = f.capability;
      empty = f.empty;
      slots_only = f.slots_only;
      places_only = f.places_only;
      bell = f.bell;
      full = f.full;
      emptied = f.emptied;
      badge = f.badge;
    }
  where
    moved : (t : Bool) → eqb (suc s.position) (length s.turns) ≡ t → cond t 0 (suc s.position) < length s.turns
    moved true e = f.table.0
    moved false e = let h = f.position in let n = eqb-false (suc s.position) (length s.turns) e in omega arith

-- a turn keeps sections 1, 2 and 4
pub sound_next : {s : State} → Sound s → (o : Operation) → Sound (next s o)
unfolding next advance
sound_next {s} f o =
    let h = whose-low f.formed in
    let l = licensed s (whose s) o in
    record { formed = formed-advance (formed-kept f.formed (whose s) h _ l); section4 = section4-kept f (whose s) h _ l }

pub sound : {b : List ℕ} {s : State} → Reached b s → Sound s
sound (booted y e) = record { formed = boot-formed _ y e; section4 = boot-section4 _ e }
sound (turned r o) = sound_next (sound r) o

pub section4_always : Section4Always
section4_always b s r = (sound r).section4

pub formed_always : FormedAlways
formed_always b s r = (sound r).formed

pub never_more : NeverMore
never_more b s r p q u = never_more_than (sound r).section4 u

pub revoke_exactly : RevokeExactly
revoke_exactly b s r o e h = revoked (sound r) o _ (revoking s o e h)

pub delete_keeps : DeleteKeeps
delete_keeps b s r o e h = deleted (sound r) o _ (deleting s o e h)

pub reused_is_fresh : ReusedIsFresh
reused_is_fresh b s r o p q = fresh (sound r) o p q

pub receive_empties : ReceiveEmpties
receive_empties b s r o e h k g = let f = (sound r).formed in receive-empty s (le_trans (whose-low f) f.domains.1) o e h k g

-- ---- confinement

-- what the image gives, its domains could hold
boot-confined : (b : List ℕ) → Bytes b → refusal_of b ≡ 0 → Confined (image_of b) (boot (image_of b))
unfolding boot refusal_of
boot-confined b y h =
    record {
      in_slots = λ d x l g n.
          let (e, m, p, c) = given_from (image_of b).entries (slot d x) n in
          let r = form.entry e m in
          subst (λ a. Covered (image_of b) a (given (image_of b).entries (slot d x))) (let w : e.domain ≡ d = (let t = r.slot in omega arith) in w)
          (subst (λ a. Covered (image_of b) e.domain a) (sym c) (entered e m));
      under_way = λ m d w n. absurd (let k = held_below b form (room m) n in let j = form.domains.1 in omega arith);
    }
  where
    form : FormRight b
    form = form-right b (passes _ _ 25 h).0

    entered : (e : Entry) → Memᴰ e (image_of b).entries → Covered (image_of b) e.domain (capability_given e)
    entered e m = entry_covered (image_of b) e m

pub confinement : Confinement
confinement b s (booted y e) = boot-confined b y e
confinement b s (turned {s = t} r o) = confined-next (image_of b) (sound r).formed (confinement b t r) o
