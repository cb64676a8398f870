-- Sections 1 and 2 of document 01 are kept by each licensed effect: kinds, rights, objects, badges and sources in range, and nothing
-- where there is no place. Assumes nothing.
use mathlib.Core.Path.{◌≡◌, refl, sym, ap, ◌∙◌, subst}
use mathlib.Core.Bool.{true}
use mathlib.Core.Logic.{⊎_elim}
use Prim.Native.Nat.{ℕ, suc, ◌^◌, ◌≤◌, ◌<◌}
use native.Mathlib.Omega.{arith}
use lib.Bits.{bit_and, bit_or, and_le_r, or_lt}
use borrow.Author.Tests.{eqb-true}
use Rattle.rules.specs.Sizes.{domains_most, slots, all_slots, mailboxes, places, badge_most}
use Rattle.rules.specs.State.{State, Places, MAILBOX, WRITE, GRANT, within, slot, room, nothing, no_message, whose, Holds, Source, objects, Fits, WellFormed, Formed}
use Rattle.rules.specs.Turn.{held, set, changed, apply}
use Rattle.rules.specs.declared.Capability.{Capability}
use Rattle.rules.specs.declared.Message.{Message}
use Rattle.rules.specs.declared.Effect.{Effect}
use Rattle.rules.proofs.Laws.{set-each, set_here, set_there, within_trans, within-refl}
use Rattle.rules.proofs.Places.{same?, resourced, take_empties, move_empties, each-dropped, each-pruned}
use Rattle.rules.proofs.Licence.{Has, Owns, Licence, nothing-done, stores, rings, hushes, puts, drops, prunes, posts, sends, takes, gets}
use Rattle.rules.proofs.Section4.{dropped_alike}
use Rattle.rules.proofs.Always.{Made, derived_made, copied_made, slot-room}

-- the domain whose turn it is is one of the state's
pub whose-low : {s : State} → Formed s → whose s < s.domains
unfolding whose
whose-low {s} f = f.turns s.position f.position

-- what a state of D domains and F frames asks of place q, which holds c
pub record PlaceFormed (domains frames q : ℕ) (c : Capability) : Type 0 where
  pub capability : (c.kind ≡ 0 → ⊥) → WellFormed frames c
  pub empty : c.kind ≡ 0 → c ≡ nothing
  pub slots_only : q < all_slots → (c.kind ≡ 0 → ⊥) → q < slot domains 0
  pub places_only : (c.kind ≡ 0 → ⊥) → q < places

-- what a state asks of a mailbox, with what is under way
pub record MailFormed (g : Message) (c : Capability) : Type 0 where
  pub full : g.full ≤ 1
  pub emptied : g.full ≡ 0 → (g ≡ no_message) × (c.kind ≡ 0)
  pub badge : g.badge ≤ badge_most

within_le : (a b : ℕ) → within a b ≡ true → a ≤ b
unfolding within
within_le a b h = let e = eqb-true (bit_and a b) a h in omega (arith, and_le_r a b)

-- a capability that fits a well-formed one is well-formed
fits-formed : {frames : ℕ} {c d : Capability} → WellFormed frames d → Fits c d → c.badge ≤ badge_most → c.source ≤ all_slots → WellFormed frames c
fits-formed {frames} {c} {d} w f b s =
    record {
      kind_least = let e = f.kind in let l = w.kind_least in omega arith;
      kind_most = let e = f.kind in let l = w.kind_most in omega arith;
      rights = let l = w.rights in omega (arith, within_le c.rights d.rights f.rights);
      grant = λ g. f.kind ∙ w.grant (within_trans GRANT c.rights d.rights g f.rights);
      object = subst (λ k. c.object < objects frames k) (sym f.kind) (subst (λ o. o < objects frames d.kind) (sym f.object) w.object);
      badge = b;
      source = s;
    }

-- a well-formed capability is there
there : {frames : ℕ} {c : Capability} → WellFormed frames c → c.kind ≡ 0 → ⊥
there w e = let l = w.kind_least in omega arith

module _ {s : State} (f : Formed s) where
  At : ℕ → Capability → Type 0
  At q c = PlaceFormed s.domains s.frames q c

  at_each : (q : ℕ) → At q (s.capability q)
  unfolding At
  at_each q = record { capability = f.capability q; empty = f.empty q; slots_only = f.slots_only q; places_only = f.places_only q }

  at_nothing : (q : ℕ) → At q nothing
  unfolding At
  at_nothing q =
      record { capability = λ h. absurd (h refl); empty = λ h. refl; slots_only = λ l h. absurd (h refl); places_only = λ h. absurd (h refl) }

  at_slot : (d x : ℕ) {c : Capability} → d < s.domains → x < slots → WellFormed s.frames c → At (slot d x) c
  unfolding At
  at_slot d x h l w =
      let m = f.domains.1 in
      record { capability = λ n. w; empty = λ e. absurd (there w e); slots_only = λ i n. omega arith; places_only = λ n. omega arith }

  at_room : (m : ℕ) {c : Capability} → m < mailboxes → WellFormed s.frames c → At (room m) c
  unfolding At
  at_room m l w =
      record { capability = λ n. w; empty = λ e. absurd (there w e); slots_only = λ i n. omega arith; places_only = λ n. omega arith }

  pub mail_each : (m : ℕ) → MailFormed (s.message m) (s.capability (room m))
  mail_each m = record { full = f.full m; emptied = f.emptied m; badge = f.badge m }

  -- the state with other places, words, bells and messages is formed where these are
  formed-changed : (at : Places) (words : ℕ → ℕ → ℕ) (bells : ℕ → ℕ) (messages : ℕ → Message) → ((q : ℕ) → At q (at q))
      → ((b : ℕ) → bells b ≤ badge_most) → ((m : ℕ) → MailFormed (messages m) (at (room m))) → Formed (changed s at words bells messages)
  unfolding At
  formed-changed at words bells messages each ring mail =
      record {
        domains = f.domains;
        frames = f.frames;
        table = f.table;
        turns = f.turns;
        position = f.position;
        capability = λ q. (each q).capability;
        empty = λ q. (each q).empty;
        slots_only = λ q. (each q).slots_only;
        places_only = λ q. (each q).places_only;
        bell = ring;
        full = λ m. (mail m).full;
        emptied = λ m. (mail m).emptied;
        badge = λ m. (mail m).badge;
      }

  -- only places change, and no room is filled
  formed-places : (at : Places) → ((q : ℕ) → At q (at q)) → ((m : ℕ) → (s.capability (room m)).kind ≡ 0 → (at (room m)).kind ≡ 0)
      → Formed (changed s at s.word s.bell s.message)
  formed-places at each rooms =
      formed-changed at s.word s.bell s.message each f.bell
      (λ m. record { full = f.full m; emptied = λ e. let w = f.emptied m e in (w.0, rooms m w.1); badge = f.badge m })

  -- one mailbox and its room change, and perhaps a slot
  formed_mail : (m : ℕ) (g : Message) (at : Places) → ((q : ℕ) → At q (at q)) → MailFormed g (at (room m))
      → ((n : ℕ) → (n ≡ m → ⊥) → at (room n) ≡ s.capability (room n))
      → Formed (changed s at s.word s.bell (set s.message m g))
  formed_mail m g at each here away =
      formed-changed at s.word s.bell (set s.message m g) each f.bell
      (λ n. ⊎_elim
      (λ z. subst (λ y. MailFormed (set s.message m g y) (at (room y))) (sym z)
      (subst (λ x. MailFormed x (at (room m))) (sym (set_here s.message m g)) here))
      (λ h. subst (λ x. MailFormed x (at (room n))) (sym (set_there s.message m g n h))
      (subst (λ c. MailFormed (s.message n) c) (sym (away n h)) (mail_each n)))
      (same? n m))

  -- the object of an owned mailbox is one of the mailboxes
  pub owned_box : {d x r : ℕ} → Owns s d x MAILBOX r → (held s d x).object < mailboxes
  unfolding objects
  owned_box {d} {x} o = subst (λ k. (held s d x).object < objects s.frames k) o.kind_is (f.capability (slot d x) o.has.there).object

  -- what is made from a well-formed capability in a slot is well-formed
  made_formed : {c : Capability} {d x : ℕ} → d < s.domains → Has s d x → Made c (held s d x) (slot d x) → WellFormed s.frames c
  made_formed {c} {d} {x} h o m =
      let w = f.capability (slot d x) o.there in
      fits-formed w m.fits (m.badge w.badge) (let e = m.source in let i = o.in_range in let j = f.domains.1 in omega arith)

  low : {d : ℕ} → d < s.domains → d < domains_most
  low h = let g = f.domains.1 in omega arith

  -- a capability that gets the source of the place from which it was derived
  resourced-formed : (q p : ℕ) → Holds s.capability p → Source s.capability p q → At q (resourced (s.capability q) (s.capability p).source)
  unfolding At
  resourced-formed q p h e =
      let c = at_each q in
      record {
        capability = λ n.
            let w = c.capability n in
            fits-formed w (record { kind = refl; object = refl; rights = within-refl (s.capability q).rights; badge = λ m. refl }) w.badge
            (f.capability p h).source;
        empty = λ z. absurd (let y : 0 ≡ suc p = ap (λ x. x.source) (sym (c.empty z)) ∙ e in omega arith);
        slots_only = c.slots_only;
        places_only = c.places_only;
      }

  mail_none : {c : Capability} → c.kind ≡ 0 → MailFormed no_message c
  mail_none z = record { full = omega arith; emptied = λ e. (refl, z); badge = omega arith }

  mail_new : {d x w0 w1 w2 w3 : ℕ} {c : Capability} → Owns s d x MAILBOX WRITE
      → MailFormed (record { full = 1; badge = (held s d x).badge; w0 = w0; w1 = w1; w2 = w2; w3 = w3 }) c
  mail_new {d} {x} o =
      record { full = omega arith; emptied = λ e. absurd (let y : 1 ≡ 0 = e in omega arith); badge = (f.capability (slot d x) o.has.there).badge }

  rooms_apart : (m : ℕ) (c : Capability) (n : ℕ) → (n ≡ m → ⊥) → set s.capability (room m) c (room n) ≡ s.capability (room n)
  rooms_apart m c n h = set_there s.capability (room m) c (room n) (λ e. h (omega arith))

  pub formed-kept : (d : ℕ) → d < s.domains → (e : Effect) → Licence s d e → Formed (apply s e)
  unfolding apply At
  formed-kept d h e nothing-done = f
  formed-kept d h e (stores o l) = formed-changed s.capability _ s.bell s.message at_each f.bell mail_each
  formed-kept d h e (rings {x} o) =
      formed-changed s.capability s.word _ s.message at_each
      (set-each (λ b v. v ≤ badge_most) s.bell _ _ f.bell
      (let k = f.bell (held s d x).object in
      let w = (f.capability (slot d x) o.has.there).badge in
      let i : bit_or (s.bell (held s d x).object) (held s d x).badge < 2 ^ 16 = or_lt 16 (s.bell (held s d x).object) (held s d x).badge (omega arith) (omega arith) in
      omega arith))
      mail_each
  formed-kept d h e (hushes {x} o) =
      formed-changed s.capability s.word _ s.message at_each
      (set-each (λ b v. v ≤ badge_most) s.bell _ _ f.bell (omega arith)) mail_each
  formed-kept d h e (puts {x} {t} {b} r o g l) =
      formed-places _ (set-each At s.capability (slot d t) _ at_each (at_slot d t h g.in_range (made_formed h o (derived_made _ _ r b l))))
      (λ m z. ap (λ c. c.kind) (set_there s.capability (slot d t) _ (room m) (λ y. slot-room d t m (low h) g.in_range (sym y))) ∙ z)
  formed-kept d h e (drops {x} o) =
      formed-places _ (each-dropped At s.capability at_each (slot d x) at_nothing (λ q c. resourced-formed q (slot d x) o.there c))
      (λ m z. (dropped_alike s.capability (slot d x) (room m) (λ y. slot-room d x m (low h) o.in_range (sym y))).kind ∙ z)
  formed-kept d h e (prunes {x} o) =
      formed-places _ (each-pruned At s.capability at_each (slot d x) at_nothing)
      (λ m z. each-pruned (λ q c. (s.capability q).kind ≡ 0 → c.kind ≡ 0) s.capability (λ q y. y) (slot d x) (λ q y. refl) (room m) z)
  formed-kept d h e (posts {x} o z) =
      formed_mail _ _ _ (set-each At s.capability _ _ at_each (at_nothing _)) (mail_new o) (rooms_apart _ _)
  formed-kept d h e (sends {x} {c} o g a z) =
      formed_mail _ _ _ (set-each At s.capability _ _ at_each (at_room _ (owned_box o) (made_formed h a (copied_made _ _)))) (mail_new o) (rooms_apart _ _)
  formed-kept d h e (takes {x} o) =
      formed_mail _ _ _ (set-each At s.capability _ _ at_each (at_nothing _)) (mail_none (ap (λ c. c.kind) (take_empties s _))) (rooms_apart _ _)
  formed-kept d h e (gets {x} {t} o u g) =
      formed_mail _ _ _
      (set-each At _ (slot d t) _ (set-each At s.capability _ _ at_each (at_nothing _)) (at_slot d t h g.in_range (f.capability _ u)))
      (mail_none (ap (λ c. c.kind) (move_empties s _ (slot d t) (away _))))
      (λ n k. set_there _ (slot d t) _ (room n) (away n) ∙ rooms_apart _ _ n k)
    where
      away : (m : ℕ) → room m ≡ slot d t → ⊥
      away m y = slot-room d t m (low h) g.in_range (sym y)
