-- A domain in L, at two states that look the same to L, comes to the same decision and leaves states that look the same to L.
-- The checks of document 01, section 3, are walked once more. Assumes nothing.
use mathlib.Core.Path.{◌≡◌, refl, ap, ap₂, ◌∙◌}
use mathlib.Core.Bool.{Bool, true, false, cond, not, ◌&&◌, ◌||◌}
use mathlib.Core.Logic.{inl, inr}
use Prim.Native.Nat.{ℕ, zero, suc, ◌<◌}
use lib.Dec.{eqb, ltb}
use lib.Bits.{bit_or}
use borrow.Author.Tests.{ltb-true, eqb-true}
use Rattle.rules.specs.Sizes.{domains_most, slots, places}
use Rattle.rules.specs.State.{State, FRAME, MAILBOX, BELL, READ, WRITE, GRANT, within, slot, room, nothing, no_message, comes_to, derived_from}
use Rattle.rules.specs.Turn.{◌then◌else◌, held, holds, full, any_slot_refusal, slot_for_refusal, words, conclude, load, store, derived, derive, delete, revoke, ring, hear, copied, goes, send, moves, receive, look, Name, IDLE, LOAD, STORE, DERIVE, DELETE, REVOKE, RING, HEAR, SEND, RECEIVE, LOOK, unknown, named, decided, decide, set, dropped, pruned, with_mail, apply}
use Rattle.rules.specs.Image.{Image}
use Rattle.rules.specs.Flow.{User}
use Rattle.rules.specs.declared.Capability.{Capability}
use Rattle.rules.specs.declared.Message.{Message}
use Rattle.rules.specs.declared.Operation.{Operation}
use Rattle.rules.specs.declared.Answer.{Answer}
use Rattle.rules.specs.declared.Effect.{Effect}
use Rattle.rules.specs.declared.Effect.TheVariants.{Store, Ring, Hush, Put, Post, Take, Move}
use Rattle.rules.proofs.Laws.{passes}
use Rattle.rules.proofs.Licence.{Has, Owns, Licence, nothing-done, stores, rings, hushes, puts, drops, prunes, posts, sends, takes, gets, any_slot_row, has, owns}
use Rattle.rules.proofs.Places.{resourced}
use Rattle.rules.proofs.View.{Alike, set_both, Some, Frame, Bell, Mailbox, Seen, own, mail, View, Tie, Able, stored, rung, mailed, placed, ours_slot, comes_same}

-- ---- checks that agree

-- two rows of checks that give the same refusal, and what is known where they give none
record Row (F : Type 0) (e e' : ℕ) : Type 0 where
  pub same : e ≡ e'
  pub known : e ≡ 0 → F

-- one more check, looked at only where no earlier one refused
also : {F : Type 0} {e e' : ℕ} {b b' : Bool} (n : ℕ) → Row F e e' → (F → b ≡ b')
    → Row (F × (b ≡ true)) (e then b else suc n) (e' then b' else suc n)
unfolding ◌then◌else◌
also {F} {e} {b} {b'} n r h =
    record {
      same = by e (λ z. h (r.known z)) ∙ ap (λ k. k then b' else suc n) r.same;
      known = λ z. let (p, q) = passes e b n z in (r.known p, q);
    }
  where
    by : (e : ℕ) → (e ≡ 0 → b ≡ b') → (e then b else suc n) ≡ (e then b' else suc n)
    by zero h = ap (λ c. zero then c else suc n) (h refl)
    by (suc e) h = refl

-- the same refusal, or where there is none the same effect and answer
conclude-same : {F : Type 0} {e e' : ℕ} {f f' : Effect} {a a' : Answer} → Row F e e' → (F → (f ≡ f') × (a ≡ a'))
    → conclude e f a ≡ conclude e' f' a'
unfolding conclude
conclude-same {e} {f} {f'} {a} {a'} r h = by e (λ z. h (r.known z)) ∙ ap (λ k. conclude k f' a') r.same
  where
    by : (e : ℕ) → (e ≡ 0 → (f ≡ f') × (a ≡ a')) → conclude e f a ≡ conclude e f' a'
    by zero h = let (p, q) = h refl in ap₂ (conclude zero) p q
    by (suc e) h = refl

-- two branches that agree where the test passes
cond_same : {A : Type 0} (b : Bool) {x y : A} (z : A) → (b ≡ true → x ≡ y) → cond b x z ≡ cond b y z
cond_same true z h = h refl
cond_same false z h = refl

-- the same value at j, where P looks
abbrev Same : {A : Type 0} → (ℕ → Type 0) → ℕ → A → A → Type 0
Same P j x y = P j → x ≡ y

module _ (i : Image) (L : ℕ → Bool) (s t : State) (d : ℕ) (below : d < domains_most) (able : Able i s d) (view : View i L s t)
    (inside : L d ≡ true) where
  -- what d could do, some domain in L could
  ours : {R : ℕ → Type 0} → R d → Some L R
  ours r = record { domain = d; inside = inside; does = r }

  same-slot : {x : ℕ} → x < slots → held s d x ≡ held t d x
  same-slot r = view.capability _ (own (ours_slot below r inside))

  -- what looks at slot x only where x is a slot
  same_where : {A : Type 0} (F : Bool → Capability → A) (x : ℕ) → F false (held s d x) ≡ F false (held t d x)
      → F (goes x) (held s d x) ≡ F (goes x) (held t d x)
  same_where {A} F x h = by (goes x) refl
    where
      by : (g : Bool) → goes x ≡ g → F g (held s d x) ≡ F g (held t d x)
      by true e = ap (F true) (same-slot (ltb-true x slots e))
      by false e = h

  same_any : (x : ℕ) → Row (Has s d x) (any_slot_refusal s d x) (any_slot_refusal t d x)
  unfolding any_slot_refusal ◌then◌else◌
  same_any x = record { same = same_where any_slot_row x refl; known = has s d x }

  same_for : (x k r : ℕ) → Row (Owns s d x k r) (slot_for_refusal s d x k r) (slot_for_refusal t d x k r)
  unfolding slot_for_refusal
  same_for x k r =
      let kind = also 3 (same_any x) (λ h. ap (λ c. eqb c.kind k) (same-slot h.in_range)) in
      record { same = (also 4 kind (λ h. ap (λ c. within r c.rights) (same-slot h.0.in_range))).same; known = owns s d x k r }

  module _ {x k r : ℕ} (o : Owns s d x k r) where
    same_owned : held s d x ≡ held t d x
    same_owned = same-slot o.has.in_range

    -- what stands at the object of slot x
    same_at : {A : Type 0} (f g : ℕ → A) → f (held s d x).object ≡ g (held s d x).object → f (held s d x).object ≡ g (held t d x).object
    same_at f g h = h ∙ ap (λ c. g c.object) same_owned

    same-message : User i MAILBOX (held s d x).object d → s.message (held s d x).object ≡ t.message (held t d x).object
    same-message u = same_at s.message t.message (view.message _ (ours u))

  same-moves : {x : ℕ} → Owns s d x MAILBOX READ → (y : ℕ) → moves s d (held s d x).object y ≡ moves t d (held t d x).object y
  unfolding moves
  same-moves {x} o y =
      by (holds (s.capability (room (held s d x).object)))
      ∙ ap (λ c. holds c && ltb y slots && not (holds (held t d y)))
      (same_at o (λ m. s.capability (room m)) (λ m. t.capability (room m)) (view.capability _ (mail refl (ours (inr (able _ _ _ o))))))
    where
      by : (h : Bool) → (h && ltb y slots && not (holds (held s d y))) ≡ (h && ltb y slots && not (holds (held t d y)))
      by true = same_where (λ g c. g && not (holds c)) y refl
      by false = refl

  same-decided : (n : Name) (o : Operation) → decided s d n o ≡ decided t d n o
  unfolding decided load store derive delete revoke ring hear send receive look
  same-decided IDLE o = refl
  same-decided LOAD o =
      let w = o.second in
      conclude-same (also 5 (same_for _ FRAME READ) (λ u. refl))
      (λ p. (refl, ap (λ v. words v 0 0 0 0 0) (same_at p.0 (λ f. s.word f w) (λ f. t.word f w) (view.word _ (ours (able _ _ _ p.0)) w))))
  same-decided STORE o =
      conclude-same (also 5 (same_for _ FRAME WRITE) (λ u. refl))
      (λ p. (ap (λ c. Store c.object o.second o.third) (same_owned p.0), refl))
  same-decided DERIVE o =
      let range = also 1 (same_any o.first) (λ u. refl) in
      let free = also 6 range (λ p. ap (λ c. not (holds c)) (same-slot (ltb-true _ _ p.1))) in
      conclude-same (also 5 free (λ p. refl))
      (λ p. (ap (λ c. Put (slot d o.second) (derived c (slot d o.first) o.third o.fourth)) (same-slot p.0.0.0.in_range), refl))
  same-decided DELETE o = conclude-same (same_any _) (λ u. (refl, refl))
  same-decided REVOKE o = conclude-same (same_any _) (λ u. (refl, refl))
  same-decided RING o = conclude-same (same_for _ BELL WRITE) (λ u. (ap (λ c. Ring c.object c.badge) (same_owned u), refl))
  same-decided HEAR o =
      conclude-same (same_for _ BELL READ)
      (λ u.
      (ap (λ c. Hush c.object) (same_owned u), ap (λ v. words v 0 0 0 0 0) (same_at u s.bell t.bell (view.bell _ (ours (able _ _ _ u))))))
  same-decided SEND o =
      let c = o.second in
      let granted = also 4 (also 1 (same_for o.first MAILBOX WRITE) (λ u. refl)) (λ p. ap (λ k. not (goes c) || within GRANT k.rights) (same_owned p.0)) in
      let held = also 2 granted (λ p. same_where (λ g k. not g || holds k) c refl) in
      conclude-same (also 7 held (λ p. ap (λ g. not (full g)) (same-message p.0.0.0 (inl (able _ _ _ p.0.0.0)))))
      (λ p. (
        ap₂ (λ k u. Post k.object (record { full = 1; badge = k.badge; w0 = o.third; w1 = o.fourth; w2 = o.fifth; w3 = o.sixth }) u)
            (same_owned p.0.0.0.0) (same_where (λ g k. cond g (copied k (slot d c)) nothing) c refl),
        refl,
      ))
  same-decided RECEIVE o =
      let y = o.second in
      conclude-same (also 8 (also 1 (same_for _ MAILBOX READ) (λ u. refl)) (λ p. ap full (same-message p.0 (inr (able _ _ _ p.0)))))
      (λ p. (
        ap₂ (λ b k. cond b (Move k.object (slot d y)) (Take k.object)) (same-moves p.0.0 y) (same_owned p.0.0),
        ap₂ (λ b g. words g.badge g.w0 g.w1 g.w2 g.w3 (cond b 1 0)) (same-moves p.0.0 y) (same-message p.0.0 (inr (able _ _ _ p.0.0))),
      ))
  same-decided LOOK o =
      conclude-same (same_any _) (λ u. (refl, ap (λ c. words c.kind c.rights c.object c.badge 0 0) (same-slot u.in_range)))
  same-decided unknown o = refl

  -- a domain in L comes to the same decision at states that look the same: the same effect, and the same answer
  pub same-decision : (o : Operation) → decide s d o ≡ decide t d o
  unfolding decide
  same-decision o = same-decided (named o.number) o

  module _ (tie : Tie i L s.capability) where
    same-dropped : (p : ℕ) → Alike (Seen i L) (dropped s.capability p) (dropped t.capability p)
    unfolding dropped
    same-dropped p q seen =
        ap (λ x. cond (eqb q p) nothing (resourced (s.capability q) x))
        (cond_same (eqb (s.capability q).source (suc p)) _ (λ e. ap (λ c. c.source) (view.capability p (own (tie q seen p (eqb-true _ _ e))))))
        ∙ ap (λ c. cond (eqb q p) nothing (resourced c (cond (eqb c.source (suc p)) (t.capability p).source c.source)))
        (view.capability q seen)

    same-pruned : (p : ℕ) → Alike (Seen i L) (pruned s.capability p) (pruned t.capability p)
    unfolding pruned derived_from
    same-pruned p q seen =
        ap₂ (λ b c. cond b nothing c)
        (comes_same s.capability t.capability view.capability tie places (suc p) _ (tie q seen)
        ∙ ap (λ c. comes_to places t.capability (suc p) c.source) (view.capability q seen))
        (view.capability q seen)

    posted : (m : ℕ) (g : Message) (c : Capability)
        → View i L (with_mail s (set s.capability (room m) c) (set s.message m g))
        (with_mail t (set t.capability (room m) c) (set t.message m g))
    posted m g c =
        mailed view (set_both (Same (Seen i L)) view.capability (λ seen. refl))
        (set_both (Same (Mailbox i L)) view.message (λ seen. refl))

    -- and the same effect leaves states that look the same
    pub inside-kept : {e : Effect} → Licence s d e → View i L (apply s e) (apply t e)
    unfolding apply
    inside-kept nothing-done = view
    inside-kept (stores o w) =
        stored view
        (set_both (λ f (g h : ℕ → ℕ). Frame i L f → (k : ℕ) → g k ≡ h k) view.word (λ seen. set_both (λ k m n. m ≡ n) (view.word _ seen) refl))
    inside-kept (rings {x = x} o) =
        rung view (set_both (Same (Bell i L)) view.bell (λ seen. ap (λ n. bit_or n (held s d x).badge) (view.bell _ seen)))
    inside-kept (hushes o) = rung view (set_both (Same (Bell i L)) view.bell (λ seen. refl))
    inside-kept (puts r h f b) = placed view (set_both (Same (Seen i L)) view.capability (λ seen. refl))
    inside-kept (drops h) = placed view (same-dropped _)
    inside-kept (prunes h) = placed view (same-pruned _)
    inside-kept (posts o f) = posted _ _ _
    inside-kept (sends o g h f) = posted _ _ _
    inside-kept (takes o) = posted _ _ _
    inside-kept (gets o h f) =
        let v = posted _ no_message nothing in
        mailed view
        (set_both (Same (Seen i L)) v.capability (λ seen. view.capability _ (mail refl (ours (inr (able _ _ _ o))))))
        v.message
