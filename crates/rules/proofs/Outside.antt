-- Each licensed effect keeps the tie of sources to L; that of a domain outside L changes nothing that L sees. Assumes nothing.
use mathlib.Core.Path.{◌≡◌, refl, sym, ap, subst}
use mathlib.Core.Bool.{Bool, false}
use mathlib.Core.Logic.{inl, inr}
use Prim.Native.Nat.{ℕ, suc, ◌<◌}
use native.Mathlib.Omega.{arith}
use Rattle.rules.specs.Sizes.{domains_most, slots, places}
use Rattle.rules.specs.State.{State, slot, room, nothing, no_message, derived_from}
use Rattle.rules.specs.Turn.{derived, copied, set, with_mail, apply}
use Rattle.rules.specs.Image.{Image}
use Rattle.rules.specs.Flow.{Case, Closed, frame, ringing, hearing, mailbox}
use Rattle.rules.specs.declared.Capability.{Capability}
use Rattle.rules.specs.declared.Message.{Message}
use Rattle.rules.specs.declared.Effect.{Effect}
use Rattle.rules.proofs.Laws.{not_both, set-each}
use Rattle.rules.proofs.Places.{dropped_other, pruned-kept, each-dropped, each-pruned}
use Rattle.rules.proofs.Licence.{Licence, nothing-done, stores, rings, hushes, puts, drops, prunes, posts, sends, takes, gets}
use Rattle.rules.proofs.View.{Alike, Some, Frame, Bell, Mailbox, Ours, Seen, own, mail, View, Tied, Tie, Able, view_refl, stored, rung, mailed, placed, ours_slot, seen-slot, seen-room, comes_not, drawn}

-- no source is tied to L, and so is a source in L
pub untied : {L : ℕ → Bool} → Tied L 0
untied p e = absurd (omega arith)

pub tied_to : {L : ℕ → Bool} {p : ℕ} → Ours L p → Tied L (suc p)
tied_to {L} {p} o q e = let f : p ≡ q = omega arith in subst (λ k. Ours L k) f o

-- a value set where P does not look
set_hidden : {A : Type 0} (P : ℕ → Type 0) (f : ℕ → A) (i : ℕ) (v : A) → (P i → ⊥) → Alike P f (set f i v)
set_hidden P f i v hidden = set-each (λ j x. P j → f j ≡ x) f i v (λ j h. refl) (λ h. absurd (hidden h))

-- the tie at one place
abbrev TiedAt : Image → (ℕ → Bool) → ℕ → Capability → Type 0
TiedAt i L q c = Seen i L q → Tied L c.source

module _ (i : Image) (L : ℕ → Bool) (closed : Closed i L) (s : State) (d : ℕ) (below : d < domains_most) (able : Able i s d)
    (tie : Tie i L s.capability) where
  -- a licensed effect keeps the tie
  pub tie_kept : {e : Effect} → Licence s d e → Tie i L (apply s e).capability
  unfolding apply derived copied
  tie_kept nothing-done = tie
  tie_kept (stores o w) = tie
  tie_kept (rings o) = tie
  tie_kept (hushes o) = tie
  tie_kept (puts r h f b) =
      set-each (TiedAt i L) _ _ _ tie
      (λ seen. tied_to (ours_slot below h.in_range (seen-slot d below f.in_range seen)))
  tie_kept (drops h) = each-dropped (TiedAt i L) s.capability tie _ (λ q seen. untied) (λ q e seen. tie _ (own (tie q seen _ e)))
  tie_kept (prunes h) = each-pruned (TiedAt i L) s.capability tie _ (λ q seen. untied)
  tie_kept (posts o f) = set-each (TiedAt i L) _ _ _ tie (λ seen. untied)
  tie_kept (sends o g h f) =
      set-each (TiedAt i L) _ _ _ tie
      (λ seen. tied_to (ours_slot below h.in_range (drawn i L closed d (λ a. mailbox (inl (able _ _ _ o))) (seen-room seen))))
  tie_kept (takes o) = set-each (TiedAt i L) _ _ _ tie (λ seen. untied)
  tie_kept (gets o h f) =
      set-each (TiedAt i L) _ _ _ (set-each (TiedAt i L) _ _ _ tie (λ seen. untied))
      (λ seen. tie _ (mail refl (record { domain = d; inside = seen-slot d below f.in_range seen; does = inr (able _ _ _ o) })))

  module _ (out : L d ≡ false) where
    -- what a domain outside L could reach, L does not see
    unseen : {R : ℕ → Type 0} → ((a : ℕ) → R a → Case i d a) → Some L R → ⊥
    unseen case u = not_both (drawn i L closed d case u) out

    not_ours : {x : ℕ} → x < slots → Seen i L (slot d x) → ⊥
    not_ours r seen = not_both (seen-slot d below r seen) out

    not_derived : {x : ℕ} → x < slots → (q : ℕ) → Seen i L q → derived_from s.capability (slot d x) q ≡ false
    unfolding derived_from
    not_derived r q seen = comes_not s.capability tie _ (λ o. not_ours r (own o)) places _ (tie q seen)

    posted : {m : ℕ} (g : Message) (c : Capability) → (Mailbox i L m → ⊥)
        → View i L s (with_mail s (set s.capability (room m) c) (set s.message m g))
    posted {m} g c hidden =
        mailed (view_refl s) (set_hidden (Seen i L) s.capability (room m) c (λ seen. hidden (seen-room seen)))
        (set_hidden (Mailbox i L) s.message m g hidden)

    -- a domain outside L changes nothing of the view
    pub outside : {e : Effect} → Licence s d e → View i L s (apply s e)
    unfolding apply
    outside nothing-done = view_refl s
    outside (stores o w) =
        stored (view_refl s)
        (λ f h k. ap (λ g. g k) (set_hidden (Frame i L) s.word _ _ (unseen (λ a. frame (able _ _ _ o))) f h))
    outside (rings o) = rung (view_refl s) (set_hidden (Bell i L) s.bell _ _ (unseen (λ a. ringing (able _ _ _ o))))
    outside (hushes o) = rung (view_refl s) (set_hidden (Bell i L) s.bell _ _ (unseen (λ a. hearing (able _ _ _ o))))
    outside (puts r h f b) = placed (view_refl s) (set_hidden (Seen i L) s.capability _ _ (not_ours f.in_range))
    outside (drops h) =
        placed (view_refl s)
        (λ q seen. sym (dropped_other s.capability _ q
        (λ e. not_ours h.in_range (subst (Seen i L) e seen)) (λ e. not_ours h.in_range (own (tie q seen _ e)))))
    outside (prunes h) = placed (view_refl s) (λ q seen. sym (pruned-kept s.capability _ q (not_derived h.in_range q seen)))
    outside (posts o f) = posted _ _ (unseen (λ a. mailbox (inl (able _ _ _ o))))
    outside (sends o g h f) = posted _ _ (unseen (λ a. mailbox (inl (able _ _ _ o))))
    outside (takes o) = posted _ _ (unseen (λ a. mailbox (inr (able _ _ _ o))))
    outside (gets o h f) =
        let v = posted no_message nothing (unseen (λ a. mailbox (inr (able _ _ _ o)))) in
        mailed (view_refl s)
        (set-each (λ q c. Seen i L q → s.capability q ≡ c) _ _ _ v.capability (λ seen. absurd (not_ours f.in_range seen))) v.message
