-- The three demands. Assumes nothing.
use mathlib.Core.Path.{◌≡◌, refl, sym, ap, ◌∙◌, subst}
use mathlib.Core.List.{List}
use mathlib.Core.Bool.{Bool}
use mathlib.Core.Logic.{◌⊎◌, inl, inr, ⊎_elim, ◌↔◌}
use Prim.Native.Nat.{ℕ, zero, suc, ◌≤◌}
use lib.Dec.{leb}
use lib.ListN.{length, get_or}
use borrow.Author.Tests.{le-leb, lt-leb}
use Rattle.rules.specs.State.{slot, whose, Derived}
use Rattle.rules.specs.Turn.{◌then◌else◌, refusal}
use Rattle.rules.specs.Image.{size_f, refusal_of}
use Rattle.rules.specs.Authority.{Revoked, Deleted}
use Rattle.rules.specs.History.{Ancestor}
use Rattle.rules.proofs.Places.{same?}
use Rattle.rules.proofs.Licence.{refusal_leaves}
use Rattle.rules.proofs.Reached.{section4_always, formed_always, never_more, revoke_exactly, delete_keeps, reused_is_fresh, confinement}
use Rattle.rules.proofs.Followed.{revoke_by_ancestry}
use Rattle.rules.proofs.Promise.{promise}
use Rattle.rules.proofs.Table.{turns_by_table}
use Rattle.layout.specs.Layout.{state_of, need, words_for, Enough}
use Rattle.boot.specs.Booted.{Booted}
use Rattle.meterkernel.specs.Entries.{operation_words, answer_words, answer_in, TooShort, TurnCalled}
use Rattle.meterkernel.specs.Demands.{boot_answer, SafeAndTotal, AuthorityStays, PartitionsDontHear}
use Rattle.meterkernel.proofs.Histories.{least?, accepted, turn-exact, known}
use Rattle.meterkernel.proofs.Running.{so_far, turn-of}
use Rattle.meterkernel.proofs.Matrix.{closed_exactly}

-- ---- 1

-- too short, or long enough
lengths : (m op a : List ℕ) → TooShort m op a ⊎ ((operation_words ≤ length op) × (answer_words ≤ length a) × Enough m)
lengths m op a =
    ⊎_elim
    (λ h. ⊎_elim (λ k. ⊎_elim (λ g. inr (h, k, g)) (λ g. inl (inr (inr g))) (least? (need m) (length m))) (λ k. inl (inr (inl k))) (least? answer_words (length a)))
    (λ h. inl (inl h)) (least? operation_words (length op))

module _ {m op a n b : List ℕ} {r : ℕ} (c : TurnCalled m op a n b r) where
  keeps : (length n ≡ length m) × ((k : ℕ) → need m ≤ k → get_or n k 0 ≡ get_or m k 0)
  keeps =
      ⊎_elim (λ s. let e = (c.short s).1 in (ap length e, λ k h. ap (λ l. get_or l k 0) e))
      (λ l. let (v, t) = c.turned l.0 l.1 l.2 in (t.long, t.behind)) (lengths m op a)

  leaves : (r ≡ 0 → ⊥) → (k : ℕ) → (k ≡ 3 → ⊥) → get_or n k 0 ≡ get_or m k 0
  unfolding answer_in
  leaves z =
      ⊎_elim (λ s k h. ap (λ l. get_or l k 0) (c.short s).1)
      (λ l. let (v, t) = c.turned l.0 l.1 l.2 in t.refused z) (lengths m op a)

reader : (b m n : List ℕ) (r : ℕ) → Booted b m r n → (r ≡ boot_answer b (length m)) × ((r ≡ 0 → ⊥) → n ≡ m)
unfolding boot_answer ◌then◌else◌
reader b m n r h = ⊎_elim right (λ k. ((h.refused k).0 ∙ first _ (refusal_of b) k, λ z. (h.refused k).1)) (same? (refusal_of b) 0)
  where
    first : (t : Bool) (e : ℕ) → (e ≡ 0 → ⊥) → e ≡ (e then t else 29)
    first t zero k = absurd (k refl)
    first t (suc e) k = refl

    right : refusal_of b ≡ 0 → (r ≡ (refusal_of b then leb (words_for (size_f b)) (length m) else 29)) × ((r ≡ 0 → ⊥) → n ≡ m)
    right z =
        ⊎_elim
        (λ l. let (e, d) = h.accepted z l in (e ∙ rw (z, le-leb _ _ l), λ k. absurd (k e)))
        (λ l. let (e, d) = h.short z l in (e ∙ rw (z, lt-leb _ _ l), λ k. d)) (least? (words_for (size_f b)) (length m))

pub safe_and_total : SafeAndTotal
safe_and_total =
    record {
      kept = λ m op a n b r c. keeps c;
      visits = λ m op a n b r c k.
          ⊎_elim (λ s. absurd (k s)) (λ l. let (v, t) = c.turned l.0 l.1 l.2 in (v, t, t.within)) (lengths m op a);
      short = λ m op a n b r c s. c.short s;
      refused_anywhere = λ m op a n b r c z. leaves c z;
      refused = λ b m n l o x h t z.
          let e = turn-exact (known h).good t in
          let (u, v) = refusal_leaves (state_of m) o (λ y. z (ap (λ w. w.status) e.answered ∙ y)) in
          (e.state ∙ u, subst (λ w. w ≡ refusal w.status) (sym e.answered) v);
      any_bytes = reader;
    }

-- ---- 2

pub authority_stays : AuthorityStays
authority_stays =
    record {
      begins = λ b m n y h. (accepted h).loaded.state;
      exact = λ b m n l o x h t. let e = turn-exact (known h).good t in (e.state, e.answered);
      formed = λ b m l h. formed_always b _ (known h).reached;
      section4 = λ b m l h. section4_always b _ (known h).reached;
      confined = λ b m l h. confinement b _ (known h).reached;
      never_more = λ b m l h. never_more b _ (known h).reached;
      revoked = λ b m n l o x h t r z.
          let e = turn-exact (known h).good t in
          subst (λ s. Revoked (state_of m) s (slot (whose (state_of m)) o.first)) (sym e.state)
          (revoke_exactly b _ (known h).reached o r (sym (ap (λ w. w.status) e.answered) ∙ z));
      revoked_by_birth = λ b m n l o x h t r z q g.
          let e = turn-exact (known h).good t in
          subst (λ s. ((s.capability q).kind ≡ 0) ↔ Ancestor l.parent (l.name (slot (whose (state_of m)) o.first)) (l.name q)) (sym e.state)
          (revoke_by_ancestry b _ l (known h).followed o r (sym (ap (λ w. w.status) e.answered) ∙ z) q g);
      deleted = λ b m n l o x h t r z.
          let e = turn-exact (known h).good t in
          subst (λ s. Deleted (state_of m) s (slot (whose (state_of m)) o.first)) (sym e.state)
          (delete_keeps b _ (known h).reached o r (sym (ap (λ w. w.status) e.answered) ∙ z));
      reused = λ b m n l o x h t p q z d.
          let e = turn-exact (known h).good t in
          reused_is_fresh b _ (known h).reached o p q z (subst (λ s. Derived s.capability p q) e.state d);
    }

-- ---- 3

pub partitions_dont_hear : PartitionsDontHear
partitions_dont_hear =
    record {
      answers = λ b y L closed P Q agree N m m' who who' x x' r r' n d h k.
          ap (λ f. f d) (so_far y r n h).past
          ∙ (promise b y (accepted r.booted).right L closed P Q agree n d k ∙ sym (ap (λ f. f d) (so_far y r' n h).past));
      table = λ b y P N m who x r n h. turn-of y r n h ∙ turns_by_table b y (accepted r.booted).right P n;
      computed = closed_exactly;
    }
