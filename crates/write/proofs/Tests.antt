-- Laws of the tests for refusal 27, one number at a time. Assumes nothing.
use mathlib.Core.Path.{◌≡◌, refl, sym, ap, ◌∙◌, fun_ext}
use mathlib.Core.List.{[], ◌∷◌, ◌++◌}
use Rattle.std.proofs.lemmas.List.Folds.{list_all-append}
use mathlib.Core.Bool.{Bool, true, false, not, ◌&&◌}
use Prim.Native.Nat.{ℕ, zero, suc, ◌+◌}
use native.Mathlib.Omega.{arith}
use lib.Dec.{eqb}
use Rattle.std.specs.List.{list_all, range_with_len}
use Rattle.rules.specs.Sizes.{domains_most, turns_most, frames_most, frame_words, mailboxes, bells}
use Rattle.rules.specs.State.{State}
use Rattle.rules.specs.Turn.{present}
use Rattle.rules.specs.Image.{between, all_below, writable}
use Rattle.layout.specs.Layout.{Headed}
use Rattle.layout.specs.declared.Head.{Head}
use Rattle.write.specs.Written.{sized}
use Rattle.write.specs.Laid.{each_below, empty, no_mail, zero_word, zero_frame, zero_bell}

and_comm : (a b : Bool) → (a && (b && true)) ≡ (b && a)
and_comm true true = refl
and_comm true false = refl
and_comm false true = refl
and_comm false false = refl

-- the last of some numbers by itself
range_last : (a n : ℕ) → range_with_len a (suc n) ≡ range_with_len a n ++ (a + n) ∷ []
range_last a zero = let e : a ≡ a + 0 = omega arith in ap (λ k. k ∷ []) e
range_last a (suc n) = let e : a + 1 + n ≡ a + suc n = omega arith in ap (λ l. a ∷ l) (range_last (a + 1) n ∙ ap (λ k. range_with_len (a + 1) n ++ k ∷ []) e)

-- the code's test of each number below n is the rules'
below_all : (n : ℕ) (f : ℕ → Bool) → each_below n f ≡ all_below n f
unfolding all_below
below_all zero f = refl
below_all (suc n) f =
    let e : 0 + n ≡ n = omega arith in
    ap (list_all f) (range_last 0 n) ∙ (list_all-append f (range_with_len 0 n) ((0 + n) ∷ []) ∙ rw (below_all n f, e) (and_comm (all_below n f) (f n)))

-- the same of words in frames
frames_all : (s : State) (n : ℕ) → each_below n (λ f. each_below frame_words (zero_word s f)) ≡ all_below n (zero_frame s)
frames_all s n = ap (each_below n) (fun_ext (λ f. below_all frame_words (zero_word s f))) ∙ below_all n (zero_frame s)

-- and of mailboxes
mail_all : (s : State) → each_below mailboxes (no_mail s) ≡ all_below mailboxes (empty s)
unfolding present
mail_all s = ap (each_below mailboxes) (fun_ext (λ m. sym (not_not (eqb (s.message m).full 0)))) ∙ below_all mailboxes (empty s)
  where
    not_not : (b : Bool) → not (not b) ≡ b
    not_not true = refl
    not_not false = refl

-- ---- the tests together, of which the first that failed, or the last, is known

module _ {s : State} {h : Head} (e : Headed s h) {a : Bool}
    (f : a ≡ (between 1 domains_most h.domains && between 1 turns_most h.turns && between 1 frames_most h.frames)) where
  told : (m w b : Bool) → m ≡ each_below mailboxes (no_mail s) → w ≡ each_below h.frames (λ f. each_below frame_words (zero_word s f)) → b ≡ each_below bells (zero_bell s)
      → (a && (m && w && b && eqb h.position 0)) ≡ (sized s && writable s)
  unfolding sized writable
  told m w b g k l =
      rw (f, g, mail_all s, k, frames_all s h.frames, l, below_all bells (zero_bell s), e.domains, e.turns, e.frames, e.position)

  pub range_fails : a ≡ false → false ≡ (sized s && writable s)
  range_fails z = rw z at (told _ _ _ refl refl refl)

  module _ (t : a ≡ true) {m : Bool} (g : m ≡ each_below mailboxes (no_mail s)) where
    pub mail_fails : m ≡ false → false ≡ (sized s && writable s)
    mail_fails z = rw (t, z) at (told m _ _ g refl refl)

    module _ (u : m ≡ true) {w : Bool} (k : w ≡ each_below h.frames (λ f. each_below frame_words (zero_word s f))) where
      pub words_fail : w ≡ false → false ≡ (sized s && writable s)
      words_fail z = rw (t, u, z) at (told m w _ g k refl)

      module _ (v : w ≡ true) {b : Bool} (l : b ≡ each_below bells (zero_bell s)) where
        pub bells_fail : b ≡ false → false ≡ (sized s && writable s)
        bells_fail z = rw (t, u, v, z) at (told m w b g k l)

        pub position-tells : b ≡ true → eqb h.position 0 ≡ (sized s && writable s)
        position-tells z = rw (t, u, v, z) at (told m w b g k l)
