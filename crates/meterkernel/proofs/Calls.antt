-- A turn through the C interface: the words of an answer. Assumes nothing.
use mathlib.Core.Path.{◌≡◌, refl}
use mathlib.Core.List.{List, [], ◌∷◌}
use Prim.Native.Nat.{ℕ, zero, suc, ◌≤◌}
use native.Mathlib.Omega.{arith}
use lib.ListN.{length, get_or, set}
use Rattle.rules.specs.declared.Answer.{Answer}
use Rattle.meterkernel.specs.Entries.{answer_words, answer_in, Told}

-- six stores at the first six words
pub told_six : (a : List ℕ) (x : Answer) → answer_words ≤ length a
    → Told x a (set (set (set (set (set (set a 0 x.w0) 1 x.w1) 2 x.w2) 3 x.w3) 4 x.w4) 5 x.w5)
unfolding answer_in
told_six (a ∷ b ∷ c ∷ d ∷ e ∷ f ∷ l) x h = record { words = refl; long = refl; behind = after }
  where
    after : (k : ℕ) → answer_words ≤ k
        → get_or (x.w0 ∷ x.w1 ∷ x.w2 ∷ x.w3 ∷ x.w4 ∷ x.w5 ∷ l) k 0 ≡ get_or (a ∷ b ∷ c ∷ d ∷ e ∷ f ∷ l) k 0
    after (suc (suc (suc (suc (suc (suc k)))))) g = refl
    after zero g = absurd (omega arith)
    after (suc zero) g = absurd (omega arith)
    after (suc (suc zero)) g = absurd (omega arith)
    after (suc (suc (suc zero))) g = absurd (omega arith)
    after (suc (suc (suc (suc zero)))) g = absurd (omega arith)
    after (suc (suc (suc (suc (suc zero))))) g = absurd (omega arith)
told_six [] x h = absurd (omega arith)
told_six (a ∷ []) x h = absurd (omega arith)
told_six (a ∷ b ∷ []) x h = absurd (omega arith)
told_six (a ∷ b ∷ c ∷ []) x h = absurd (omega arith)
told_six (a ∷ b ∷ c ∷ d ∷ []) x h = absurd (omega arith)
told_six (a ∷ b ∷ c ∷ d ∷ e ∷ []) x h = absurd (omega arith)
