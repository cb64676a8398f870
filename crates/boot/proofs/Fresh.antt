-- The memory of a state at boot before its capabilities: cleared, with the head and the table of turns. Assumes nothing.
use mathlib.Core.Path.{◌≡◌, refl, sym, ap, ◌∙◌, fun_ext}
use mathlib.Core.Bool.{Bool, true, false, cond, ◌&&◌}
use mathlib.Core.List.{List}
use mathlib.Core.Logic.{⊎_elim}
use Prim.Native.Nat.{ℕ, ◌+◌, ◌*◌, ◌≤◌, ◌<◌}
use native.Mathlib.Omega.{arith}
use lib.Dec.{ltb}
use lib.ListN.{length, get_or, set, length-set}
use lib.Seq.{get_or-set_same, get_or-set_other, ext_get_or}
use borrow.Author.Tests.{ltb-true}
use Rattle.rules.specs.Sizes.{turns_most, frame_words}
use Rattle.layout.specs.Layout.{size, base, cells, listed, of_cells, state_of, frames_at, words_for}
use Rattle.layout.specs.Stored.{Cleared, headed, turning}
use Rattle.boot.specs.Booted.{bare, Fresh}
use Rattle.rules.proofs.Places.{same?}
use Rattle.layout.proofs.Cells.{cells_at, listed_at, length-listed}

-- words of a cleared region
none : (m : List ℕ) (r i : ℕ) → (i < size r → get_or m (base r + i) 0 ≡ 0) → cells m r i ≡ 0
unfolding cells
none m r i h = go (ltb i (size r)) refl
  where
    go : (b : Bool) → ltb i (size r) ≡ b → cond b (get_or m (base r + i) 0) 0 ≡ 0
    go true e = h (ltb-true _ _ e)
    go false e = refl

module _ {domains frames t : ℕ} {turn : ℕ → ℕ} {m : List ℕ} (f : Fresh domains frames t t turn m) (few : t ≤ turns_most) where
  region : (r i : ℕ) → 4 + t ≤ base r → base r + size r ≤ words_for frames → cells m r i ≡ 0
  region r i h g = none m r i (λ l. f.rest (base r + i) (omega arith) (omega arith))

  table : (xs : List ℕ) → length xs ≡ t → ((k : ℕ) → k < t → get_or xs k 0 ≡ turn k) → (state_of m).turns ≡ xs
  unfolding state_of of_cells size base
  table xs l h =
      let n : cells m 0 2 ≡ t = cells_at m 0 2 (omega arith) ∙ f.third in
      ap (λ k. listed (cells m 1) k 0) n
      ∙ ext_get_or 0 (listed (cells m 1) t 0) xs (length-listed (cells m 1) t 0 ∙ sym l)
      (λ k g.
      let j : k < t = (let e = length-listed (cells m 1) t 0 in omega arith) in
      listed_at (cells m 1) t 0 k j ∙ (ap (cells m 1) (let e : 0 + k ≡ k = omega arith in e)
      ∙ (cells_at m 1 k (omega arith) ∙ (f.turns k j ∙ sym (h k j)))))

  pub fresh-state : (xs : List ℕ) → length xs ≡ t → ((k : ℕ) → k < t → get_or xs k 0 ≡ turn k) → state_of m ≡ bare domains frames xs
  unfolding state_of of_cells bare size base
  fresh-state xs l h =
      λ i. record {
        domains = (cells_at m 0 0 (omega arith) ∙ f.first) i;
        frames = (cells_at m 0 1 (omega arith) ∙ f.second) i;
        turns = table xs l h i;
        position = (cells_at m 0 3 (omega arith) ∙ f.position) i;
        capability = λ p. record {
          kind = region 2 p (omega arith) (omega arith) i;
          rights = region 3 p (omega arith) (omega arith) i;
          object = region 4 p (omega arith) (omega arith) i;
          badge = region 5 p (omega arith) (omega arith) i;
          source = region 6 p (omega arith) (omega arith) i;
        };
        word = fun_ext (λ a. fun_ext (λ w. blank a w)) i;
        bell = λ b. region 7 b (omega arith) (omega arith) i;
        message = λ b. record {
          full = region 8 b (omega arith) (omega arith) i;
          badge = region 9 b (omega arith) (omega arith) i;
          w0 = region 10 b (omega arith) (omega arith) i;
          w1 = region 11 b (omega arith) (omega arith) i;
          w2 = region 12 b (omega arith) (omega arith) i;
          w3 = region 13 b (omega arith) (omega arith) i;
        };
      }
    where
      blank : (a w : ℕ) → cond (ltb a (cells m 0 1) && ltb w frame_words) (cells m 14 (a * frame_words + w)) 0 ≡ 0
      blank a w = go (ltb a (cells m 0 1)) (ltb w frame_words) refl refl
        where
          go : (x y : Bool) → ltb a (cells m 0 1) ≡ x → ltb w frame_words ≡ y → cond (x && y) (cells m 14 (a * frame_words + w)) 0 ≡ 0
          go true true e g =
              let c = cells_at m 0 1 (omega arith) ∙ f.second in
              let p = ltb-true a (cells m 0 1) e in
              let q = ltb-true w frame_words g in
              none m 14 (a * frame_words + w) (λ k. f.rest (base 14 + (a * frame_words + w)) (omega arith) (omega arith))
          go true false e g = refl
          go false y e g = refl

-- ---- how the code comes to it

-- cleared memory, with the head
pub fresh-headed : {domains frames t : ℕ} {turn : ℕ → ℕ} {m o : List ℕ} → frames_at ≤ length o → Cleared (words_for frames) m o
    → Fresh domains frames t 0 turn (headed domains frames t o)
unfolding headed
fresh-headed {domains} {frames} {t} {turn} {m} {o} l c =
    let a = set o 0 domains in
    let b = set a 1 frames in
    let la : length a ≡ length o = length-set o 0 domains in
    let lb : length b ≡ length a = length-set a 1 frames in
    record {
      first = get_or-set_other b 2 0 t 0 (λ e. omega arith) ∙ (get_or-set_other a 1 0 frames 0 (λ e. omega arith) ∙ get_or-set_same o 0 domains 0 (omega arith));
      second = get_or-set_other b 2 1 t 0 (λ e. omega arith) ∙ get_or-set_same a 1 frames 0 (omega arith);
      third = get_or-set_same b 2 t 0 (omega arith);
      turns = λ k h. absurd (omega arith);
      rest = λ k h g. past k (omega arith) ∙ c.zero k g;
      position = past 3 (omega arith) ∙ c.zero 3 (omega arith);
    }
  where
    past : (k : ℕ) → 3 ≤ k → get_or (set (set (set o 0 domains) 1 frames) 2 t) k 0 ≡ get_or o k 0
    past k h =
        get_or-set_other (set (set o 0 domains) 1 frames) 2 k t 0 (λ e. omega arith)
        ∙ (get_or-set_other (set o 0 domains) 1 k frames 0 (λ e. omega arith) ∙ get_or-set_other o 0 k domains 0 (λ e. omega arith))

-- one more turn
pub fresh-turn : {domains frames t i v : ℕ} {turn : ℕ → ℕ} {m : List ℕ} → frames_at ≤ length m → i < turns_most → v ≡ turn i
    → Fresh domains frames t i turn m → Fresh domains frames t (i + 1) turn (turning i v m)
unfolding turning
fresh-turn {domains} {frames} {t} {i} {v} {turn} {m} l h e f =
    record {
      first = get_or-set_other m (4 + i) 0 v 0 (λ z. omega arith) ∙ f.first;
      second = get_or-set_other m (4 + i) 1 v 0 (λ z. omega arith) ∙ f.second;
      third = get_or-set_other m (4 + i) 2 v 0 (λ z. omega arith) ∙ f.third;
      turns = λ k g. ⊎_elim (λ z. ap (λ j. get_or (set m (4 + i) v) (4 + j) 0) z ∙ (get_or-set_same m (4 + i) v 0 (omega arith) ∙ (e ∙ ap turn (sym z))))
          (λ n. get_or-set_other m (4 + i) (4 + k) v 0 (λ z. n (omega arith)) ∙ f.turns k (omega arith)) (same? k i);
      rest = λ k g j. get_or-set_other m (4 + i) k v 0 (λ z. omega arith) ∙ f.rest k (omega arith) j;
      position = get_or-set_other m (4 + i) 3 v 0 (λ z. omega arith) ∙ f.position;
    }
