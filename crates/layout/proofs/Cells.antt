-- Laws of the layout: what a word of a region is, and what one stored word changes. One law for a store in any region; the laws for the
-- state follow from it by computation. Assumes nothing.
use mathlib.Core.Path.{◌≡◌, refl, sym, ap, ◌∙◌, subst, fun_ext}
use mathlib.Core.Bool.{Bool, true, false, cond, ◌&&◌}
use mathlib.Core.List.{List}
use mathlib.Core.Logic.{◌⊎◌, inl, inr, ⊎_elim}
use Prim.Native.Nat.{ℕ, zero, suc, ◌+◌, ◌*◌, ◌^◌, ◌≤◌, ◌<◌}
use native.Mathlib.Omega.{arith}
use native.Mathlib.Decide.{le_ind}
use lib.Dec.{eqb, leb, ltb}
use lib.ListN.{length, get_or, set}
use lib.Seq.{get_or-set_same, get_or-set_other}
use borrow.Author.Tests.{ltb-true, ltb-false, lt-ltb, le-ltb, le-leb, lt-leb, eqb-true, eq-eqb}
use Rattle.rules.proofs.Places.{same?}
use Rattle.rules.specs.Sizes.{frames_most, places, bells, mailboxes, turns_most, frame_words}
use Rattle.rules.specs.State.{whose}
use Rattle.layout.specs.Layout.{size, base, cells, listed, of_cells, state_of, Headed, frames_at, words_of, words_for, need, HEAD, KIND, RIGHTS, OBJECT, BADGE, SOURCE, BELLS, FULL, FROM, W0, W1, W2, W3}

-- a word of a region
pub cells_at : (m : List ℕ) (r i : ℕ) → i < size r → cells m r i ≡ get_or m (base r + i) 0
unfolding cells
cells_at m r i h = rw (lt-ltb i (size r) h)

-- a region ends before any later one begins
regions_apart : (r q : ℕ) → r < q → base r + size r ≤ base q
unfolding base
regions_apart r q h = le_ind (λ n. base r + size r ≤ base n) (omega arith) (λ n l k. omega arith) q h

-- words of different regions, or of different numbers, stand at different places
apart : (r i q j : ℕ) → i < size r → j < size q → (q ≡ r → j ≡ i → ⊥) → base q + j ≡ base r + i → ⊥
apart r i q j h g n e =
    ⊎_elim (λ z. n z (let w = ap base z in omega arith))
    (λ k. ⊎_elim (λ l. let w = regions_apart q r l in omega arith) (λ l. let w = regions_apart r q l in omega arith) (either_side k))
    (same? q r)
  where
    either_side : (q ≡ r → ⊥) → (q < r) ⊎ (r < q)
    either_side k = go (ltb q r) refl
      where
        go : (t : Bool) → ltb q r ≡ t → (q < r) ⊎ (r < q)
        go true e = inl (ltb-true q r e)
        go false e = inr (let w = ltb-false q r e in omega arith)

-- cells with one word changed
unfoldable pub put : (ℕ → ℕ → ℕ) → ℕ → ℕ → ℕ → ℕ → ℕ → ℕ
put c r i v q j = cond (eqb q r && eqb j i) v (c q j)

put-here : (c : ℕ → ℕ → ℕ) (r i v : ℕ) → put c r i v r i ≡ v
unfolding put
put-here c r i v = rw (eq-eqb r r refl, eq-eqb i i refl)

put-there : (c : ℕ → ℕ → ℕ) (r i v q j : ℕ) → (q ≡ r → j ≡ i → ⊥) → put c r i v q j ≡ c q j
unfolding put
put-there c r i v q j n = go (eqb q r) (eqb j i) refl refl
  where
    go : (t u : Bool) → eqb q r ≡ t → eqb j i ≡ u → cond (t && u) v (c q j) ≡ c q j
    go true true e f = absurd (n (eqb-true q r e) (eqb-true j i f))
    go true false e f = refl
    go false u e f = refl

-- a store to word i of region r changes that word and no other
pub cells-set : (m : List ℕ) (r i v : ℕ) → i < size r → base r + i < length m → cells (set m (base r + i) v) ≡ put (cells m) r i v
unfolding cells
cells-set m r i v h l = fun_ext (λ q. fun_ext (λ j. ⊎_elim (λ w. here q j w) (λ n. there q j n) (both? q j)))
  where
    both? : (q j : ℕ) → ((q ≡ r) × (j ≡ i)) ⊎ (q ≡ r → j ≡ i → ⊥)
    both? q j = ⊎_elim (λ z. ⊎_elim (λ w. inl (z, w)) (λ n. inr (λ a. n)) (same? j i)) (λ n. inr (λ a b. n a)) (same? q r)

    here : (q j : ℕ) → (q ≡ r) × (j ≡ i) → cells (set m (base r + i) v) q j ≡ put (cells m) r i v q j
    here q j w =
        subst (λ x. cells (set m (base r + i) v) x j ≡ put (cells m) r i v x j) (sym w.0)
        (subst (λ x. cells (set m (base r + i) v) r x ≡ put (cells m) r i v r x) (sym w.1)
        (cells_at (set m (base r + i) v) r i h ∙ (get_or-set_same m (base r + i) v 0 l ∙ sym (put-here (cells m) r i v))))

    there : (q j : ℕ) → (q ≡ r → j ≡ i → ⊥) → cells (set m (base r + i) v) q j ≡ put (cells m) r i v q j
    there q j n = go (ltb j (size q)) refl ∙ sym (put-there (cells m) r i v q j n)
      where
        go : (t : Bool) → ltb j (size q) ≡ t → cond t (get_or (set m (base r + i) v) (base q + j) 0) 0 ≡ cond t (get_or m (base q + j) 0) 0
        go true e = get_or-set_other m (base r + i) (base q + j) v 0 (apart r i q j h (ltb-true _ _ e) n)
        go false e = refl

-- what place p holds, read word by word
pub see_law : (m : List ℕ) (p : ℕ) → p < places
    → record { kind = get_or m (68 + p) 0; rights = get_or m (1156 + p) 0; object = get_or m (2244 + p) 0; badge = get_or m (3332 + p) 0; source = get_or m (4420 + p) 0 } ≡ (state_of m).capability p
unfolding state_of of_cells size base
see_law m p h = λ i. record { kind = sym (cells_at m KIND p h) i; rights = sym (cells_at m RIGHTS p h) i; object = sym (cells_at m OBJECT p h) i; badge = sym (cells_at m BADGE p h) i; source = sym (cells_at m SOURCE p h) i }

-- ---- one law for each way in which code reads

-- a test of which one half fails
neither : (x : ℕ) (t : Bool) → cond (t && false) x 0 ≡ 0
neither x true = refl
neither x false = refl

-- past a region's end there is 0
cells-past : (m : List ℕ) (r i : ℕ) → size r ≤ i → 0 ≡ cells m r i
unfolding cells
cells-past m r i h = rw (le-ltb i (size r) h)

pub frames_law : (m : List ℕ) → (state_of m).frames ≡ get_or m 1 0
unfolding state_of of_cells cells size base
frames_law m = refl

pub head_law : (m : List ℕ) → cells m HEAD 1 ≡ get_or m 1 0
unfolding cells size base
head_law m = refl

pub source_law : (m : List ℕ) (p : ℕ) → p < places → get_or m (4420 + p) 0 ≡ ((state_of m).capability p).source
unfolding state_of of_cells size base
source_law m p h = sym (cells_at m SOURCE p h)

pub word_in : (m : List ℕ) (f w : ℕ) → f < get_or m 1 0 → w < frame_words → f < 2 ^ 32 → get_or m (frames_at + (f * frame_words + w)) 0 ≡ (state_of m).word f w
unfolding state_of of_cells cells size base
word_in m f w h g l = rw (lt-ltb f (get_or m 1 0) h, lt-ltb w frame_words g, lt-ltb (f * 256 + w) (2 ^ 64) (omega arith))

word-past : (m : List ℕ) (f w : ℕ) → get_or m 1 0 ≤ f → 0 ≡ (state_of m).word f w
unfolding state_of of_cells cells size base
word-past m f w h = rw (le-ltb f (get_or m 1 0) h)

pub word_beyond : (m : List ℕ) (f w : ℕ) → frame_words ≤ w → 0 ≡ (state_of m).word f w
unfolding state_of of_cells cells size base
word_beyond m f w h = rw (le-ltb w frame_words h) (sym (neither _ (ltb f (get_or m 1 0))))

pub word_outside : (m : List ℕ) (f w : ℕ) → (f < get_or m 1 0 × frame_words ≤ w) ⊎ (get_or m 1 0 ≤ f) → 0 ≡ (state_of m).word f w
word_outside m f w = ⊎_elim (λ b. word_beyond m f w b.1) (word-past m f w)

pub bell_at : (m : List ℕ) (b : ℕ) → b < bells → get_or m (5508 + b) 0 ≡ (state_of m).bell b
unfolding state_of of_cells size base
bell_at m b h = sym (cells_at m BELLS b h)

pub bell-past : (m : List ℕ) (b : ℕ) → bells ≤ b → 0 ≡ (state_of m).bell b
unfolding state_of of_cells size base
bell-past m b h = cells-past m BELLS b h

pub message_at : (m : List ℕ) (b : ℕ) → b < mailboxes
    → record {
      full = get_or m (5572 + b) 0;
      badge = get_or m (5636 + b) 0;
      w0 = get_or m (5700 + b) 0;
      w1 = get_or m (5764 + b) 0;
      w2 = get_or m (5828 + b) 0;
      w3 = get_or m (5892 + b) 0;
    } ≡ (state_of m).message b
unfolding state_of of_cells size base
message_at m b h = λ i. record {
  full = sym (cells_at m FULL b h) i;
  badge = sym (cells_at m FROM b h) i;
  w0 = sym (cells_at m W0 b h) i;
  w1 = sym (cells_at m W1 b h) i;
  w2 = sym (cells_at m W2 b h) i;
  w3 = sym (cells_at m W3 b h) i;
}

pub message-past : (m : List ℕ) (b : ℕ) → mailboxes ≤ b
    → record { full = 0; badge = 0; w0 = 0; w1 = 0; w2 = 0; w3 = 0 } ≡ (state_of m).message b
unfolding state_of of_cells size base
message-past m b h = λ i. record {
  full = cells-past m FULL b h i;
  badge = cells-past m FROM b h i;
  w0 = cells-past m W0 b h i;
  w1 = cells-past m W1 b h i;
  w2 = cells-past m W2 b h i;
  w3 = cells-past m W3 b h i;
}

-- a number of a list, and past its end
pub listed_at : (f : ℕ → ℕ) (n i k : ℕ) → k < n → get_or (listed f n i) k 0 ≡ f (i + k)
unfolding listed
listed_at f zero i k h = absurd (omega arith)
listed_at f (suc n) i zero h = ap f (let e : i ≡ i + 0 = omega arith in e)
listed_at f (suc n) i (suc k) h = listed_at f n (suc i) k (omega arith) ∙ ap f (let e : suc i + k ≡ i + suc k = omega arith in e)

listed-past : (f : ℕ → ℕ) (n i k : ℕ) → n ≤ k → get_or (listed f n i) k 0 ≡ 0
unfolding listed
listed-past f zero i k h = refl
listed-past f (suc n) i zero h = absurd (omega arith)
listed-past f (suc n) i (suc k) h = listed-past f n (suc i) k (omega arith)

pub length-listed : (f : ℕ → ℕ) (n i : ℕ) → length (listed f n i) ≡ n
unfolding listed
length-listed f zero i = refl
length-listed f (suc n) i = ap suc (length-listed f n (suc i))

-- a turn of the table, past its end, and past the region's
pub turn_at : (m : List ℕ) (i : ℕ) → i < get_or m 2 0 → i < turns_most → get_or m (4 + i) 0 ≡ get_or (state_of m).turns i 0
unfolding state_of of_cells cells size base
turn_at m i h g =
    sym (listed_at (λ k. cond (ltb k turns_most) (get_or m (4 + k) 0) 0) (get_or m 2 0) 0 i h
    ∙ rw (let e : 0 + i ≡ i = omega arith in e, lt-ltb i turns_most g))

turn-past : (m : List ℕ) (i : ℕ) → get_or m 2 0 ≤ i → 0 ≡ get_or (state_of m).turns i 0
unfolding state_of of_cells cells size base
turn-past m i h = sym (listed-past (λ k. cond (ltb k turns_most) (get_or m (4 + k) 0) 0) (get_or m 2 0) 0 i h)

turn_beyond : (m : List ℕ) (i : ℕ) → i < get_or m 2 0 → turns_most ≤ i → 0 ≡ get_or (state_of m).turns i 0
unfolding state_of of_cells cells size base
turn_beyond m i h g =
    sym (listed_at (λ k. cond (ltb k turns_most) (get_or m (4 + k) 0) 0) (get_or m 2 0) 0 i h
    ∙ rw (let e : 0 + i ≡ i = omega arith in e, le-ltb i turns_most g))

pub turn_outside : (m : List ℕ) (i : ℕ) → (i < get_or m 2 0 × turns_most ≤ i) ⊎ (get_or m 2 0 ≤ i) → 0 ≡ get_or (state_of m).turns i 0
turn_outside m i = ⊎_elim (λ b. turn_beyond m i b.0 b.1) (turn-past m i)

-- the turn at the position
pub whose_law : (m : List ℕ) → get_or (state_of m).turns (get_or m 3 0) 0 ≡ whose (state_of m)
unfolding state_of of_cells cells size base whose
whose_law m = refl

-- D, F, T and the position, as they stand in memory
pub head_read : (m : List ℕ) → Headed (state_of m) (record { domains = get_or m 0 0; frames = get_or m 1 0; turns = get_or m 2 0; position = get_or m 3 0 })
unfolding state_of of_cells cells size base
head_read m = record { domains = refl; frames = refl; turns = sym (length-listed _ (get_or m 2 0) 0); position = refl }

-- the words that a number of frames takes
pub words_in : (n : ℕ) → 1 ≤ n → n ≤ frames_most → words_for n ≡ words_of n
unfolding words_of
words_in n h g = rw (lt-ltb 0 n (omega arith), le-leb n frames_most g)

pub words_outside : (n : ℕ) → (1 ≤ n × frames_most < n) ⊎ (n < 1) → 0 ≡ words_of n
unfolding words_of
words_outside n =
    ⊎_elim (λ b. rw (lt-leb n frames_most b.1) (sym (neither _ (ltb 0 n)))) (λ h. rw (le-ltb 0 n (let g = h in omega arith)))

-- the test of memory
pub enough_law : (m : List ℕ) → leb (5956 + 256 * get_or m 1 0) (length m) ≡ leb (need m) (length m)
enough_law m = ap (λ n. leb (5956 + 256 * n) (length m)) (sym (frames_law m))
