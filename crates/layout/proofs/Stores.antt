-- Stores, one after the other, and what they come to for the state. Assumes nothing.
use mathlib.Core.Path.{◌≡◌, refl, sym, ap, ◌∙◌, subst, fun_ext}
use mathlib.Core.Bool.{Bool, true, false, cond, ◌&&◌}
use mathlib.Core.List.{List}
use mathlib.Core.Logic.{⊎_elim}
use Prim.Native.Nat.{ℕ, suc, ◌+◌, ◌*◌, ◌^◌, ◌≤◌, ◌<◌}
use native.Mathlib.Omega.{arith}
use native.Mathlib.Nat.{le_antisymm}
use lib.Dec.{eqb, ltb}
use lib.ListN.{length, get_or, set, length-set}
use lib.Seq.{get_or-set_same, get_or-set_other}
use borrow.Author.Tests.{ltb-true, lt-ltb, eqb-true, eqb-false, eq-eqb, ne_eqb}
use Rattle.rules.specs.Sizes.{places, bells, mailboxes, frame_words}
use Rattle.rules.specs.State.{State}
use Rattle.rules.proofs.Places.{same?}
use Rattle.rules.specs.Turn.{set as set_at, advance}
use Rattle.rules.specs.declared.Capability.{Capability}
use Rattle.rules.specs.declared.Message.{Message}
use Rattle.layout.specs.Layout.{size, base, cells, of_cells, state_of, frames_at, need, Enough, HEAD, TURNS, KIND, RIGHTS, OBJECT, BADGE, SOURCE, BELLS, FULL, FROM, W0, W1, W2, W3, FRAMES}
use Rattle.layout.specs.Stored.{Stored, placed, resourced, handed, worded, belled, mailed, Placed, Cleared}
use Rattle.layout.proofs.Cells.{put, cells_at, cells-set, frames_law, head_law, length-listed}

-- m became n by stores to the state's own words, and its cells are now c
pub record Wrote (m n : List ℕ) (c : ℕ → ℕ → ℕ) : Type 0 where
  pub long : length n ≡ length m
  pub behind : (k : ℕ) → need m ≤ k → get_or n k 0 ≡ get_or m k 0
  pub cell : cells n ≡ c

pub wrote_none : (m : List ℕ) → Wrote m m (cells m)
wrote_none m = record { long = refl; behind = λ k h. refl; cell = refl }

-- one more store
pub wrote-set : {m n : List ℕ} {c : ℕ → ℕ → ℕ} → Enough m → (r i v : ℕ) → i < size r → base r + i < need m → Wrote m n c
    → Wrote m (set n (base r + i) v) (put c r i v)
wrote-set {m} {n} {c} e r i v h l w =
    record {
      long = length-set n (base r + i) v ∙ w.long;
      behind = λ k g. get_or-set_other n (base r + i) k v 0 (λ z. omega arith) ∙ w.behind k g;
      cell = cells-set n r i v h (let g = w.long in omega arith) ∙ ap (λ d. put d r i v) w.cell;
    }

-- what the stores come to for the state
pub wrote-stored : {ok : Type 0} {f : State → State} {m n : List ℕ} {c : ℕ → ℕ → ℕ} → Wrote m n c → of_cells c ≡ f (of_cells (cells m))
    → (f (of_cells (cells m))).frames ≡ (of_cells (cells m)).frames → Stored ok f m n
unfolding state_of
wrote-stored w h g =
    record { long = w.long; frames = ap (λ d. (of_cells d).frames) w.cell ∙ (ap (λ s. s.frames) h ∙ g); behind = w.behind; exact = λ o. ap of_cells w.cell ∙ h }

-- a choice between records is a record of choices
either_capability : (t : Bool) (c d : Capability)
    → record {
      kind = cond t c.kind d.kind;
      rights = cond t c.rights d.rights;
      object = cond t c.object d.object;
      badge = cond t c.badge d.badge;
      source = cond t c.source d.source;
    } ≡ cond t c d
either_capability true c d = refl
either_capability false c d = refl

-- the five words of a place
place-cells : (c : ℕ → ℕ → ℕ) (p : ℕ) (x : Capability)
    → of_cells (put (put (put (put (put c KIND p x.kind) RIGHTS p x.rights) OBJECT p x.object) BADGE p x.badge) SOURCE p x.source)
    ≡ placed p x (of_cells c)
unfolding of_cells put placed set_at
place-cells c p x = λ i. record {
  domains = c HEAD 0;
  frames = c HEAD 1;
  turns = (of_cells c).turns;
  position = c HEAD 3;
  capability = fun_ext (λ q. either_capability (eqb q p) x ((of_cells c).capability q)) i;
  word = (of_cells c).word;
  bell = (of_cells c).bell;
  message = (of_cells c).message;
}

pub place_law : (m : List ℕ) (p : ℕ) (x : Capability) → Enough m → p < places
    → Stored (p < places) (placed p x) m
    (set (set (set (set (set m (68 + p) x.kind) (1156 + p) x.rights) (2244 + p) x.object) (3332 + p) x.badge) (4420 + p) x.source)
unfolding state_of size base placed
place_law m p x e h =
    wrote-stored
    (wrote-set e SOURCE p x.source h (omega arith)
    (wrote-set e BADGE p x.badge h (omega arith)
    (wrote-set e OBJECT p x.object h (omega arith)
    (wrote-set e RIGHTS p x.rights h (omega arith)
    (wrote-set e KIND p x.kind h (omega arith) (wrote_none m))))))
    (place-cells (cells m) p x) refl

-- nothing is stored where what is asked does not hold
pub stored-nothing : {ok : Type 0} {f : State → State} {m : List ℕ} → (ok → ⊥) → Stored ok f m m
stored-nothing n = record { long = refl; frames = refl; behind = λ k h. refl; exact = λ o. absurd (n o) }

-- one store after another
pub stored_then : {p q : Type 0} {f g : State → State} {m n o : List ℕ} → Stored p f m n → Stored q g n o → Stored (p × q) (λ s. g (f s)) m o
stored_then {g = g} {m = m} {n = n} a b =
    record {
      long = b.long ∙ a.long;
      frames = b.frames ∙ a.frames;
      behind = λ k h. b.behind k (let e = a.frames in omega arith) ∙ a.behind k h;
      exact = λ o. b.exact o.1 ∙ ap g (a.exact o.0);
    }

-- memory that is long enough stays so
pub enough-kept : {ok : Type 0} {f : State → State} {m n : List ℕ} → Stored ok f m n → Enough m → Enough n
enough-kept s e = let l = s.long in let g = s.frames in omega arith

-- ---- the source of one place

hand_cells : (c : ℕ → ℕ → ℕ) (p x y v : ℕ) → v ≡ cond (eqb (c SOURCE p) x) y (c SOURCE p) → of_cells (put c SOURCE p v) ≡ handed p x y (of_cells c)
unfolding of_cells put handed set_at resourced
hand_cells c p x y v e = λ i. record {
  domains = c HEAD 0;
  frames = c HEAD 1;
  turns = (of_cells c).turns;
  position = c HEAD 3;
  capability = fun_ext (λ q. go q (eqb q p) refl) i;
  word = (of_cells c).word;
  bell = (of_cells c).bell;
  message = (of_cells c).message;
}
  where
    go : (q : ℕ) (t : Bool) → eqb q p ≡ t
        → record { kind = c KIND q; rights = c RIGHTS q; object = c OBJECT q; badge = c BADGE q; source = cond t v (c SOURCE q) }
        ≡ cond t (resourced x y ((of_cells c).capability p)) ((of_cells c).capability q)
    go q true z = λ i. record { kind = c KIND (eqb-true q p z i); rights = c RIGHTS (eqb-true q p z i); object = c OBJECT (eqb-true q p z i); badge = c BADGE (eqb-true q p z i); source = e i }
    go q false z = refl

pub hand_law : (m : List ℕ) (p x y v : ℕ) → Enough m → p < places → v ≡ cond (eqb (get_or m (4420 + p) 0) x) y (get_or m (4420 + p) 0)
    → Stored (p < places) (handed p x y) m (set m (4420 + p) v)
unfolding size base handed
hand_law m p x y v e h g =
    wrote-stored (wrote-set e SOURCE p v h (omega arith) (wrote_none m))
    (hand_cells (cells m) p x y v (g ∙ ap (λ s. cond (eqb s x) y s) (sym (cells_at m SOURCE p h)))) refl

-- ---- a word of a frame

-- another word of a frame stands elsewhere
word_other : (f w a b v x : ℕ) (t : Bool) → w < frame_words → (a ≡ f → b ≡ w → ⊥)
    → cond (t && ltb b frame_words) (cond (eqb (a * frame_words + b) (f * frame_words + w)) v x) 0 ≡ cond (t && ltb b frame_words) x 0
word_other f w a b v x false g n = refl
word_other f w a b v x true g n = go (ltb b frame_words) refl
  where
    go : (u : Bool) → ltb b frame_words ≡ u → cond u (cond (eqb (a * frame_words + b) (f * frame_words + w)) v x) 0 ≡ cond u x 0
    go true e =
        let l = ltb-true b frame_words e in
        ap (λ y. cond y v x) (ne_eqb (a * frame_words + b) (f * frame_words + w)
        (λ z. n (let k : a ≡ f = omega arith in k) (let k : b ≡ w = omega arith in k)))
    go false e = refl

word_cells : (c : ℕ → ℕ → ℕ) (f w v : ℕ) → f < c HEAD 1 → w < frame_words → of_cells (put c FRAMES (f * frame_words + w) v) ≡ worded f w v (of_cells c)
unfolding of_cells put worded set_at
word_cells c f w v h g = λ i. record {
  domains = c HEAD 0;
  frames = c HEAD 1;
  turns = (of_cells c).turns;
  position = c HEAD 3;
  capability = (of_cells c).capability;
  word = fun_ext (λ a. fun_ext (λ b. go a b (eqb a f) (eqb b w) refl refl)) i;
  bell = (of_cells c).bell;
  message = (of_cells c).message;
}
  where
    go : (a b : ℕ) (t u : Bool) → eqb a f ≡ t → eqb b w ≡ u
        → cond (ltb a (c HEAD 1) && ltb b frame_words) (cond (eqb (a * frame_words + b) (f * frame_words + w)) v (c FRAMES (a * frame_words + b))) 0
        ≡ cond t (λ j. cond (eqb j w) v ((of_cells c).word f j)) ((of_cells c).word a) b
    go a b true true p q =
        let z = eqb-true a f p in
        let y = eqb-true b w q in
        rw (z, y, lt-ltb f (c HEAD 1) h, lt-ltb w frame_words g, eq-eqb (f * frame_words + w) (f * frame_words + w) refl, eq-eqb w w refl)
    go a b true false p q =
        word_other f w a b v _ (ltb a (c HEAD 1)) g (λ x. eqb-false b w q)
        ∙ rw (eqb-true a f p, q)
    go a b false u p q = word_other f w a b v _ (ltb a (c HEAD 1)) g (λ x y. eqb-false a f p x)

pub word_law : (m : List ℕ) (f w v : ℕ) → Enough m → f < get_or m 1 0 → w < frame_words → f < 2 ^ 32
    → Stored ((f < (state_of m).frames) × (w < frame_words)) (worded f w v) m (set m (frames_at + (f * frame_words + w)) v)
unfolding size base worded
word_law m f w v e h g l =
    let n = frames_law m in
    (wrote-stored (wrote-set e FRAMES (f * frame_words + w) v (omega arith) (omega arith) (wrote_none m))
    (word_cells (cells m) f w v (subst (λ x. f < x) (sym (head_law m)) h) g) refl)

-- ---- a bell

bell-cells : (c : ℕ → ℕ → ℕ) (b v : ℕ) → of_cells (put c BELLS b v) ≡ belled b v (of_cells c)
unfolding of_cells put belled set_at
bell-cells c b v = refl

pub bell_law : (m : List ℕ) (b v : ℕ) → Enough m → b < bells → Stored (b < bells) (belled b v) m (set m (5508 + b) v)
unfolding size base belled
bell_law m b v e h = wrote-stored (wrote-set e BELLS b v h (omega arith) (wrote_none m)) (bell-cells (cells m) b v) refl

-- ---- a message

either_message : (t : Bool) (c d : Message)
    → record {
      full = cond t c.full d.full;
      badge = cond t c.badge d.badge;
      w0 = cond t c.w0 d.w0;
      w1 = cond t c.w1 d.w1;
      w2 = cond t c.w2 d.w2;
      w3 = cond t c.w3 d.w3;
    } ≡ cond t c d
either_message true c d = refl
either_message false c d = refl

message-cells : (c : ℕ → ℕ → ℕ) (b : ℕ) (g : Message)
    → of_cells (put (put (put (put (put (put c FULL b g.full) FROM b g.badge) W0 b g.w0) W1 b g.w1) W2 b g.w2) W3 b g.w3)
    ≡ mailed b g (of_cells c)
unfolding of_cells put mailed set_at
message-cells c b g = λ i. record {
  domains = c HEAD 0;
  frames = c HEAD 1;
  turns = (of_cells c).turns;
  position = c HEAD 3;
  capability = (of_cells c).capability;
  word = (of_cells c).word;
  bell = (of_cells c).bell;
  message = fun_ext (λ q. either_message (eqb q b) g ((of_cells c).message q)) i;
}

pub message_law : (m : List ℕ) (b : ℕ) (g : Message) → Enough m → b < mailboxes
    → Stored (b < mailboxes) (mailed b g) m
    (set (set (set (set (set (set m (5572 + b) g.full) (5636 + b) g.badge) (5700 + b) g.w0) (5764 + b) g.w1) (5828 + b) g.w2) (5892 + b) g.w3)
unfolding size base mailed
message_law m b g e h =
    wrote-stored
    (wrote-set e W3 b g.w3 h (omega arith)
    (wrote-set e W2 b g.w2 h (omega arith)
    (wrote-set e W1 b g.w1 h (omega arith)
    (wrote-set e W0 b g.w0 h (omega arith)
    (wrote-set e FROM b g.badge h (omega arith)
    (wrote-set e FULL b g.full h (omega arith) (wrote_none m)))))))
    (message-cells (cells m) b g) refl

-- ---- the position

position-cells : (c : ℕ → ℕ → ℕ) (v : ℕ) → v ≡ cond (eqb (suc (c HEAD 3)) (c HEAD 2)) 0 (suc (c HEAD 3)) → of_cells (put c HEAD 3 v) ≡ advance (of_cells c)
unfolding of_cells put advance
position-cells c v e = λ i. record {
  domains = c HEAD 0;
  frames = c HEAD 1;
  turns = (of_cells c).turns;
  position = (e ∙ ap (λ l. cond (eqb (suc (c HEAD 3)) l) 0 (suc (c HEAD 3))) (sym (length-listed (c TURNS) (c HEAD 2) 0))) i;
  capability = (of_cells c).capability;
  word = (of_cells c).word;
  bell = (of_cells c).bell;
  message = (of_cells c).message;
}

pub position_law : (m : List ℕ) (v : ℕ) → Enough m
    → (get_or m 3 0 < get_or m 2 0 → v ≡ cond (eqb (suc (get_or m 3 0)) (get_or m 2 0)) 0 (suc (get_or m 3 0)))
    → Stored (Placed (state_of m)) advance m (set m 3 v)
unfolding state_of of_cells cells size base put
position_law m v e h =
    let w = wrote-set e HEAD 3 v (omega arith) (omega arith) (wrote_none m) in
    record {
      long = w.long;
      frames = ap (λ c. c HEAD 1) w.cell;
      behind = w.behind;
      exact = λ o. ap of_cells w.cell ∙ position-cells (cells m) v (h (subst (λ n. get_or m 3 0 < n) (length-listed (cells m TURNS) (get_or m 2 0) 0) o));
    }

-- ---- words cleared one after the other

pub cleared_none : (m : List ℕ) → Cleared 0 m m
cleared_none m = record { long = refl; zero = λ k h. absurd (omega arith); behind = λ k h. refl }

pub cleared_more : {i : ℕ} {m o : List ℕ} → i < length m → Cleared i m o → Cleared (i + 1) m (set o i 0)
cleared_more {i} {m} {o} h c =
    record {
      long = length-set o i 0 ∙ c.long;
      zero = λ k l. ⊎_elim (λ e. ap (λ j. get_or (set o i 0) j 0) e ∙ get_or-set_same o i 0 0 (let g = c.long in omega arith))
          (λ n. get_or-set_other o i k 0 0 n ∙ c.zero k (omega arith)) (same? k i);
      behind = λ k l. get_or-set_other o i k 0 0 (λ e. omega arith) ∙ c.behind k (omega arith);
    }

pub cleared_all : {i n : ℕ} {m o : List ℕ} → i ≤ n → n ≤ i → Cleared i m o → Cleared n m o
cleared_all {m = m} {o} h g c = subst (λ k. Cleared k m o) (let e = le_antisymm h g in e) c

-- one store leaves every other word as it was
pub elsewhere-set : (m : List ℕ) (i v k : ℕ) → (k ≡ i → ⊥) → get_or (set m i v) k 0 ≡ get_or m k 0
elsewhere-set m i v k h = get_or-set_other m i k v 0 h
