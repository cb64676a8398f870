-- Loading, put together: from cleared memory by the head, the turns and the entries to the state that the image describes; what the code
-- needs on the way; memory is good at boot. Assumes nothing.
use mathlib.Core.Path.{◌≡◌, refl, sym, ap, ◌∙◌, subst}
use mathlib.Core.List.Memᴰ
use mathlib.Core.List.{List, [], ◌∷◌, ◌++◌, Memᴰ}
use mathlib.Core.Bool.{true}
use Prim.Native.Nat.{ℕ, zero, suc, ◌+◌, ◌-◌, ◌*◌, ◌/◌, ◌≤◌, ◌<◌}
use native.Mathlib.Omega.{arith}
use lib.Dec.{ltb}
use lib.ListN.{length, get_or, drop, set as store, length-set, length-take, length-drop}
use lib.Seq.{get_or-set_other, get_or-take, get_or-drop}
use borrow.Author.Tests.{ltb-true}
use Rattle.rules.specs.Sizes.{turns_most, places}
use Rattle.rules.specs.State.{State, Places, Section4, Formed}
use Rattle.rules.specs.Turn.{set, with_places}
use Rattle.rules.specs.Image.{Bytes, byte, header_bytes, entry_bytes, size_d, size_t, size_c, size_f, padded, entries_at, length_for, table_of, entry_at, entries_from, image_of, place_of, capability_given, given, boot, rising, all, refusal_of, accepted, read_as, read as readImage}
use Rattle.rules.specs.Worked.{bytes as worked}
use Rattle.rules.specs.declared.Capability.{Capability}
use Rattle.rules.proofs.Laws.{both, passes}
use Rattle.rules.proofs.Given.{EntryRight, FormRight, form-right}
use Rattle.rules.proofs.Bootable.{boot-formed, boot-section4}
use Rattle.rules.proofs.Worked.{bytes-accepted}
use Rattle.layout.specs.Layout.{state_of, frames_at, words_for, words_of, Enough}
use Rattle.layout.specs.Stored.{Stored, placed, Cleared, headed, turning}
use Rattle.layout.proofs.Cells.{words_in}
use Rattle.layout.proofs.Stores.{place_law, cleared_none, cleared_more, cleared_all}
use Rattle.turn.specs.Turned.{Good}
use Rattle.image.specs.declared.Fields.{Fields}
use Rattle.image.specs.Said.{said, Fetched}
use Rattle.boot.specs.Booted.{Loaded, Booted, bare, Tabled, Entered}
use Rattle.boot.proofs.Fresh.{fresh-headed, fresh-turn, fresh-state}
use Rattle.boot.proofs.Rising.{entries_more, entries_split, rising-below, given_more}

-- what is right about an accepted image
pub right : (b : List ℕ) → refusal_of b ≡ 0 → FormRight b
unfolding refusal_of
right b h = form-right b (passes _ _ 25 h).0

-- its length
pub whole : (b : List ℕ) → FormRight b → length b ≡ header_bytes + (size_t b + 3) / 4 * 4 + entry_bytes * size_c b
unfolding length_for entries_at padded
whole b f = f.exact

-- entry i of an accepted image is right, and for a later place than those before it
module _ (b : List ℕ) (f : FormRight b) (i : ℕ) (h : i < size_c b) where
  here : entries_from b (size_c b) (entries_at (size_t b))
      ≡ entries_from b i (entries_at (size_t b)) ++ (entry_at b (entries_at (size_t b) + entry_bytes * i)
      ∷ entries_from b (size_c b - suc i) (entries_at (size_t b) + entry_bytes * i + entry_bytes))
  unfolding entries_from
  here =
      ap (λ k. entries_from b k (entries_at (size_t b))) (let e : size_c b ≡ i + suc (size_c b - suc i) = omega arith in e)
      ∙ entries_split b i (suc (size_c b - suc i)) (entries_at (size_t b))

  pub entry_fine : EntryRight (size_d b) (size_f b) (entry_at b (entries_at (size_t b) + entry_bytes * i))
  unfolding image_of
  entry_fine = f.entry _ (subst (λ l. Memᴰ (entry_at b (entries_at (size_t b) + entry_bytes * i)) l) (sym here) (Memᴰ.append_right (entries_from b i (entries_at (size_t b))) (Memᴰ.head refl)))

  pub given-next : given (entries_from b (i + 1) (entries_at (size_t b)))
      ≡ set (given (entries_from b i (entries_at (size_t b)))) (place_of (entry_at b (entries_at (size_t b) + entry_bytes * i))) (capability_given (entry_at b (entries_at (size_t b) + entry_bytes * i)))
  unfolding image_of
  given-next =
      ap given (entries_more b i (entries_at (size_t b)))
      ∙ given_more (entries_from b i (entries_at (size_t b))) _
      (λ e m z. let g = rising-below (entries_from b i (entries_at (size_t b))) _ _ (subst (λ l. rising l ≡ true) here f.rises) e m in omega arith)

-- ---- the ways of the code

headed-long : (d f t : ℕ) (o : List ℕ) → length (headed d f t o) ≡ length o
unfolding headed
headed-long d f t o = length-set (store (store o 0 d) 1 f) 2 t ∙ (length-set (store o 0 d) 1 f ∙ length-set o 0 d)

headed-behind : (d f t : ℕ) (o : List ℕ) (k : ℕ) → 3 ≤ k → get_or (headed d f t o) k 0 ≡ get_or o k 0
unfolding headed
headed-behind d f t o k h =
    get_or-set_other (store (store o 0 d) 1 f) 2 k t 0 (λ e. omega arith)
    ∙ (get_or-set_other (store o 0 d) 1 k f 0 (λ e. omega arith) ∙ get_or-set_other o 0 k d 0 (λ e. omega arith))

turning-long : (i v : ℕ) (o : List ℕ) → length (turning i v o) ≡ length o
unfolding turning
turning-long i v o = length-set o (4 + i) v

turning-behind : (i v : ℕ) (o : List ℕ) (k : ℕ) → i < turns_most → frames_at ≤ k → get_or (turning i v o) k 0 ≡ get_or o k 0
unfolding turning
turning-behind i v o k h g = get_or-set_other o (4 + i) k v 0 (λ e. omega arith)

table-long : (b : List ℕ) → FormRight b → length (table_of b) ≡ size_t b
unfolding table_of
table-long b f = let w = whole b f in simp (length-take, length-drop) (omega arith)

table_at : (b : List ℕ) (k : ℕ) → k < size_t b → get_or (table_of b) k 0 ≡ byte b (header_bytes + k)
unfolding table_of
table_at b k h = get_or-take (size_t b) (drop header_bytes b) k 0 h ∙ get_or-drop header_bytes b k 0

bare-frames : (b : List ℕ) → (bare (size_d b) (size_f b) (table_of b)).frames ≡ size_f b
unfolding bare
bare-frames b = refl

placed-bare : (b : List ℕ) (p : ℕ) (c : Capability) (at : Places)
    → placed p c (with_places (bare (size_d b) (size_f b) (table_of b)) at) ≡ with_places (bare (size_d b) (size_f b) (table_of b)) (set at p c)
unfolding placed
placed-bare b p c at = refl

pub tabled_head : {b m o : List ℕ} → frames_at ≤ length o → Cleared (words_for (size_f b)) m o → Tabled b m (headed (size_d b) (size_f b) (size_t b) o) 0
tabled_head {b} {m} {o} l c =
    record {
      fresh = fresh-headed l c;
      long = headed-long (size_d b) (size_f b) (size_t b) o ∙ c.long;
      behind = λ k h. headed-behind (size_d b) (size_f b) (size_t b) o k (omega arith) ∙ c.behind k h;
    }

pub tabled_turn : {b m o : List ℕ} {i v : ℕ} → frames_at ≤ length o → i < turns_most → v ≡ byte b (header_bytes + i) → Tabled b m o i → Tabled b m (turning i v o) (i + 1)
tabled_turn {b} {m} {o} {i} {v} l h e t =
    record {
      fresh = fresh-turn l h e t.fresh;
      long = turning-long i v o ∙ t.long;
      behind = λ k g. turning-behind i v o k h (omega arith) ∙ t.behind k g;
    }

pub entered_none : {b m o : List ℕ} → FormRight b → Tabled b m o (size_t b) → Entered b m o 0
unfolding bare given entries_from
entered_none {b} {m} {o} f t =
    record {
      long = t.long;
      behind = t.behind;
      state = fresh-state t.fresh f.turns.1 (table_of b) (table-long b f) (table_at b);
    }

pub entered_more : {b m o n : List ℕ} {i p : ℕ} {c : Capability} → FormRight b → i < size_c b → Entered b m o i
    → p ≡ place_of (entry_at b (entries_at (size_t b) + entry_bytes * i)) → c ≡ capability_given (entry_at b (entries_at (size_t b) + entry_bytes * i))
    → Stored (p < places) (placed p c) o n → Entered b m n (i + 1)
entered_more {b} {m} {o} {n} {i} {p} {c} f h e q r s =
    let g = entry_fine b f i h in
    let k = g.domain in
    let j = g.slot in
    let d = f.domains.1 in
    let same : (state_of o).frames ≡ size_f b = ap (λ x. x.frames) e.state ∙ bare-frames b in
    record {
      long = s.long ∙ e.long;
      behind = λ x y. s.behind x (omega arith) ∙ e.behind x y;
      state =
          s.exact (omega arith)
          ∙ (ap (placed p c) e.state
          ∙ (placed-bare b p c (given (entries_from b i (entries_at (size_t b))))
          ∙ ap (with_places (bare (size_d b) (size_f b) (table_of b)))
          (ap (λ y. set (given (entries_from b i (entries_at (size_t b)))) y c) q
          ∙ (ap (set (given (entries_from b i (entries_at (size_t b)))) (place_of (entry_at b (entries_at (size_t b) + entry_bytes * i)))) r ∙ sym (given-next b f i h)))));
    }

pub entered_all : {b m o : List ℕ} → Entered b m o (size_c b) → Loaded b m o
unfolding boot image_of bare
entered_all e = record { long = e.long; behind = e.behind; state = e.state }

-- from an earlier memory
pub tabled_since : {b m o n : List ℕ} {i j : ℕ} → Tabled b m o i → Tabled b o n j → Tabled b m n j
tabled_since s t = record { fresh = t.fresh; long = t.long ∙ s.long; behind = λ k h. t.behind k h ∙ s.behind k h }

pub tabled_now : {b m o : List ℕ} {i : ℕ} → Tabled b m o i → Tabled b o o i
tabled_now t = record { fresh = t.fresh; long = refl; behind = λ k h. refl }

pub entered_since : {b m o n : List ℕ} {i j : ℕ} → Entered b m o i → Entered b o n j → Entered b m n j
entered_since s t = record { long = t.long ∙ s.long; behind = λ k h. t.behind k h ∙ s.behind k h; state = t.state }

pub entered_now : {b m o : List ℕ} {i : ℕ} → Entered b m o i → Entered b o o i
entered_now t = record { long = refl; behind = λ k h. refl; state = t.state }

-- the memory stays long enough for the state
pub entered_enough : {b m o : List ℕ} {i : ℕ} → Entered b m o i → words_for (size_f b) ≤ length m → Enough o
entered_enough {b} e h = let same = ap (λ x. x.frames) e.state ∙ bare-frames b in let l = e.long in omega arith

-- ---- the needs of the code

-- one turn more, as it stands in the table
pub tabled_next : {b m o n table : List ℕ} {i v : ℕ} → n ≡ turning i v o → frames_at ≤ length o → FormRight b → table ≡ table_of b → i < length table
    → v ≡ get_or table i 0 → Tabled b m o i → Tabled b m n (i + 1)
tabled_next {b} {m} {o} {n} {table} {i} {v} e l f z h g t =
    let w = table-long b f in
    let k : i < size_t b = omega (arith, ap length z) in
    let turns = f.turns.1 in
    rw e (tabled_turn l (omega arith) (g ∙ (ap (λ x. get_or x i 0) z ∙ table_at b i k)) t)

-- the turns that the table has
pub turns-low : {b table : List ℕ} → FormRight b → table ≡ table_of b → (length table ≡ size_t b) × (size_t b ≤ turns_most)
turns-low {b} {table} f z = (ap length z ∙ table-long b f, f.turns.1)

-- cleared memory, with the head that the code wrote
pub tabled_start : {b m o n : List ℕ} {w d f t : ℕ} → w ≡ words_for (size_f b) → w ≤ length m → Cleared w m o → d ≡ size_d b → f ≡ size_f b → t ≡ size_t b
    → n ≡ headed d f t o → Tabled b m n 0
tabled_start {b} {m} {o} {n} {w} {d} {f} {t} e l c hd hf ht g =
    let z : n ≡ headed (size_d b) (size_f b) (size_t b) o = g ∙ (ap (λ x. headed x f t o) hd ∙ (ap (λ x. headed (size_d b) x t o) hf ∙ ap (λ x. headed (size_d b) (size_f b) x o) ht)) in
    let k = c.long in
    subst (λ x. Tabled b m x 0) (sym z) (tabled_head (omega arith) (subst (λ x. Cleared x m o) e c))

-- what was fetched for entry i: its place, and what becomes of memory when the capability stands there
module _ {b : List ℕ} {i p : ℕ} {e : Fields} (h : refusal_of b ≡ 0) (l : i < size_c b) (f : Fetched b (entries_at (size_t b) + entry_bytes * i) e) (q : p ≡ place_of (said e)) where
  pub fetched_place : p < places
  fetched_place =
      let r = right b h in
      let g = entry_fine b r i l in
      let x = ap (λ x. x.domain) f.exact in
      let y = ap (λ x. x.slot) f.exact in
      let k = g.domain in
      let j = g.slot in
      let n = r.domains.1 in
      omega arith

  pub fetched_entered : {m o n : List ℕ} {c : Capability} → c ≡ capability_given (said e) → Entered b m o i → Stored (p < places) (placed p c) o n → Entered b m n (i + 1)
  fetched_entered g t s = entered_more (right b h) l t (q ∙ ap place_of f.exact) (g ∙ ap capability_given f.exact) s

-- the words that the code asks for
pub words_right : (b : List ℕ) {f w : ℕ} → refusal_of b ≡ 0 → f ≡ size_f b → w ≡ words_of f → w ≡ words_for (size_f b)
words_right b {f} {w} h e g =
    let r = (right b h).frames in
    let k = words_in (size_f b) (omega arith) r.1 in
    g ∙ (ap words_of e ∙ sym k)

-- ---- the answers

pub booted-short : {b m : List ℕ} {w : ℕ} → refusal_of b ≡ 0 → w ≡ words_for (size_f b) → length m < w → Booted b m 29 m
booted-short z e l =
    record {
      refused = λ n. absurd (n z);
      short = λ y k. (refl, refl);
      accepted = λ y k. absurd (omega arith);
    }

pub booted-done : {b m n : List ℕ} {w : ℕ} → refusal_of b ≡ 0 → w ≡ words_for (size_f b) → w ≤ length m → Loaded b m n → Booted b m 0 n
booted-done z e l d =
    record {
      refused = λ n. absurd (n z);
      short = λ y k. absurd (omega arith);
      accepted = λ y k. (refl, d);
    }

-- ---- good memory

loaded_enough : (b m n : List ℕ) → words_for (size_f b) ≤ length m → Loaded b m n → Enough n
unfolding boot image_of
loaded_enough b m n l d =
    let e : (state_of n).frames ≡ size_f b = ap (λ s. s.frames) d.state in
    let k = d.long in
    omega arith

-- memory that holds an accepted image's state is good
pub boot-good : (b m n : List ℕ) → Bytes b → refusal_of b ≡ 0 → words_for (size_f b) ≤ length m → Loaded b m n → Good n
boot-good b m n bytes h l d =
    record {
      enough = loaded_enough b m n l d;
      formed = subst Formed (sym d.state) (boot-formed b bytes h);
      section4 = subst (λ s. Section4 s.capability) (sym d.state) (boot-section4 b h);
    }

-- there is such memory: an accepted image goes into any that is long enough
module _ {b m : List ℕ} (f : FormRight b) (l : words_for (size_f b) ≤ length m) where
  cleared_to : (k : ℕ) → k ≤ length m → (o : List ℕ) × Cleared k m o
  cleared_to zero h = (m, cleared_none m)
  cleared_to (suc k) h =
      let (o, c) = cleared_to k (omega arith) in
      (store o k 0, cleared_all (omega arith) (omega arith) (cleared_more (omega arith) c))

  turned_to : {o : List ℕ} → Tabled b m o 0 → (i : ℕ) → i ≤ size_t b → (p : List ℕ) × Tabled b m p i
  turned_to {o} t zero h = (o, t)
  turned_to {o} t (suc i) h =
      let (p, q) = turned_to t i (omega arith) in
      let k = q.long in
      let g = f.turns.1 in
      (turning i (byte b (header_bytes + i)) p, subst (Tabled b m _) (let e : i + 1 ≡ suc i = omega arith in e) (tabled_turn (omega arith) (omega arith) refl q))

  entered_to : {o : List ℕ} → Entered b m o 0 → (i : ℕ) → i ≤ size_c b → (p : List ℕ) × Entered b m p i
  entered_to {o} t zero h = (o, t)
  entered_to {o} t (suc i) h =
      let (p, q) = entered_to t i (omega arith) in
      let e = entry_at b (entries_at (size_t b) + entry_bytes * i) in
      let g = entry_fine b f i (omega arith) in
      let k = g.domain in
      let j = g.slot in
      let d = f.domains.1 in (
        _,
        subst (Entered b m _) (let z : i + 1 ≡ suc i = omega arith in z)
            (entered_more f (omega arith) q refl refl (place_law p (place_of e) (capability_given e) (entered_enough q l) (omega arith))),
      )

  pub loadable : (n : List ℕ) × Loaded b m n
  loadable =
      let (o, c) = cleared_to (words_for (size_f b)) l in
      let k = c.long in
      let (p, t) = turned_to (tabled_head (omega arith) c) (size_t b) (omega arith) in
      let (n, e) = entered_to (entered_none f t) (size_c b) (omega arith) in
      (n, entered_all e)

-- an image that reads as accepted has no refusal
unrefused : (b : List ℕ) {s : State} → readImage b ≡ accepted s → refusal_of b ≡ 0
unfolding readImage read_as
unrefused b {s} e = go (refusal_of b) e
  where
    go : (r : ℕ) → read_as r b ≡ accepted s → r ≡ 0
    go zero h = refl
    go (suc r) h = let z : ◌≡◌ {A = ℕ} 0 1 = cc in absurd (omega arith)

-- numbers below 256 are bytes
below-bytes : (b : List ℕ) → all (λ x. ltb x 256) b ≡ true → Bytes b
unfolding all
below-bytes [] h i = omega arith
below-bytes (x ∷ xs) h zero = ltb-true _ _ (both (ltb x 256) _ h).0
below-bytes (x ∷ xs) h (suc i) = below-bytes xs (both (ltb x 256) _ h).1 i

-- the worked example of document 01, section 6: bytes, and accepted
pub worked_bytes : Bytes worked
unfolding all
worked_bytes = below-bytes worked refl

pub worked_right : refusal_of worked ≡ 0
worked_right = unrefused worked bytes-accepted

-- in any memory of at least 5,956 + 256 * 16 words: that memory is good
pub worked_good : (m n : List ℕ) → words_for 16 ≤ length m → Loaded worked m n → Good n
worked_good m n = boot-good worked m n worked_bytes worked_right

-- and there is some
pub worked_some : (m : List ℕ) → words_for 16 ≤ length m → (n : List ℕ) × Loaded worked m n × Good n
worked_some m l = let (n, d) = loadable (right worked worked_right) l in (n, d, worked_good m n l d)
