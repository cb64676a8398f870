-- The entries of an image that is not refused: their number and ranges, and the cells that have them. Assumes nothing.
use mathlib.Core.Path.{◌≡◌, refl, sym, ap, ◌∙◌, subst}
use mathlib.Core.Bool.{Bool, true, false, cond, ◌&&◌}
use mathlib.Core.List.Memᴰ
use mathlib.Core.List.{List, Memᴰ}
use mathlib.Core.Logic.{⊎_elim}
use Prim.Native.Nat.{ℕ, zero, suc, ◌+◌, ◌*◌, ◌^◌, ◌≤◌, ◌<◌}
use native.Mathlib.Omega.{arith}
use lib.Dec.{eqb}
use lib.ListN.{length, get_or, set, length-set, replicate, length-replicate}
use lib.Seq.{get_or-set_same, get_or-set_other}
use lib.Bits.{bit_or}
use borrow.Author.Tests.{eqb-true, eq-eqb, ne_eqb}
use Rattle.rules.specs.Sizes.{frames_most, mailboxes, bells}
use Rattle.rules.specs.State.{FRAME, MAILBOX, BELL, objects}
use Rattle.rules.specs.Image.{Entry, entry_bytes, no_domain, size_d, size_t, size_c, size_f, padded, entries_at, length_for, entry_at, entries_from, image_of, sourceless, right_source, defines, refusal_of}
use Rattle.rules.specs.Flow.{triple_of}
use Rattle.rules.proofs.Laws.{both, either, passes, not_both}
use Rattle.rules.proofs.Given.{FormRight, form-right, EntryRight, all_at, some_at}
use Rattle.rules.proofs.Places.{same?}
use Rattle.image.specs.Said.{said, Fetched}
use Rattle.image.specs.declared.Fields.{Fields}
use Rattle.flow.specs.Masks.{In}
use Rattle.flow.specs.Cells.{number_of, objects_all, cells_all, cell_of, entry_numbered, Accepted, Listed, Gives, Noted}
use Rattle.flow.proofs.Bits.{in_or, or_left, or_right, in_none, in_one, one_in}

-- ---- what is not refused

form_of : (b : List ℕ) → refusal_of b ≡ 0 → FormRight b
unfolding refusal_of
form_of b h = form-right b (passes _ _ 25 h).0

pub accepted_law : (b : List ℕ) → refusal_of b ≡ 0 → Accepted b
unfolding length_for entries_at padded
accepted_law b h =
    let f = form_of b h in
    record {
      accepted = h;
      header = f.header;
      domains_least = f.domains.0;
      domains = f.domains.1;
      count = f.count;
      long = f.exact;
    }

-- ---- entry number i

-- the n entries from byte x on are those at x, x + 12, ..
from_at : (b : List ℕ) (n x i : ℕ) → i < n → Memᴰ (entry_at b (x + entry_bytes * i)) (entries_from b n x)
unfolding entries_from
from_at b zero x i l = absurd (omega arith)
from_at b (suc n) x zero l = Memᴰ.head (ap (entry_at b) (let z : x + entry_bytes * 0 ≡ x = omega arith in z))
from_at b (suc n) x (suc i) l =
    Memᴰ.tail (subst (λ k. Memᴰ (entry_at b k) (entries_from b n (x + entry_bytes)))
    (let z : x + entry_bytes + entry_bytes * i ≡ x + entry_bytes * suc i = omega arith in z) (from_at b n (x + entry_bytes) i (omega arith)))

at_from : (b : List ℕ) (n x : ℕ) {e : Entry} → Memᴰ e (entries_from b n x) → (i : ℕ) × (i < n) × (e ≡ entry_at b (x + entry_bytes * i))
unfolding entries_from
at_from b zero x m = absurd (Memᴰ.not-nil m)
at_from b (suc n) x (Memᴰ.head m) = (0, omega arith, m ∙ ap (entry_at b) (let z : x ≡ x + entry_bytes * 0 = omega arith in z))
at_from b (suc n) x (Memᴰ.tail m) =
    let (i, l, e) = at_from b n (x + entry_bytes) m in
    (suc i, omega arith, e ∙ ap (entry_at b) (let z : x + entry_bytes + entry_bytes * i ≡ x + entry_bytes * suc i = omega arith in z))

-- entry number i is one of the image's, and each of the image's has a number
pub entry-member : (b : List ℕ) (i : ℕ) → i < size_c b → Memᴰ (entry_numbered b i) (image_of b).entries
unfolding entry_numbered image_of
entry-member b i l = from_at b (size_c b) (entries_at (size_t b)) i l

pub member-entry : (b : List ℕ) {e : Entry} → Memᴰ e (image_of b).entries → (i : ℕ) × (i < size_c b) × (e ≡ entry_numbered b i)
unfolding entry_numbered image_of
member-entry b m = at_from b (size_c b) (entries_at (size_t b)) m

-- what is right about each
pub right_at : {b : List ℕ} → Accepted b → {e : Entry} → Memᴰ e (image_of b).entries → EntryRight (size_d b) (size_f b) e
right_at {b} a m = (form_of b a.accepted).entry _ m

pub frames-low : {b : List ℕ} → Accepted b → size_f b ≤ frames_most
frames-low {b} a = (form_of b a.accepted).frames.1

-- the number of an object in range
number-low : (frames kind object : ℕ) → frames ≤ frames_most → FRAME ≤ kind → kind ≤ BELL → object < objects frames kind → number_of kind object < objects_all
unfolding number_of objects
number-low frames kind object f l h o = go (eqb kind FRAME) (eqb kind MAILBOX) o
  where
    go : (t u : Bool) → object < cond t frames (cond u mailboxes bells) → cond t object (cond u (256 + object) (320 + object)) < objects_all
    go true u o = omega arith
    go false true o = omega arith
    go false false o = omega arith

-- the domain of a source is one of the image's
pub source-low : {b : List ℕ} → Accepted b → {e : Entry} → Memᴰ e (image_of b).entries → sourceless e ≡ false → e.source_domain < size_d b
unfolding refusal_of right_source defines
source-low {b} a {e} m n =
    ⊎_elim (λ t. absurd (not_both t n))
    (λ t.
    let (f, k, d) = some_at (defines e) _ (both _ _ (both _ _ t).0).0 in
    let h = (right_at a k).domain in
    let z : f.domain ≡ e.source_domain = eqb-true _ _ (both _ _ d).0 in
    let y : e.source_domain < size_d b = omega arith in
    y)
    (either (sourceless e) _ (all_at (right_source (image_of b).entries) m (passes _ _ 25 a.accepted).1))

sourced : (e : Entry) → (e.source_domain ≡ no_domain → e.source_slot ≡ 0 → ⊥) → sourceless e ≡ false
unfolding sourceless
sourced e h = go (eqb e.source_domain no_domain) (eqb e.source_slot 0) refl refl
  where
    go : (t u : Bool) → eqb e.source_domain no_domain ≡ t → eqb e.source_slot 0 ≡ u → (t && u) ≡ false
    go true true p q = absurd (h (eqb-true _ _ p) (eqb-true _ _ q))
    go true false p q = refl
    go false u p q = refl

-- an entry as it is fetched
pub listed_law : {b : List ℕ} {f : Fields} (i : ℕ) → Accepted b → i < size_c b → Fetched b (entries_at (size_t b) + entry_bytes * i) f → Listed b i f
unfolding entry_numbered
listed_law {b} {f} i a l h =
    record {
      exact = exact;
      domain = let z = r.domain in let y = a.domains in omega arith;
      rights = let z = r.rights in omega arith;
      object = h.object;
      number = number-low (size_f b) f.kind f.object (form_of b a.accepted).frames.1 r.kind_least r.kind_most r.object;
      source_domain = h.source_domain;
      source_slot = h.source_slot;
      source = λ n. let z = source-low a m (sourced (said f) n) in let y = a.domains in omega arith;
    }
  where
    exact : said f ≡ entry_numbered b i
    exact = h.exact

    m : Memᴰ (said f) (image_of b).entries
    m = subst (λ k. Memᴰ k (image_of b).entries) (sym exact) (entry-member b i l)

    r : EntryRight (size_d b) (size_f b) (said f)
    r = right_at a m

-- ---- the cells

-- the number of an object of each kind
pub number-frame : (kind object : ℕ) → kind ≡ 1 → object ≡ number_of kind object
unfolding number_of
number-frame kind object e = rw (eq-eqb kind 1 e)

pub number-mailbox : (kind object : ℕ) → (kind ≡ 1 → ⊥) → kind ≡ 2 → 256 + object ≡ number_of kind object
unfolding number_of
number-mailbox kind object n e = rw (ne_eqb kind 1 n, eq-eqb kind 2 e)

pub number-bell : (kind object : ℕ) → (kind ≡ 1 → ⊥) → (kind ≡ 2 → ⊥) → 320 + object ≡ number_of kind object
unfolding number_of
number-bell kind object n k = rw (ne_eqb kind 1 n, ne_eqb kind 2 k)

-- none yet, one entry more, and after the last
pub noted_none : (b : List ℕ) → Noted b 0 (replicate cells_all 0)
noted_none b =
    record {
      long = length-replicate {A = ℕ} cells_all 0;
      told = λ c x i. absurd (in_none (subst (In c) (blank cells_all x) i));
      every = λ i l. absurd (omega arith);
    }
  where
    blank : (n x : ℕ) → ◌≡◌ {A = ℕ} (get_or (replicate n 0) x 0) 0
    blank zero x = refl
    blank (suc n) zero = refl
    blank (suc n) (suc x) = blank n x

pub noted_more : {b cells : List ℕ} {f : Fields} (i x d : ℕ) → Listed b i f → x ≡ cell_of (triple_of (said f)) → x < cells_all → d ≡ 2 ^ f.domain → Noted b i cells
    → Noted b (i + 1) (set cells x (bit_or (get_or cells x 0) d))
noted_more {b} {cells} {f} i x d l e h p n =
    record {
      long = length-set cells x _ ∙ n.long;
      told = λ c y k. ⊎_elim (λ z. last c y z k) (λ z. before (n.told c y (subst (In c) (get_or-set_other cells x y new 0 z) k))) (same? y x);
      every = λ k g. ⊎_elim (λ z. subst (λ j. In (entry_numbered b j).domain (get_or after (cell_of (triple_of (entry_numbered b j))) 0)) (sym z) here)
          (λ z. stays _ (n.every k (omega arith))) (same? k i);
    }
  where
    new : ℕ
    new = bit_or (get_or cells x 0) d

    after : List ℕ
    after = set cells x new

    long : x < length cells
    long = let z = n.long in omega arith

    before : {c y : ℕ} → Gives b i c y → Gives b (i + 1) c y
    before g = record { number = g.number; low = let z = g.low in omega arith; domain = g.domain; cell = g.cell }

    domain : (entry_numbered b i).domain ≡ f.domain
    domain = ap (λ k. k.domain) (sym l.exact)

    cell : cell_of (triple_of (entry_numbered b i)) ≡ x
    cell = ap (λ k. cell_of (triple_of k)) (sym l.exact) ∙ sym e

    last : (c y : ℕ) → y ≡ x → In c (get_or after y 0) → Gives b (i + 1) c y
    last c y z k =
        ⊎_elim (λ j. before (n.told c y (subst (λ w. In c (get_or cells w 0)) (sym z) j)))
        (λ j. record { number = i; low = omega arith; domain = domain ∙ sym (in_one c f.domain (subst (In c) p j)); cell = cell ∙ sym z })
        (in_or (get_or cells x 0) d (subst (In c) (ap (λ w. get_or after w 0) z ∙ get_or-set_same cells x new 0 long) k))

    stays : {c : ℕ} (y : ℕ) → In c (get_or cells y 0) → In c (get_or after y 0)
    stays {c} y k =
        ⊎_elim (λ z. subst (In c) (sym (ap (λ w. get_or after w 0) z ∙ get_or-set_same cells x new 0 long)) (or_left d (subst (λ w. In c (get_or cells w 0)) z k)))
        (λ z. subst (In c) (sym (get_or-set_other cells x y new 0 z)) k) (same? y x)

    here : In (entry_numbered b i).domain (get_or after (cell_of (triple_of (entry_numbered b i))) 0)
    here =
        subst (λ w. In (entry_numbered b i).domain (get_or after w 0)) (sym cell)
        (subst (In (entry_numbered b i).domain) (sym (get_or-set_same cells x new 0 long))
        (or_right (get_or cells x 0) (subst (In (entry_numbered b i).domain) (ap (λ w. 2 ^ w) domain ∙ sym p) (one_in (entry_numbered b i).domain))))

pub noted_end : {b cells : List ℕ} (i m : ℕ) → m ≡ size_c b → i ≤ m → m ≤ i → Noted b i cells → Noted b (size_c b) cells
noted_end {b} {cells} i m e h g n = subst (λ k. Noted b k cells) (let z : i ≡ size_c b = omega arith in z) n
