-- The laws of direct flow and its closure over rows of masks. Assumes nothing.
use mathlib.Core.Path.{◌≡◌, refl, sym, ap, ◌∙◌, subst}
use mathlib.Core.List.{List}
use mathlib.Core.Logic.{◌⊎◌, inl, inr, ⊎_elim}
use Prim.Native.Nat.{ℕ, ◌+◌, ◌*◌, ◌^◌, ◌≤◌, ◌<◌}
use native.Mathlib.Omega.{arith}
use lib.Bits.{bit_or}
use lib.ListN.{length}
use borrow.Author.Tests.{ne_eqb}
use Rattle.rules.specs.Sizes.{domains_most}
use Rattle.rules.specs.Image.{sourceless, no_domain}
use Rattle.rules.proofs.Laws.{not_both}
use Rattle.rules.proofs.Places.{same?}
use Rattle.image.specs.declared.Fields.{Fields}
use Rattle.flow.specs.Masks.{In, row, Meeting, United, Spread}
use Rattle.flow.specs.Cells.{reading, writing, entry_numbered, Listed}
use Rattle.flow.specs.Edges.{Uses, Users, Link, frame, mailbox, bell, Source, Edge, Added, Joined, link, on, Closing}
use Rattle.flow.proofs.Bits.{in_or, or_left, or_right, in_one, one_in}
use Rattle.flow.proofs.Spreading.{spread_was, spread-stays, spread_new}
use Rattle.flow.proofs.Reaching.{in_low}

-- ---- the domains that could hold an object

pub users_law : {cells rows : List ℕ} {rights x r : ℕ} (o : ℕ) → length rows ≡ domains_most → United cells (o * 8) 8 rights x
    → Meeting rows x domains_most r → Users cells rows o rights r
users_law {cells} {rows} o l u m =
    record {
      told = λ a i. let h = (m.told a i).1 in record { holder = h.domain; inside = h.left; has = u.told h.domain h.right };
      every = λ a h. m.every a (in_low rows a l h.inside)
          (record { domain = h.holder; left = h.inside; right = u.every h.holder h.has });
    }

-- ---- edges: none yet, one number more, and after the last

module _ {E : ℕ → ℕ → ℕ → Type 0} where
  -- the chosen rows have taken in exactly the edges of one number
  spread_added : {which what : ℕ} {before after : List ℕ} (k : ℕ) → Spread which what domains_most before after
      → ((a b : ℕ) → In a which → In b what → E k a b) → ((a b : ℕ) → E k a b → (a < domains_most) × (In a which) × (In b what))
      → Added E k (k + 1) before after
  spread_added {which} {what} {before} {after} k s f g =
      record {
        long = s.long;
        stays = λ a b i. spread-stays a b s i;
        told = λ a b i. ⊎_elim (λ j. inl j)
            (λ w. inr (record { number = k; least = omega arith; low = omega arith; edge = f a b w.1 w.2 })) (spread_was a b s i);
        every = λ a b e.
            let z : e.number ≡ k = let l = e.least in let h = e.low in omega arith in
            let (l, w, v) = g a b (subst (λ n. E n a b) z e.edge) in
            spread_new a b s l w v;
      }

  -- a number that has no edge
  added_past : {rows : List ℕ} (k : ℕ) → ((a b : ℕ) → E k a b → ⊥) → Added E k (k + 1) rows rows
  added_past k n =
      record {
        long = refl;
        stays = λ a b i. i;
        told = λ a b i. inl i;
        every = λ a b e.
            let z : e.number ≡ k = let l = e.least in let h = e.low in omega arith in
            absurd (n a b (subst (λ n. E n a b) z e.edge));
      }

  pub added_none : (rows : List ℕ) → Added E 0 0 rows rows
  added_none rows =
      record { long = refl; stays = λ a b i. i; told = λ a b i. inl i; every = λ a b e. absurd (let l = e.low in omega arith) }

  pub added_more : {before now after : List ℕ} (n : ℕ) → Added E 0 n before now → Added E n (n + 1) now after → Added E 0 (n + 1) before after
  added_more {before} {now} {after} n p q =
      record {
        long = q.long ∙ p.long;
        stays = λ a b i. q.stays a b (p.stays a b i);
        told = λ a b i. ⊎_elim (λ j. ⊎_elim (λ k. inl k) (λ e. inr (wider e)) (p.told a b j)) (λ e. inr (later e)) (q.told a b i);
        every = λ a b e. ⊎_elim (λ z. q.every a b (record { number = e.number; least = omega arith; low = e.low; edge = e.edge }))
            (λ z. q.stays a b (p.every a b (record { number = e.number; least = e.least; low = let l = e.low in omega arith; edge = e.edge })))
            (same? e.number n);
      }
    where
      wider : {a b : ℕ} → Edge E 0 n a b → Edge E 0 (n + 1) a b
      wider e = record { number = e.number; least = e.least; low = let l = e.low in omega arith; edge = e.edge }

      later : {a b : ℕ} → Edge E n (n + 1) a b → Edge E 0 (n + 1) a b
      later e = record { number = e.number; least = omega arith; low = e.low; edge = e.edge }

  pub added_end : {before after : List ℕ} (n m : ℕ) → n ≤ m → m ≤ n → Added E 0 n before after → Added E 0 m before after
  added_end {before} {after} n m h g p = subst (λ k. Added E 0 k before after) (let z : n ≡ m = omega arith in z) p

  pub added_last : {before after : List ℕ} (n m o : ℕ) → m ≡ o → n ≤ m → m ≤ n → Added E 0 n before after → Added E 0 o before after
  added_last n m o e h g p = added_end n o (omega arith) (omega arith) p

-- ---- over one object

module _ {cells rows : List ℕ} {writers readers : ℕ} (o : ℕ) (long : length rows ≡ domains_most)
    (ws : Users cells rows o writing writers) (rs : Users cells rows o reading readers) where
  low : {a mask : ℕ} → Uses cells rows o mask a → a < domains_most
  low {a} u = in_low rows a long u.inside

  either_low : {a : ℕ} → Uses cells rows o writing a ⊎ Uses cells rows o reading a → a < domains_most
  either_low (inl u) = low u
  either_low (inr u) = low u

  both_told : (a : ℕ) → In a (bit_or writers readers) → Uses cells rows o writing a ⊎ Uses cells rows o reading a
  both_told a i = ⊎_elim (λ j. inl (ws.told a j)) (λ j. inr (rs.told a j)) (in_or writers readers i)

  both_every : {a : ℕ} → Uses cells rows o writing a ⊎ Uses cells rows o reading a → In a (bit_or writers readers)
  both_every {a} (inl u) = or_left readers (ws.every a u)
  both_every {a} (inr u) = or_right writers (rs.every a u)

  pub link-frame : {before after : List ℕ} → o < 256 → Spread writers readers domains_most before after → Added (Link cells rows) o (o + 1) before after
  link-frame l s = spread_added o s (λ a b i j. frame l (ws.told a i) (rs.told b j)) back
    where
      back : (a b : ℕ) → Link cells rows o a b → (a < domains_most) × (In a writers) × (In b readers)
      back a b (frame h u v) = (low u, ws.every a u, rs.every b v)
      back a b (mailbox h k u v) = absurd (omega arith)
      back a b (bell h u v) = absurd (omega arith)

  pub link-mailbox : {before after : List ℕ} → 256 ≤ o → o < 320 → Spread (bit_or writers readers) (bit_or writers readers) domains_most before after
      → Added (Link cells rows) o (o + 1) before after
  link-mailbox g l s = spread_added o s (λ a b i j. mailbox g l (both_told a i) (both_told b j)) back
    where
      back : (a b : ℕ) → Link cells rows o a b → (a < domains_most) × (In a (bit_or writers readers)) × (In b (bit_or writers readers))
      back a b (frame h u v) = absurd (omega arith)
      back a b (mailbox h k u v) = (either_low u, both_every u, both_every v)
      back a b (bell h u v) = absurd (omega arith)

  pub link-bell : {before after : List ℕ} → 320 ≤ o → Spread (bit_or writers readers) readers domains_most before after → Added (Link cells rows) o (o + 1) before after
  link-bell l s = spread_added o s (λ a b i j. bell l (both_told a i) (rs.told b j)) back
    where
      back : (a b : ℕ) → Link cells rows o a b → (a < domains_most) × (In a (bit_or writers readers)) × (In b readers)
      back a b (frame h u v) = absurd (omega arith)
      back a b (mailbox h k u v) = absurd (omega arith)
      back a b (bell h u v) = (either_low u, both_every u, rs.every b v)

-- ---- over one entry

module _ {b : List ℕ} {f : Fields} (i : ℕ) (l : Listed b i f) where
  from_is : (entry_numbered b i).source_domain ≡ f.source_domain
  from_is = ap (λ k. k.source_domain) (sym l.exact)

  to_is : (entry_numbered b i).domain ≡ f.domain
  to_is = ap (λ k. k.domain) (sym l.exact)

  -- an entry with a source
  pub source_some : {x y : ℕ} {before after : List ℕ} → f.source_domain < 16 → x ≡ 2 ^ f.source_domain → y ≡ 2 ^ f.domain
      → Spread x y domains_most before after → Added (Source b) i (i + 1) before after
  unfolding sourceless
  source_some {x} {y} h p q s =
      spread_added i s
      (λ a c j k. record {
        sourced = rw (ne_eqb (entry_numbered b i).source_domain no_domain (λ z. let w = from_is in omega arith));
        from = from_is ∙ sym (in_one a f.source_domain (subst (In a) p j));
        to = to_is ∙ sym (in_one c f.domain (subst (In c) q k));
      })
      (λ a c e.
      let u : a ≡ f.source_domain = sym e.from ∙ from_is in
      let v : c ≡ f.domain = sym e.to ∙ to_is in
      (omega arith, subst (In a) (ap (λ k. 2 ^ k) u ∙ sym p) (one_in a), subst (In c) (ap (λ k. 2 ^ k) v ∙ sym q) (one_in c)))

  -- one without
  pub source_none : {rows : List ℕ} → 16 ≤ f.source_domain → Added (Source b) i (i + 1) rows rows
  unfolding sourceless
  source_none h =
      added_past i
      (λ a c e. let z = l.source (λ p q. not_both (rw (from_is ∙ p, slot_is ∙ q) refl) e.sourced) in omega arith)
    where
      slot_is : (entry_numbered b i).source_slot ≡ f.source_slot
      slot_is = ap (λ k. k.source_slot) (sym l.exact)

-- ---- the closure: over one domain, and none yet, one domain more, and after the last

pub joined_law : {which what mask : ℕ} {before after : List ℕ} (k : ℕ) → length before ≡ domains_most → what ≡ row before k → mask ≡ 2 ^ k
    → Meeting before mask domains_most which → Spread which what domains_most before after → Joined k before after
joined_law {which} {what} {mask} {before} {after} k l e p m s =
    record {
      long = s.long;
      stays = λ a b i. spread-stays a b s i;
      told = λ a b i. ⊎_elim (λ j. inl j) (λ w. inr (through a w.1, subst (In b) e w.2)) (spread_was a b s i);
      every = λ a b i j. spread_new a b s (in_low before a l i)
          (m.every a (in_low before a l i) (record { domain = k; left = i; right = subst (In k) (sym p) (one_in k) })) (subst (In b) (sym e) j);
    }
  where
    through : (a : ℕ) → In a which → In k (row before a)
    through a w =
        let h = (m.told a w).1 in
        subst (λ n. In n (row before a)) (in_one h.domain k (subst (In h.domain) p h.right)) h.left

pub closing_none : (rows : List ℕ) → Closing 0 rows rows
closing_none rows =
    record { long = refl; stays = λ a b i. i; told = λ a b i. link i; closed = λ k l. absurd (omega arith) }

pub closing_more : {before now after : List ℕ} (n : ℕ) → Closing n before now → Joined n now after → Closing (n + 1) before after
closing_more {before} {now} {after} n p q =
    record {
      long = q.long ∙ p.long;
      stays = λ a b i. q.stays a b (p.stays a b i);
      told = λ a b i. ⊎_elim (λ j. p.told a b j) (λ w. on (p.told a n w.0) (p.told n b w.1)) (q.told a b i);
      closed = λ k l a b i j. ⊎_elim
          (λ z. here a b (subst (λ m. In m (row after a)) z i) (subst (λ m. In b (row after m)) z j))
          (λ z. below k (omega arith) a b (q.told a k i) (q.told k b j)) (same? k n);
    }
  where
    -- over n itself: what flows to n then did before, and so does what n flows to
    to_n : (a : ℕ) → In n (row after a) → In n (row now a)
    to_n a i = ⊎_elim (λ j. j) (λ w. w.0) (q.told a n i)

    from_n : (b : ℕ) → In b (row after n) → In b (row now n)
    from_n b i = ⊎_elim (λ j. j) (λ w. w.1) (q.told n b i)

    here : (a b : ℕ) → In n (row after a) → In b (row after n) → In b (row after a)
    here a b i j = q.every a b (to_n a i) (from_n b j)

    -- over a domain below n
    Way : ℕ → ℕ → Type 0
    Way a b = In b (row now a) ⊎ ((In n (row now a)) × (In b (row now n)))

    below : (k : ℕ) → k < n → (a b : ℕ) → Way a k → Way k b → In b (row after a)
    below k l a b (inl i) (inl j) = q.stays a b (p.closed k l a b i j)
    below k l a b (inl i) (inr w) = q.every a b (p.closed k l a n i w.0) w.1
    below k l a b (inr v) (inl j) = q.every a b v.0 (p.closed k l n b v.1 j)
    below k l a b (inr v) (inr w) = q.every a b v.0 w.1

pub closing_end : {before after : List ℕ} (n : ℕ) → n ≤ 16 → 16 ≤ n → Closing n before after → Closing 16 before after
closing_end {before} {after} n h g p = subst (λ k. Closing k before after) (let z : n ≡ 16 = omega arith in z) p
