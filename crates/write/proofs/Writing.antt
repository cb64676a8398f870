-- Each way in which writing ends, as the contract says. Assumes nothing.
use mathlib.Core.Path.{◌≡◌, refl, sym, ap, ◌∙◌}
use mathlib.Core.Bool.{Bool, true, false, cond, ◌&&◌}
use mathlib.Core.List.{List, [], ◌∷◌, ◌++◌, map}
use Prim.Native.Nat.{ℕ, suc, ◌+◌, ◌-◌, ◌%◌, ◌≤◌, ◌<◌}
use native.Mathlib.Omega.{arith}
use lib.ListN.{length, get_or, drop, length-append, length-drop, length-map}
use lib.Seq.{take_at, get_or-append-add, get_or-drop}
use borrow.Author.Tests.{le-leb}
use Rattle.rules.specs.State.{State, Formed}
use Rattle.rules.specs.Image.{Bytes, between, length_for, bytes_for, writable, image, unwritable, write}
use Rattle.rules.proofs.Laws.{both, not_both}
use Rattle.layout.specs.Layout.{state_of, Enough}
use Rattle.image.specs.declared.Header.{Header}
use Rattle.turn.specs.Turned.{Good}
use Rattle.write.specs.Written.{sized, Wrote}
use Rattle.write.specs.Laid.{low, Ready}
use Rattle.write.proofs.Filling.{size_law, bytes-written}

-- ---- what the rules write

-- a state that can be written, and one that cannot
write-image : (s : State) (bs : List ℕ) → write s ≡ image bs → (writable s ≡ true) × (bytes_for s ≡ bs)
unfolding write
write-image s bs e = go (writable s) e
  where
    go : (t : Bool) → cond t (image (bytes_for s)) unwritable ≡ image bs → (t ≡ true) × (bytes_for s ≡ bs)
    go true e = (refl, cc)
    go false e = absurd (let z : ◌≡◌ {A = ℕ} 0 1 = cc in omega arith)

write_none : (s : State) → writable s ≡ true → write s ≡ unwritable → ⊥
unfolding write
write_none s t e = go (writable s) t e
  where
    go : (t : Bool) → t ≡ true → cond t (image (bytes_for s)) unwritable ≡ unwritable → ⊥
    go true t e = let z : ◌≡◌ {A = ℕ} 0 1 = cc in omega arith
    go false t e = not_both t refl

-- the sizes of a state as section 1 says are in range
sized-formed : (s : State) → Formed s → sized s ≡ true
unfolding sized between
sized-formed s f =
    let (a, b) = f.domains in
    let (c, d) = f.table in
    let (g, h) = f.frames in
    rw (le-leb _ _ a, le-leb _ _ b, le-leb _ _ c, le-leb _ _ d, le-leb _ _ g, le-leb _ _ h)

-- ---- what stands in the buffer

-- a number below 256 is its own byte
low_same : (l : List ℕ) → Bytes l → map low l ≡ l
low_same [] h = refl
low_same (x ∷ l) h =
    let w = h 0 in
    let e : x % 256 ≡ x = omega arith in
    rw (e, low_same l (λ i. h (suc i)))

-- what is behind the first bytes is as it was
behind : (b xs : List ℕ) (size : ℕ) → length xs ≡ size → (k : ℕ) → size ≤ k → get_or (xs ++ drop size b) k 0 ≡ get_or b k 0
behind b xs size e k h =
    let at : length xs + (k - size) ≡ k = omega arith in
    let to : size + (k - size) ≡ k = omega arith in
    ap (λ i. get_or (xs ++ drop size b) i 0) (sym at) ∙ (get_or-append-add xs _ (k - size) 0
    ∙ (get_or-drop size b (k - size) 0 ∙ ap (λ i. get_or b i 0) to))

-- ---- each way

module _ (m : List ℕ) (enough : Enough m) where
  -- 27
  pub wrote-unwritable : {b : List ℕ} → (sized (state_of m) && writable (state_of m)) ≡ false → Wrote m b 27 0 b
  wrote-unwritable {b} z =
      record {
        long = refl;
        within = omega arith;
        behind = λ k l. refl;
        refused = λ n. (refl, refl);
        short = λ l. absurd (omega arith);
        unwritten = λ g w. refl;
        unsized = λ g w. refl;
        small = λ g bs w l. absurd (never g bs w);
        written = λ g bs w l. absurd (never g bs w);
      }
    where
      never : Good m → (bs : List ℕ) → write (state_of m) ≡ image bs → ⊥
      never g bs w = not_both refl (rw (sized-formed (state_of m) g.formed, (write-image (state_of m) bs w).0) at z)

  module _ (able : (sized (state_of m) && writable (state_of m)) ≡ true) where
    pub is_sized : sized (state_of m) ≡ true
    is_sized = (both (sized (state_of m)) (writable (state_of m)) able).0

    is_writable : writable (state_of m) ≡ true
    is_writable = (both (sized (state_of m)) (writable (state_of m)) able).1

    module _ {h : Header} {size : ℕ} (r : Ready (state_of m) h) (k : size ≡ length_for h.turns h.entries) where
      -- the size is the image's
      size_is : size ≡ length (bytes_for (state_of m))
      size_is = k ∙ size_law (state_of m) h r

      -- 28
      pub wrote-small : {b : List ℕ} → length b < size → Wrote m b 28 0 b
      wrote-small {b} l =
          record {
            long = refl;
            within = omega arith;
            behind = λ k l. refl;
            refused = λ n. (refl, refl);
            short = λ l. absurd (omega arith);
            unwritten = λ g w. absurd (write_none (state_of m) is_writable w);
            unsized = λ g w. absurd (not_both is_sized w);
            small = λ g bs w l. refl;
            written = λ g bs w q. absurd (let i = ap length (write-image (state_of m) bs w).1 in omega (arith, size_is));
          }

      -- 0
      pub wrote-image : {b xs : List ℕ} → size ≤ length b → xs ≡ map low (bytes_for (state_of m)) → Wrote m b 0 size (xs ++ drop size b)
      wrote-image {b} {xs} l w =
          let z : length xs ≡ size = ap length w ∙ (length-map (bytes_for (state_of m)) low ∙ sym size_is) in
          record {
            long = length-append xs (drop size b) ∙ (let d = length-drop size b in omega arith);
            within = l;
            behind = behind b xs size z;
            refused = λ n. absurd (n refl);
            short = λ l. absurd (omega arith);
            unwritten = λ g q. absurd (write_none (state_of m) is_writable q);
            unsized = λ g q. absurd (not_both is_sized q);
            small = λ g bs q r. absurd (let i = ap length (write-image (state_of m) bs q).1 in omega (arith, size_is));
            written = λ g bs q r.
                let i = (write-image (state_of m) bs q).1 in
                (refl, size_is ∙ ap length i, take_at xs (drop size b) size z ∙ (w ∙ (low_same _ (bytes-written (state_of m) g.formed) ∙ i)));
          }
