-- Reading what was written gives the state back, and writing what was read gives the bytes back: the rules' theorems, brought to memory by
-- the contracts of reading and writing. Assumes nothing.
use mathlib.Core.Path.{◌≡◌, refl, sym, ap, ◌∙◌}
use mathlib.Core.Bool.{Bool, true, false, cond}
use mathlib.Core.List.{List}
use mathlib.Core.Logic.{◌⊎◌, inl, inr, ⊎_elim}
use Prim.Native.Nat.{ℕ, zero, suc, ◌≤◌}
use native.Mathlib.Omega.{arith}
use lib.Dec.{ltb}
use lib.ListN.{length, take}
use borrow.Author.Tests.{ltb-true, ltb-false}
use Rattle.rules.specs.State.{State}
use Rattle.rules.specs.Image.{size_f, image_of, boot, refusal_of, accepted, read_as, read, bytes_for, writable, image, unwritable, write}
use Rattle.rules.specs.RoundTrip.{Proper}
use Rattle.rules.proofs.Laws.{decided_by}
use Rattle.rules.proofs.Places.{same?}
use Rattle.rules.proofs.RoundTrip.{written_read, read-written}
use Rattle.layout.specs.Layout.{state_of, words_for}
use Rattle.layout.proofs.Cells.{frames_law, word_outside, word_beyond, bell-past, message-past}
use Rattle.turn.specs.Turned.{Good}
use Rattle.boot.specs.Booted.{Booted}
use Rattle.boot.proofs.Loading.{boot-good}
use Rattle.write.specs.Written.{Wrote}
use Rattle.write.specs.RoundTrip.{WriteAfterRead, ReadAfterWrite}

-- ---- what reading tells

-- bytes that were read were not refused, and the memory was long enough
read_fine : {b m n : List ℕ} → Booted b m 0 n → refusal_of b ≡ 0
read_fine {b} d = ⊎_elim (λ z. z) (λ h. sym (d.refused h).0) (same? (refusal_of b) 0)

read-long : {b m n : List ℕ} → Booted b m 0 n → words_for (size_f b) ≤ length m
read-long {b} {m} d =
    ⊎_elim (λ t. absurd (let z = (d.short (read_fine d) (ltb-true _ _ t)).0 in omega arith)) (ltb-false _ _)
    (decided_by (ltb (length m) (words_for (size_f b))))

-- writing what was read gives the bytes back
pub write-after-read : WriteAfterRead
write-after-read b m n y d buffer c r size w l =
    let h = read_fine d in
    let loaded = (d.accepted h (read-long d)).1 in
    w.written (boot-good b m n y h (read-long d) loaded) b (ap write loaded.state ∙ written_read b y h) l

-- ---- what writing tells

-- a state in memory has nothing outside its sizes
in_memory : (m : List ℕ) → Proper (state_of m)
in_memory m =
    record {
      frames = λ f l w. sym (word_outside m f w (inr (rw frames_law at l)));
      words = λ f w l. sym (word_beyond m f w l);
      bells = λ b l. sym (bell-past m b l);
      mailboxes = λ b l. sym (message-past m b l);
    }

-- the rules write a state or they do not
written? : (s : State) → (write s ≡ image (bytes_for s)) ⊎ (write s ≡ unwritable)
unfolding write
written? s = go (writable s)
  where
    go : (t : Bool) → (cond t (image (bytes_for s)) unwritable ≡ image (bytes_for s)) ⊎ (cond t (image (bytes_for s)) unwritable ≡ unwritable)
    go true = inl refl
    go false = inr refl

-- what was written is the image
write_fine : {m buffer c : List ℕ} {size : ℕ} → Good m → Wrote m buffer 0 size c
    → (write (state_of m) ≡ image (bytes_for (state_of m))) × (take size c ≡ bytes_for (state_of m))
write_fine {m} {buffer} {c} {size} g w = ⊎_elim (λ e. (e, fits e)) (λ e. absurd (let z = w.unwritten g.enough e in omega arith)) (written? (state_of m))
  where
    fits : write (state_of m) ≡ image (bytes_for (state_of m)) → take size c ≡ bytes_for (state_of m)
    fits e =
        ⊎_elim (λ t. absurd (let z = w.small g _ e (ltb-true _ _ t) in omega arith)) (λ t. (w.written g _ e (ltb-false _ _ t)).2)
        (decided_by (ltb (length buffer) (length (bytes_for (state_of m)))))

-- bytes that are accepted as a state are not refused, and describe it
read-accepted : (b : List ℕ) (s : State) → read b ≡ accepted s → (refusal_of b ≡ 0) × (boot (image_of b) ≡ s)
unfolding read read_as
read-accepted b s e = go (refusal_of b) e
  where
    go : (r : ℕ) → read_as r b ≡ accepted s → (r ≡ 0) × (boot (image_of b) ≡ s)
    go zero e = (refl, cc)
    go (suc r) e = absurd (let z : ◌≡◌ {A = ℕ} 0 1 = cc in omega arith)

-- the frames that an image's header says are those of its state
frames-read : (b : List ℕ) → size_f b ≡ (boot (image_of b)).frames
unfolding boot image_of
frames-read b = refl

-- reading what was written gives the state back
pub read-after-write : ReadAfterWrite
read-after-write m buffer c size g w memory n r d l =
    let (e, t) = write_fine g w in
    let (h, s) = read-accepted (bytes_for (state_of m)) (state_of m) (read-written (state_of m) g.formed g.section4 (in_memory m) _ e) in
    let f : size_f (bytes_for (state_of m)) ≡ (state_of m).frames = frames-read (bytes_for (state_of m)) ∙ ap (λ s. s.frames) s in
    let (z, loaded) = (rw t at d).accepted h (rw f l) in
    (z, loaded.state ∙ s)
