-- What a closed set L of domains can ever see of a state, and the tie that keeps it together: the source of a place that L sees is a
-- slot of a domain of L. Assumes nothing.
use mathlib.Core.Path.{◌≡◌, refl, sym, ap, ap₂, ◌∙◌, subst}
use mathlib.Core.Bool.{Bool, true, false, cond, ◌||◌}
use mathlib.Core.Logic.{⊎_elim}
use Prim.Native.Nat.{ℕ, zero, suc, ◌/◌, ◌<◌}
use native.Mathlib.Omega.{arith}
use lib.Dec.{eqb}
use borrow.Author.Tests.{eqb-true, ne_eqb}
use Rattle.rules.specs.Sizes.{domains_most, slots, all_slots}
use Rattle.rules.specs.State.{State, Places, FRAME, MAILBOX, BELL, slot, room, comes_to}
use Rattle.rules.specs.Turn.{held, set, changed, with_mail, with_places, advance}
use Rattle.rules.specs.Image.{Image}
use Rattle.rules.specs.Flow.{Could, Reader, User, Case, Closed, direct}
use Rattle.rules.specs.declared.Message.{Message}
use Rattle.rules.proofs.Licence.{Owns}
use Rattle.rules.proofs.Places.{same?}

-- what relates the values of f and g everywhere, and the new ones, relates them after one value of each is set
pub set_both : {A B : Type 0} (R : ℕ → A → B → Type 0) {f : ℕ → A} {g : ℕ → B} {i : ℕ} {v : A} {w : B} → ((j : ℕ) → R j (f j) (g j))
    → R i v w → (j : ℕ) → R j (set f i v j) (set g i w j)
unfolding set
set_both R {f} {g} {i} {v} {w} old new j = by (eqb j i) refl
  where
    by : (b : Bool) → eqb j i ≡ b → R j (cond b v (f j)) (cond b w (g j))
    by true e = subst (λ k. R k v w) (sym (eqb-true _ _ e)) new
    by false e = old j

-- f and g have the same values wherever P looks
abbrev pub Alike : {A : Type 0} → (ℕ → Type 0) → (ℕ → A) → (ℕ → A) → Type 0
Alike P f g = (j : ℕ) → P j → f j ≡ g j

-- ---- what L sees

-- some domain in L satisfies R
pub record Some (L : ℕ → Bool) (R : ℕ → Type 0) : Type 0 where
  pub domain : ℕ
  pub inside : L domain ≡ true
  pub does : R domain

-- frame f, bell b and mailbox m as some domain in L could see them
abbrev pub Frame : Image → (ℕ → Bool) → ℕ → Type 0
Frame i L f = Some L (Reader i FRAME f)

abbrev pub Bell : Image → (ℕ → Bool) → ℕ → Type 0
Bell i L b = Some L (Reader i BELL b)

abbrev pub Mailbox : Image → (ℕ → Bool) → ℕ → Type 0
Mailbox i L m = Some L (User i MAILBOX m)

-- place p is a slot of a domain in L
pub record Ours (L : ℕ → Bool) (p : ℕ) : Type 0 where
  pub in_range : p < all_slots
  pub inside : L (p / slots) ≡ true

-- L sees place q: a slot of a domain in L, or the room of a mailbox that some domain in L could use
pub data Seen (i : Image) (L : ℕ → Bool) (q : ℕ) : Type 0 where
  own : Ours L q → Seen i L q
  mail : {m : ℕ} → q ≡ room m → Mailbox i L m → Seen i L q

-- the places that L sees hold the same, sources and all
abbrev pub SamePlaces : Image → (ℕ → Bool) → Places → Places → Type 0
SamePlaces i L at at' = (q : ℕ) → Seen i L q → at q ≡ at' q

-- the mailboxes that L sees hold the same messages, badges and all
abbrev pub SameMail : Image → (ℕ → Bool) → (ℕ → Message) → (ℕ → Message) → Type 0
SameMail i L f g = (m : ℕ) → Mailbox i L m → f m ≡ g m

-- s and t look the same to L
pub record View (i : Image) (L : ℕ → Bool) (s t : State) : Type 0 where
  pub capability : SamePlaces i L s.capability t.capability
  pub word : (f : ℕ) → Frame i L f → (w : ℕ) → s.word f w ≡ t.word f w
  pub bell : Alike (Bell i L) s.bell t.bell
  pub message : SameMail i L s.message t.message

-- a source number names a slot of a domain in L, or nothing
abbrev pub Tied : (ℕ → Bool) → ℕ → Type 0
Tied L x = (p : ℕ) → x ≡ suc p → Ours L p

-- the source of a place that L sees is a slot of a domain in L
abbrev pub Tie : Image → (ℕ → Bool) → Places → Type 0
Tie i L at = (q : ℕ) → Seen i L q → Tied L (at q).source

-- what domain d holds in state s, it could hold
abbrev pub Able : Image → State → ℕ → Type 0
Able i s d = (x k r : ℕ) → Owns s d x k r → Could i k (held s d x).object r d

-- a slot of a domain in L is L's
pub ours_slot : {L : ℕ → Bool} {d x : ℕ} → d < domains_most → x < slots → L d ≡ true → Ours L (slot d x)
ours_slot {L} {d} {x} b r h =
    record { in_range = omega arith; inside = let e : d ≡ slot d x / slots = omega arith in subst (λ k. L k ≡ true) e h }

module _ {i : Image} {L : ℕ → Bool} where
  -- a state looks like itself
  pub view_refl : (s : State) → View i L s s
  view_refl s = record { capability = λ q h. refl; word = λ f h w. refl; bell = λ b h. refl; message = λ m h. refl }

  -- what looked the same still does, where neither side's change shows
  pub view_carried : {s t u v : State} → View i L s t → View i L s u → View i L t v → View i L u v
  view_carried a b c =
      record {
        capability = λ q h. sym (b.capability q h) ∙ (a.capability q h ∙ c.capability q h);
        word = λ f h w. sym (b.word f h w) ∙ (a.word f h w ∙ c.word f h w);
        bell = λ x h. sym (b.bell x h) ∙ (a.bell x h ∙ c.bell x h);
        message = λ m h. sym (b.message m h) ∙ (a.message m h ∙ c.message m h);
      }

  -- states that look the same, then one part of each changed: the words, the bells, places and messages, places alone
  module _ {s t : State} (v : View i L s t) where
    pub stored : {f g : ℕ → ℕ → ℕ} → ((j : ℕ) → Frame i L j → (w : ℕ) → f j w ≡ g j w)
        → View i L (changed s s.capability f s.bell s.message) (changed t t.capability g t.bell t.message)
    stored h = record { capability = v.capability; word = h; bell = v.bell; message = v.message }

    pub rung : {f g : ℕ → ℕ} → Alike (Bell i L) f g
        → View i L (changed s s.capability s.word f s.message) (changed t t.capability t.word g t.message)
    rung h = record { capability = v.capability; word = v.word; bell = h; message = v.message }

    pub mailed : {at at' : Places} {f g : ℕ → Message} → SamePlaces i L at at' → SameMail i L f g
        → View i L (with_mail s at f) (with_mail t at' g)
    mailed h k = record { capability = h; word = v.word; bell = v.bell; message = k }

    pub placed : {at at' : Places} → SamePlaces i L at at' → View i L (with_places s at) (with_places t at')
    placed h = mailed h v.message

    -- the position is not in the view: it goes by the table alone
    pub advanced : View i L (advance s) (advance t)
    unfolding advance
    advanced = record { capability = v.capability; word = v.word; bell = v.bell; message = v.message }

  -- a slot that L sees is of a domain in L
  pub seen-slot : (d : ℕ) {x : ℕ} → d < domains_most → x < slots → Seen i L (slot d x) → L d ≡ true
  seen-slot d {x} b r (own o) = let e : slot d x / slots ≡ d = omega arith in subst (λ k. L k ≡ true) e o.inside
  seen-slot d {x} b r (mail e u) = absurd (omega arith)

  -- a room that L sees is of a mailbox that some domain in L could use
  pub seen-room : {m : ℕ} → Seen i L (room m) → Mailbox i L m
  seen-room {m} (own o) = let h = o.in_range in absurd (omega arith)
  seen-room {m} (mail {m = n} e u) = let f : n ≡ m = omega arith in subst (λ k. Mailbox i L k) f u

  -- ---- chains of sources that start in the view never leave it

  -- the test of REVOKE at places that L sees depends on the view alone
  pub comes_same : (s t : Places) → SamePlaces i L s t → Tie i L s → (n a x : ℕ) → Tied L x
      → comes_to n s a x ≡ comes_to n t a x
  unfolding comes_to
  comes_same s t v tie zero a x h = refl
  comes_same s t v tie (suc n) a zero h = refl
  comes_same s t v tie (suc n) a (suc p) h =
      let o : Seen i L p = own (h p refl) in
      ap (λ b. eqb (suc p) a || b) (comes_same s t v tie n a _ (tie p o) ∙ ap (λ c. comes_to n t a c.source) (v p o))

  -- and never comes to a slot of a domain outside L
  pub comes_not : (at : Places) → Tie i L at → (p : ℕ) → (Ours L p → ⊥) → (n x : ℕ) → Tied L x → comes_to n at (suc p) x ≡ false
  unfolding comes_to
  comes_not at tie p out zero x h = ne_eqb x (suc p) (λ e. out (h p e))
  comes_not at tie p out (suc n) zero h = ne_eqb 0 (suc p) (λ e. omega arith)
  comes_not at tie p out (suc n) (suc r) h =
      ap₂ ◌||◌ (ne_eqb (suc r) (suc p) (λ e. out (h p e))) (comes_not at tie p out n _ (tie r (own (h r refl))))

-- ---- closed sets

-- a domain with a case of direct flow to a domain in a closed set is in it
pub drawn : (i : Image) (L : ℕ → Bool) → Closed i L → (d : ℕ) {R : ℕ → Type 0} → ((a : ℕ) → R a → Case i d a) → Some L R → L d ≡ true
drawn i L closed d case u =
    ⊎_elim (λ e. ap L e ∙ u.inside)
    (λ n. closed _ _ (direct (record { different = n; because = case _ u.does })) u.inside) (same? d u.domain)
