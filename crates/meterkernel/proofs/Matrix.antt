-- The matrix that mk_flow writes says which sets are closed: there is flow between domains of the image alone. Assumes nothing.
use mathlib.Core.Path.{◌≡◌, refl, sym, subst}
use mathlib.Core.Bool.{Bool, false}
use mathlib.Core.List.{List, Memᴰ}
use mathlib.Core.Logic.{◌↔◌, inl, inr}
use Prim.Native.Nat.{ℕ, ◌<◌}
use borrow.Author.Tests.{eqb-true}
use Rattle.rules.specs.Image.{Entry, size_d, image_of, sourceless, defines, refusal_of}
use Rattle.rules.specs.Flow.{Triple, CouldHold, image, passed, User, Case, frame, ringing, hearing, mailbox, derivation, Flow, itself, direct, onward, Closed}
use Rattle.rules.proofs.Laws.{both, passes}
use Rattle.rules.proofs.Given.{some_at, FormRight, form-right}
use Rattle.rules.proofs.Bootable.{accepted_exactly}
use Rattle.flow.specs.Answer.{Flows, answer_for}
use Rattle.meterkernel.specs.Demands.{NothingInto}

module _ (b : List ℕ) (h : refusal_of b ≡ 0) where
  form : FormRight b
  unfolding refusal_of
  form = form-right b (passes _ _ 25 h).0

  could-below : {a : ℕ} {t : Triple} → CouldHold (image_of b) a t → a < size_d b
  could-below (image {e} m) = (form.entry e m).domain
  could-below (passed c g w d r k) = could-below d

  user_below : {k o a : ℕ} → User (image_of b) k o a → a < size_d b
  user_below (inl w) = could-below w.could
  user_below (inr r) = could-below r.could

  -- the domain of a source that an entry has
  source-below : {e : Entry} → Memᴰ e (image_of b).entries → sourceless e ≡ false → e.source_domain < size_d b
  unfolding defines refusal_of
  source-below {e} m n =
      let (f, k, t) = some_at (defines e) _ (((accepted_exactly b (passes _ _ 25 h).0).0 h).defined m n) in
      subst (λ d. d < size_d b) (eqb-true _ _ (both _ _ t).0) (form.entry f k).domain

  case_below : {x y : ℕ} → Case (image_of b) x y → (x < size_d b) × (y < size_d b)
  case_below (frame w r) = (could-below w.could, could-below r.could)
  case_below (ringing w r) = (could-below w.could, could-below r.could)
  case_below (hearing w r) = (could-below w.could, could-below r.could)
  case_below (mailbox u v) = (user_below u, user_below v)
  case_below (derivation {e} m n) = (source-below m n, (form.entry e m).domain)

  flow-below : {x y : ℕ} → Flow (image_of b) x y → (x < size_d b) × (y < size_d b)
  unfolding image_of
  flow-below (itself l) = (l, l)
  flow-below (direct d) = case_below d.because
  flow-below (onward p q) = ((flow-below p).0, (flow-below q).1)

unrefused : {b out matrix : List ℕ} → Flows b out 0 matrix → refusal_of b ≡ 0
unfolding answer_for
unrefused f = (passes _ _ 27 (sym f.answer)).0

pub closed_exactly : (b out matrix : List ℕ) → Flows b out 0 matrix → (L : ℕ → Bool) → Closed (image_of b) L ↔ NothingInto L (size_d b) matrix
closed_exactly b out matrix f L = (
  λ closed a c la lc e. closed a c ((f.tells refl a c la lc).told e),
  λ none a c g. let (la, lc) = flow-below b (unrefused f) g in none a c la lc ((f.tells refl a c la lc).every g),
)
