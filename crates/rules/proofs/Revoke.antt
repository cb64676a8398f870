-- What REVOKE and DELETE do, exactly, and that a reused slot inherits nothing. Assumes nothing.
use mathlib.Core.Path.{◌≡◌, refl, sym, subst}
use Prim.Native.Nat.{ℕ, zero, suc}
use native.Mathlib.Omega.{arith}
use Rattle.rules.specs.State.{State, slot, room, nothing, whose, Holds, Source, Derived, Sound}
use Rattle.rules.specs.Turn.{any_slot_refusal, words, conclude, delete, revoke, Name, DELETE, REVOKE, named, decided, decide, held, apply, advance, next, answer}
use Rattle.rules.specs.Authority.{Revoked, Deleted}
use Rattle.rules.specs.declared.Capability.{Capability}
use Rattle.rules.specs.declared.Answer.{Answer}
use Rattle.rules.specs.declared.Operation.{Operation}
use Rattle.rules.specs.declared.Effect.{Effect}
use Rattle.rules.specs.declared.Effect.TheVariants.{Drop, Prune}
use Rattle.rules.proofs.Laws.{set-each}
use Rattle.rules.proofs.Licence.{Licence, nothing-done, stores, rings, hushes, puts, drops, prunes, posts, sends, takes, gets, licensed}
use Rattle.rules.proofs.Places.{dropped-here, each-dropped, each-pruned}
use Rattle.rules.proofs.Derivation.{dropped-back, dropped_on, leaf_childless}
use Rattle.rules.proofs.Section4.{dropped_alike}
use Rattle.rules.proofs.Always.{Made, derived_made, copied_made, pruning-gone, pruning-kept}

-- an operation that was not refused has its effect
succeeded : (e : ℕ) (f : Effect) (a : Answer) → (conclude e f a).answer.status ≡ 0 → (conclude e f a).effect ≡ f
unfolding conclude
succeeded zero f a h = refl
succeeded (suc e) f a h = absurd (let g : suc e ≡ 0 = h in omega arith)

effect_of : (s : State) (o : Operation) (n : Name) (f : Effect) → named o.number ≡ n
    → ((decided s (whose s) n o).answer.status ≡ 0 → (decided s (whose s) n o).effect ≡ f)
    → (answer s o).status ≡ 0 → (decide s (whose s) o).effect ≡ f
unfolding answer decide
effect_of s o n f e k h = subst (λ m. (decided s (whose s) m o).answer.status ≡ 0 → (decided s (whose s) m o).effect ≡ f) (sym e) k h

-- the effects of a REVOKE and of a DELETE that were not refused
pub revoking : (s : State) (o : Operation) → named o.number ≡ REVOKE → (answer s o).status ≡ 0
    → (decide s (whose s) o).effect ≡ Prune (slot (whose s) o.first)
unfolding decided revoke
revoking s o e h = effect_of s o REVOKE _ e (succeeded (any_slot_refusal s (whose s) o.first) _ (words 0 0 0 0 0 0)) h

pub deleting : (s : State) (o : Operation) → named o.number ≡ DELETE → (answer s o).status ≡ 0
    → (decide s (whose s) o).effect ≡ Drop (slot (whose s) o.first)
unfolding decided delete
deleting s o e h = effect_of s o DELETE _ e (succeeded (any_slot_refusal s (whose s) o.first) _ (words 0 0 0 0 0 0)) h

module _ {s : State} (f : Sound s) where
  pruned_so : (p : ℕ) → Revoked s (advance (apply s (Prune p))) p
  unfolding advance apply
  pruned_so p =
      record {
        gone = pruning-gone f p;
        kept = pruning-kept f p;
        stays = pruning-kept f p p f.section4.no_return;
        rest = record { domains = refl; frames = refl; turns = refl; word = refl; bell = refl; message = refl };
      }

  pub revoked : (o : Operation) (p : ℕ) → (decide s (whose s) o).effect ≡ Prune p → Revoked s (next s o) p
  unfolding next
  revoked o p e = subst (λ x. Revoked s (advance (apply s x)) p) (sym e) (pruned_so p)

  dropped_so : (p : ℕ) → Deleted s (advance (apply s (Drop p))) p
  unfolding advance apply
  dropped_so p =
      record {
        gone = dropped-here s.capability p;
        kept = dropped_alike s.capability p;
        between = λ q r h g. (λ u. dropped-back s.capability p u, λ u. dropped_on s.capability p f.section4.no_return h g u);
        rest = record { domains = refl; frames = refl; turns = refl; word = refl; bell = refl; message = refl };
      }

  pub deleted : (o : Operation) (p : ℕ) → (decide s (whose s) o).effect ≡ Drop p → Deleted s (next s o) p
  unfolding next
  deleted o p e = subst (λ x. Deleted s (advance (apply s x)) p) (sym e) (dropped_so p)

  -- what has a source x was made from what x held before
  From : Capability → Type 0
  From c = (x : ℕ) → c.source ≡ suc x → Holds s.capability x

  from_each : (q : ℕ) → From (s.capability q)
  unfolding From
  from_each q x e = f.section4.held e

  from_nothing : From nothing
  unfolding From
  from_nothing x e = absurd (let g : 0 ≡ suc x = e in omega arith)

  from_made : {c d : Capability} {y : ℕ} → Made c d y → Holds s.capability y → From c
  unfolding From
  from_made {y = y} m h x e = subst (λ z. Holds s.capability z) (let g = m.source in let w : y ≡ x = omega arith in w) h

  -- after an effect each source is a place that held a capability before it
  pub sources-held : (d : ℕ) (e : Effect) → Licence s d e → (x q : ℕ) → Source (apply s e).capability x q → Holds s.capability x
  unfolding apply From
  sources-held d e nothing-done x q = from_each q x
  sources-held d e (stores o l) x q = from_each q x
  sources-held d e (rings o) x q = from_each q x
  sources-held d e (hushes o) x q = from_each q x
  sources-held d e (puts {b = b} r o g l) x q =
      set-each (λ q. From) s.capability _ _ from_each (from_made (derived_made _ _ r b l) o.there) q x
  sources-held d e (drops o) x q = each-dropped (λ q. From) s.capability from_each _ (λ q. from_nothing) (λ q c y e. f.section4.held e) q x
  sources-held d e (prunes o) x q = each-pruned (λ q. From) s.capability from_each _ (λ q. from_nothing) q x
  sources-held d e (posts o z) x q = set-each (λ q. From) s.capability _ _ from_each from_nothing q x
  sources-held d e (sends o g a z) x q = set-each (λ q. From) s.capability _ _ from_each (from_made (copied_made _ _) a.there) q x
  sources-held d e (takes o) x q = set-each (λ q. From) s.capability _ _ from_each from_nothing q x
  sources-held d e (gets {x = z} o u g) x q =
      set-each (λ q. From) _ _ _ (set-each (λ q. From) s.capability _ _ from_each from_nothing) (from_each (room (held s d z).object)) q x

  -- a place that was empty before a turn has nothing derived from it after the turn
  pub fresh : (o : Operation) (p q : ℕ) → (s.capability p).kind ≡ 0 → Derived (next s o).capability p q → ⊥
  unfolding next advance
  fresh o p q z = leaf_childless (λ r e. sources-held (whose s) _ (licensed s (whose s) o) p r e z)
