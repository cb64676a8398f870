-- What no effect changes: the sizes and the table of turns, all fixed at boot, and the position, which the turn itself moves on.
-- Assumes nothing.
use mathlib.Core.Path.{◌≡◌, refl}
use Rattle.rules.specs.State.{State}
use Rattle.rules.specs.Turn.{apply, advance, next}
use Rattle.rules.specs.declared.Operation.{Operation}
use Rattle.rules.specs.declared.Effect.{Effect}
use Rattle.rules.specs.declared.Effect.TheVariants.{Nothing, Store, Ring, Hush, Put, Drop, Prune, Post, Take, Move}

pub record Fixed (s t : State) : Type 0 where
  pub domains : t.domains ≡ s.domains
  pub frames : t.frames ≡ s.frames
  pub turns : t.turns ≡ s.turns

pub apply_fixed : (s : State) (e : Effect) → Fixed s (apply s e) × ((apply s e).position ≡ s.position)
unfolding apply
apply_fixed s Nothing = (record { domains = refl; frames = refl; turns = refl }, refl)
apply_fixed s (Store f w v) = (record { domains = refl; frames = refl; turns = refl }, refl)
apply_fixed s (Ring b v) = (record { domains = refl; frames = refl; turns = refl }, refl)
apply_fixed s (Hush b) = (record { domains = refl; frames = refl; turns = refl }, refl)
apply_fixed s (Put p c) = (record { domains = refl; frames = refl; turns = refl }, refl)
apply_fixed s (Drop p) = (record { domains = refl; frames = refl; turns = refl }, refl)
apply_fixed s (Prune p) = (record { domains = refl; frames = refl; turns = refl }, refl)
apply_fixed s (Post m g c) = (record { domains = refl; frames = refl; turns = refl }, refl)
apply_fixed s (Take m) = (record { domains = refl; frames = refl; turns = refl }, refl)
apply_fixed s (Move m p) = (record { domains = refl; frames = refl; turns = refl }, refl)

pub next_fixed : (s : State) (o : Operation) → Fixed s (next s o)
unfolding next advance
next_fixed s o =
    let w = (apply_fixed s _).0 in
    record { domains = w.domains; frames = w.frames; turns = w.turns }
