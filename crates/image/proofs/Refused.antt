-- A refusal's number is never 0, which stands for none. Assumes nothing.
use mathlib.Core.Path.{◌≡◌}
use Prim.Native.Nat.{◌<◌}
use native.Mathlib.Omega.{arith}
use Rattle.std.proofs.Common.{lit<}
use Rattle.rules.specs.Refusal.{number_of}
use Rattle.rules.specs.declared.Refusal.{Refusal}
use Rattle.rules.specs.declared.Refusal.TheVariants.{NoOperation, NoSlot, EmptySlot, WrongKind, NoRight, OutOfRange, TakenSlot, MailboxFull, MailboxEmpty, ImageShort, ImageSizes, ImageLength, ImageTurns, ImageEntry, ImageOrder, ImageSource, Unwritable, BufferShort, TooShort}

pub number-positive : (r : Refusal) → 0 < number_of r
number-positive NoOperation = lit< tt
number-positive NoSlot = lit< tt
number-positive EmptySlot = lit< tt
number-positive WrongKind = lit< tt
number-positive NoRight = lit< tt
number-positive OutOfRange = lit< tt
number-positive TakenSlot = lit< tt
number-positive MailboxFull = lit< tt
number-positive MailboxEmpty = lit< tt
number-positive ImageShort = lit< tt
number-positive ImageSizes = lit< tt
number-positive ImageLength = lit< tt
number-positive ImageTurns = lit< tt
number-positive ImageEntry = lit< tt
number-positive ImageOrder = lit< tt
number-positive ImageSource = lit< tt
number-positive Unwritable = lit< tt
number-positive BufferShort = lit< tt
number-positive TooShort = lit< tt

pub refused_some : (r : Refusal) → number_of r ≡ 0 → ⊥
refused_some r z = omega (arith, number-positive r)
