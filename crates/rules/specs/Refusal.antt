-- The refusals by name, as the code gives them, and the numbers that the documents give them. Assumes nothing.
use Rattle.std.specs.Prelude.{ℕ, Result, Ok, Err}
use Rattle.rules.specs.declared.Refusal.{Refusal}
use Rattle.rules.specs.declared.Refusal.TheVariants.{NoOperation, NoSlot, EmptySlot, WrongKind, NoRight, OutOfRange, TakenSlot, MailboxFull, MailboxEmpty, ImageShort, ImageSizes, ImageLength, ImageTurns, ImageEntry, ImageOrder, ImageSource, Unwritable, BufferShort, TooShort}

-- the number of a refusal
abbrev pub number_of : Refusal → ℕ
number_of NoOperation = 1
number_of NoSlot = 2
number_of EmptySlot = 3
number_of WrongKind = 4
number_of NoRight = 5
number_of OutOfRange = 6
number_of TakenSlot = 7
number_of MailboxFull = 8
number_of MailboxEmpty = 9
number_of ImageShort = 20
number_of ImageSizes = 21
number_of ImageLength = 22
number_of ImageTurns = 23
number_of ImageEntry = 24
number_of ImageOrder = 25
number_of ImageSource = 26
number_of Unwritable = 27
number_of BufferShort = 28
number_of TooShort = 29

-- the status of what was done or refused: 0 or the refusal's number
abbrev pub status_of : {A : Type 0} → Result A Refusal → ℕ
status_of (Ok x) = 0
status_of (Err e) = number_of e

-- the number that was answered, or the refusal's
abbrev pub number_in : Result ℕ Refusal → ℕ
number_in (Ok n) = n
number_in (Err e) = number_of e
