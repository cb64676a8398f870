-- The kinds of capability by name, as the code gives them, and the numbers that documents and memory have for them. Assumes nothing.
use Rattle.std.specs.Prelude.{◌≡◌, ◌≢◌, ℕ, Result, MatchResult}
use Rattle.rules.specs.State.{FRAME, MAILBOX, BELL}
use Rattle.rules.specs.declared.Kind.{Kind}
use Rattle.rules.specs.declared.Kind.TheVariants.{Frame, Mailbox, Bell}
use Rattle.rules.specs.declared.UnknownKind.{UnknownKind}

-- the number of a kind
abbrev pub kind_number : Kind → ℕ
kind_number Frame = FRAME
kind_number Mailbox = MAILBOX
kind_number Bell = BELL

-- the kind that has this number, or an error that says it, where none has it
abbrev pub Known : ℕ → Result Kind UnknownKind → Type 0
Known n r = MatchResult r (λ kind. kind_number kind ≡ n) (λ e. (e.0 ≡ n) × (n ≢ FRAME) × (n ≢ MAILBOX) × (n ≢ BELL))
