-- The demands at work on the worked example of documents 01 and 03, so that they are seen to speak of something: it can be booted, its
-- turns give the document's rows, and {metering}, neither empty nor full, is a group into which nothing flows. proofs/Example.antt has the
-- proofs. Assumes nothing.
use Rattle.std.specs.Prelude.{◌≡◌, Bool, List, [], ℕ, ◌≤◌, ◌<◌, eqb, length, get_or}
use Rattle.rules.specs.Image.{image_of}
use Rattle.rules.specs.Flow.{Closed}
use Rattle.rules.specs.Partition.{Programs}
use Rattle.rules.specs.Worked.{bytes, Row, row, rows}
use Rattle.rules.specs.declared.Answer.{Answer}
use Rattle.layout.specs.Layout.{words_for}
use Rattle.boot.specs.Booted.{Booted}
use Rattle.meterkernel.specs.Demands.{heard, Runs}

-- any memory that is long enough takes it
abbrev pub ExampleBoots : Type 0
ExampleBoots = (lent : List ℕ) → words_for 16 ≤ length lent → (n : List ℕ) × Booted bytes lent 0 n

-- row n of the document's 22
abbrev pub row_no : ℕ → Row
row_no n = get_or rows n (row 0 0 [] 0 [])

-- whoever runs it with the document's operations sees the document's rows: whose turn, status and words
abbrev pub ExampleRun : Type 0
ExampleRun = (P : Programs) (m : ℕ → List ℕ) (who : ℕ → ℕ) (x : ℕ → Answer) → Runs 22 bytes P m who x
    → ((n : ℕ) → n < 22 → P (who n) (heard who x n (who n)) ≡ (row_no n).operation)
    → (n : ℕ) → n < 22 → (who n ≡ (row_no n).domain) × (x n ≡ (row_no n).answer)

-- metering, domain 0, and nobody else
abbrev pub metering : ℕ → Bool
metering d = eqb d 0

-- nothing flows into {metering}
abbrev pub MeteringClosed : Type 0
MeteringClosed = Closed (image_of bytes) metering

-- so whatever billing, the householder's program and the modem do, metering hears the same
abbrev pub MeteringHearsNobody : Type 0
MeteringHearsNobody = (P Q : Programs) → P 0 ≡ Q 0 → (N : ℕ) (m m' : ℕ → List ℕ) (who who' : ℕ → ℕ) (x x' : ℕ → Answer)
    → Runs N bytes P m who x → Runs N bytes Q m' who' x' → (n : ℕ) → n ≤ N → heard who x n 0 ≡ heard who' x' n 0
