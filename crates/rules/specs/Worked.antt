-- The worked example of document 01, section 6, and of document 03, sections 2 and 3: the image's bytes, the 22 turns, what the fifteenth
-- removes, the table of flows and the closed sets, as the documents print them, and what holds of each. proofs/Worked.antt has the proofs,
-- under the statements' names in small letters. Assumes nothing.
use Rattle.std.specs.Prelude.{◌≡◌, Bool, true, false, ◌↔◌, ℕ, get_or, take}
use mathlib.Core.List.{List, [], ◌∷◌, map, Memᴰ}
use Rattle.rules.specs.State.{State, Places, Holds, slot, nothing, whose}
use Rattle.rules.specs.Turn.{answer, next, after}
use Rattle.rules.specs.Image.{image_of, boot, read, accepted, write, image}
use Rattle.rules.specs.Flow.{Flow, Closed}
use Rattle.rules.specs.declared.Operation.{Operation}
use Rattle.rules.specs.declared.Answer.{Answer}

-- the 148 bytes
abbrev pub bytes : List ℕ
bytes =
    0x04 ∷ 0x06 ∷ 0x00 ∷ 0x0b ∷ 0x00 ∷ 0x10 ∷ 0x00 ∷ 0x00 ∷ 0x00 ∷ 0x01 ∷ 0x00 ∷ 0x02 ∷ 0x01 ∷ 0x03 ∷ 0x00 ∷ 0x00
    ∷ 0x00 ∷ 0x00 ∷ 0x01 ∷ 0x03 ∷ 0x00 ∷ 0x05 ∷ 0x00 ∷ 0x00 ∷ 0xff ∷ 0x00 ∷ 0x00 ∷ 0x00
    ∷ 0x00 ∷ 0x01 ∷ 0x03 ∷ 0x02 ∷ 0x00 ∷ 0x01 ∷ 0x00 ∷ 0x04 ∷ 0xff ∷ 0x00 ∷ 0x00 ∷ 0x00
    ∷ 0x00 ∷ 0x02 ∷ 0x02 ∷ 0x01 ∷ 0x00 ∷ 0x00 ∷ 0x00 ∷ 0x00 ∷ 0xff ∷ 0x00 ∷ 0x00 ∷ 0x00
    ∷ 0x01 ∷ 0x00 ∷ 0x01 ∷ 0x01 ∷ 0x00 ∷ 0x05 ∷ 0x00 ∷ 0x00 ∷ 0x00 ∷ 0x00 ∷ 0x00 ∷ 0x00
    ∷ 0x01 ∷ 0x01 ∷ 0x03 ∷ 0x01 ∷ 0x00 ∷ 0x01 ∷ 0x00 ∷ 0x00 ∷ 0xff ∷ 0x00 ∷ 0x00 ∷ 0x00
    ∷ 0x01 ∷ 0x02 ∷ 0x01 ∷ 0x03 ∷ 0x00 ∷ 0x06 ∷ 0x00 ∷ 0x00 ∷ 0xff ∷ 0x00 ∷ 0x00 ∷ 0x00
    ∷ 0x01 ∷ 0x03 ∷ 0x02 ∷ 0x02 ∷ 0x00 ∷ 0x02 ∷ 0x00 ∷ 0x09 ∷ 0xff ∷ 0x00 ∷ 0x00 ∷ 0x00
    ∷ 0x02 ∷ 0x00 ∷ 0x01 ∷ 0x03 ∷ 0x00 ∷ 0x09 ∷ 0x00 ∷ 0x00 ∷ 0xff ∷ 0x00 ∷ 0x00 ∷ 0x00
    ∷ 0x02 ∷ 0x01 ∷ 0x02 ∷ 0x06 ∷ 0x00 ∷ 0x03 ∷ 0x00 ∷ 0x00 ∷ 0xff ∷ 0x00 ∷ 0x00 ∷ 0x00
    ∷ 0x03 ∷ 0x00 ∷ 0x02 ∷ 0x01 ∷ 0x00 ∷ 0x02 ∷ 0x00 ∷ 0x00 ∷ 0xff ∷ 0x00 ∷ 0x00 ∷ 0x00
    ∷ 0x03 ∷ 0x01 ∷ 0x02 ∷ 0x01 ∷ 0x00 ∷ 0x03 ∷ 0x00 ∷ 0x00 ∷ 0xff ∷ 0x00 ∷ 0x00 ∷ 0x00 ∷ []

-- a row of the table: whose turn, the operation, the answer
pub record Row : Type 0 where
  pub domain : ℕ
  pub operation : Operation
  pub answer : Answer

-- an operation number with its arguments, the rest 0; a status with its words, the rest 0
abbrev pub row : ℕ → ℕ → List ℕ → ℕ → List ℕ → Row
row d n x r w =
    record {
      domain = d;
      operation =
          record {
            number = n;
            first = get_or x 0 0;
            second = get_or x 1 0;
            third = get_or x 2 0;
            fourth = get_or x 3 0;
            fifth = get_or x 4 0;
            sixth = get_or x 5 0;
            seventh = get_or x 6 0;
          };
      answer =
          record { status = r; w0 = get_or w 0 0; w1 = get_or w 1 0; w2 = get_or w 2 0; w3 = get_or w 3 0; w4 = get_or w 4 0; w5 = get_or w 5 0 };
    }

-- its first 22 turns: turn of, operation number, arguments, status, words
abbrev pub rows : List Row
rows =
    row 0 2 (0 ∷ 7 ∷ 4711 ∷ []) 0 []
    ∷ row 1 1 (0 ∷ 7 ∷ []) 0 (4711 ∷ [])
    ∷ row 0 6 (1 ∷ []) 0 []
    ∷ row 2 1 (1 ∷ 0 ∷ []) 4 []
    ∷ row 1 7 (1 ∷ []) 0 (4 ∷ [])
    ∷ row 3 9 (0 ∷ 10 ∷ []) 9 []
    ∷ row 0 3 (0 ∷ 9 ∷ 1 ∷ 0 ∷ []) 0 []
    ∷ row 1 2 (0 ∷ 7 ∷ 1 ∷ []) 5 []
    ∷ row 0 3 (0 ∷ 9 ∷ 3 ∷ 0 ∷ []) 7 []
    ∷ row 2 3 (1 ∷ 20 ∷ 2 ∷ 5 ∷ []) 0 []
    ∷ row 1 8 (3 ∷ 64 ∷ 1 ∷ 2 ∷ 3 ∷ 4 ∷ []) 0 []
    ∷ row 3 9 (0 ∷ 64 ∷ []) 0 (9 ∷ 1 ∷ 2 ∷ 3 ∷ 4 ∷ 0 ∷ [])
    ∷ row 0 3 (9 ∷ 10 ∷ 3 ∷ 0 ∷ []) 0 []
    ∷ row 1 8 (3 ∷ 2 ∷ 5 ∷ 6 ∷ 7 ∷ 8 ∷ []) 5 []
    ∷ row 0 5 (0 ∷ []) 0 []
    ∷ row 2 8 (1 ∷ 0 ∷ 0 ∷ 0 ∷ 0 ∷ 1 ∷ []) 0 []
    ∷ row 1 1 (0 ∷ 7 ∷ []) 3 []
    ∷ row 3 9 (1 ∷ 10 ∷ []) 0 (0 ∷ 0 ∷ 0 ∷ 0 ∷ 1 ∷ 1 ∷ [])
    ∷ row 0 10 (9 ∷ []) 3 []
    ∷ row 1 11 [] 1 []
    ∷ row 0 10 (10 ∷ []) 3 []
    ∷ row 2 8 (20 ∷ 64 ∷ 1 ∷ 1 ∷ 1 ∷ 1 ∷ []) 0 [] ∷ []

-- the operations of some rows, and the rows that they give from a state on
abbrev pub operations : List Row → List Operation
operations = map (λ (r : Row). r.operation)

abbrev pub played : State → List Operation → List Row
played s [] = []
played s (o ∷ os) = record { domain = whose s; operation = o; answer = answer s o } ∷ played (next s o) os

-- the bytes are accepted, what was read is written back, and the turns give those rows
abbrev pub BytesAccepted : Type 0
BytesAccepted = read bytes ≡ accepted (boot (image_of bytes))

abbrev pub BytesWritten : Type 0
BytesWritten = write (boot (image_of bytes)) ≡ image bytes

abbrev pub RowsPlayed : Type 0
RowsPlayed = played (boot (image_of bytes)) (operations rows) ≡ rows

-- the state after the first n turns
abbrev pub state_after : ℕ → State
state_after n = after (boot (image_of bytes)) (take n (operations rows))

-- what the fifteenth turn removes: slots 9 and 10 of metering (0), and slot 0 of billing (1)
abbrev pub removed : List ℕ
removed = slot 0 9 ∷ slot 0 10 ∷ slot 1 0 ∷ []

-- what stands before and after: the places of the list held a capability and hold nothing now, and every other place is as it was
pub record Removes (before now : Places) (ps : List ℕ) : Type 0 where
  pub held : (q : ℕ) → Memᴰ q ps → Holds before q
  pub gone : (q : ℕ) → Memᴰ q ps → now q ≡ nothing
  pub kept : (q : ℕ) → (Memᴰ q ps → ⊥) → now q ≡ before q

-- the fifteenth turn removes those; slot 0 of metering stays
abbrev pub FifteenthRemoves : Type 0
FifteenthRemoves = Removes (state_after 14).capability (state_after 15).capability removed × Holds (state_after 15).capability (slot 0 0)

-- document 03: from whom (rows) to whom (columns)
abbrev pub from_metering : List Bool
from_metering = true ∷ true ∷ true ∷ true ∷ []

abbrev pub from_billing : List Bool
from_billing = false ∷ true ∷ true ∷ true ∷ []

abbrev pub from_program : List Bool
from_program = false ∷ true ∷ true ∷ true ∷ []

abbrev pub from_modem : List Bool
from_modem = false ∷ true ∷ true ∷ true ∷ []

abbrev pub flows : List (List Bool)
flows = from_metering ∷ from_billing ∷ from_program ∷ from_modem ∷ []

-- what the table says of a flow from a to b: no where a or b is no domain
abbrev pub told : ℕ → ℕ → Bool
told a b = get_or (get_or flows a []) b false

-- the table says yes exactly where there is flow
abbrev pub FlowsExactly : Type 0
FlowsExactly = (a b : ℕ) → (told a b ≡ true) ↔ Flow (image_of bytes) a b

-- in the example the closed sets are: none, {0}, and all four
abbrev pub closed_sets : List (List Bool)
closed_sets =
    (false ∷ false ∷ false ∷ false ∷ [])
    ∷ (true ∷ false ∷ false ∷ false ∷ [])
    ∷ (true ∷ true ∷ true ∷ true ∷ []) ∷ []

-- a set of domains is closed exactly where it is one of them
abbrev pub ClosedExactly : Type 0
ClosedExactly = (L : ℕ → Bool) → Closed (image_of bytes) L ↔ Memᴰ (L 0 ∷ L 1 ∷ L 2 ∷ L 3 ∷ []) closed_sets
