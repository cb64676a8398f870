-- The sizes of document 01, section 1, and its other limits, each named here and nowhere else.
-- Assumes nothing.
use Rattle.std.specs.Prelude.{ℕ, ◌+◌, ◌*◌}

-- domains D are 1 to 16
abbrev pub domains_most : ℕ
domains_most = 16

-- capability slots of a domain; as a slot argument of SEND and RECEIVE this number means no slot
abbrev pub slots : ℕ
slots = 64

-- frames F are 1 to 256
abbrev pub frames_most : ℕ
frames_most = 256

-- words of 32 bits in a frame
abbrev pub frame_words : ℕ
frame_words = 256

abbrev pub mailboxes : ℕ
mailboxes = 64

abbrev pub bells : ℕ
bells = 64

-- turns in the table T are 1 to 64
abbrev pub turns_most : ℕ
turns_most = 64

-- a badge is 0 to 65,535
abbrev pub badge_most : ℕ
badge_most = 65535

-- entries of an image C are 0 to 1,024
abbrev pub entries_most : ℕ
entries_most = 1024

-- the slots of all domains: 16 * 64
abbrev pub all_slots : ℕ
all_slots = domains_most * slots

-- a place is a slot of a domain or a mailbox's room: at most 16 * 64 + 64 = 1,088
abbrev pub places : ℕ
places = all_slots + mailboxes
