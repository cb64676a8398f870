-- What the code's structs say in the rules' words. Assumes nothing.
use Rattle.std.specs.Prelude.{◌≡◌, List, ℕ, ◌+◌, ◌*◌, ◌/◌, ◌<◌, length}
use Rattle.rules.specs.Image.{header_bytes, entry_bytes, size_d, size_t, size_c, size_f}
use Rattle.rules.specs.Image as rules
use Rattle.image.specs.declared.Fields.{Fields}
use Rattle.image.specs.declared.Header.{Header}

-- an entry as the rules have it
abbrev pub said : Fields → rules.Entry
said e =
    record {
      domain = e.domain;
      slot = e.slot;
      kind = e.kind;
      rights = e.rights;
      object = e.object;
      badge = e.badge;
      source_domain = e.source_domain;
      source_slot = e.source_slot;
      last = e.last;
    }

-- e is the entry whose first byte is byte i; each of its fields fits the bytes that it comes from
pub record Fetched (b : List ℕ) (i : ℕ) (e : Fields) : Type 0 where
  pub exact : said e ≡ rules.entry_at b i
  pub domain : e.domain < 256
  pub slot : e.slot < 256
  pub kind : e.kind < 256
  pub rights : e.rights < 256
  pub object : e.object < 65536
  pub badge : e.badge < 65536
  pub source_domain : e.source_domain < 256
  pub source_slot : e.source_slot < 256

-- h is what the header says; each of its fields fits the bytes that it comes from
pub record Headed (b : List ℕ) (h : Header) : Type 0 where
  pub domains : h.domains ≡ size_d b
  pub turns : h.turns ≡ size_t b
  pub entries : h.entries ≡ size_c b
  pub frames : h.frames ≡ size_f b
  pub turns_low : h.turns < 256
  pub entries_low : h.entries < 65536

-- the length is exactly what T and C give
pub record Whole (b : List ℕ) : Type 0 where
  pub long : length b ≡ header_bytes + (size_t b + 3) / 4 * 4 + entry_bytes * size_c b
