-- A line's fields as a cursor meets them, one after the other: what each step takes, and where the next one stands.
use Rattle.std.specs.Prelude.{ℕ, ◌+◌, ◌*◌, ◌%◌, Bool, true, false, cond, ◌&&◌, [], ◌∷◌, eqb, length, get_or, drop, Option, Some, None}
use Rattle.spec_text.specs.Bytes.{Bytes, same, is_name, is_number, value_of}
use Rattle.read_fields.specs.declared.Cursor.{Cursor}
use Rattle.read_fields.specs.declared.Number.{Number}
use Rattle.read_fields.specs.declared.Name.{Name}
use Rattle.read_bytes.specs.BytesModel.{is_end}

-- a field: the bytes up to the next tab or LF
unfoldable pub field : Bytes → Bytes
field [] = []
field (b ∷ bs) = elim (is_end b) [ true ↦ [] | false ↦ b ∷ field bs ]

abbrev pub field_at : Bytes → ℕ → Bytes
field_at text at = field (drop at text)

-- the offset of the byte that ends the field, and that byte; 0 at the end of the text
abbrev pub end_of : Bytes → ℕ → ℕ
end_of text at = at + length (field_at text at)

abbrev pub end_byte : Bytes → ℕ → ℕ
end_byte text at = get_or text (end_of text at) 0

-- at the first field of a line
abbrev pub start_at : ℕ → Cursor
start_at at = record { at = at; more = true }

-- the cursor past the field: after a tab there is one more field, after LF none
abbrev pub past : Bytes → ℕ → Cursor
past text at = record { at = end_of text at + 1; more = eqb (end_byte text at) 9 }

-- the cursor past the byte b at an offset, which has to be a tab or LF
abbrev pub past_byte : ℕ → ℕ → Option Cursor
past_byte b i = cond (is_end b) (Some (record { at = i + 1; more = eqb b 9 })) None

abbrev pub past_end : Bytes → ℕ → Option Cursor
past_end text i = past_byte (get_or text i 0) i

-- the cursor after the byte at an offset, which ends a field
abbrev pub next_at : Bytes → ℕ → Cursor
next_at text end = record { at = end + 1; more = eqb (get_or text end 0) 9 }

-- a step takes a field where there is one, its bytes are right, and a tab or LF ends it
abbrev pub takes : (Bytes → Bool) → Bytes → Cursor → Bool
takes right text c = c.more && (right (field_at text c.at) && is_end (end_byte text c.at))

abbrev pub field_from : Bytes → Bytes → Cursor → Option Cursor
field_from word text c = cond (takes (λ x. same x word) text c) (Some (past text c.at)) None

abbrev pub number_from : ℕ → Bytes → Cursor → Option Number
number_from largest text c =
    cond (takes (is_number largest) text c) (Some (record { value = value_of (field_at text c.at); next = past text c.at })) None

-- ---- a hash of a name's bytes: 12 bits, one byte after the other
abbrev pub mix : ℕ → ℕ → ℕ
mix h b = (h * 1597 + b) % 4096

unfoldable pub hash_from : ℕ → Bytes → ℕ
hash_from h [] = h
hash_from h (b ∷ bs) = hash_from (mix h b) bs

abbrev pub hash_of : Bytes → ℕ
hash_of x = hash_from 0 x

abbrev pub name_from : Bytes → Cursor → Option Name
name_from text c =
    cond (takes is_name text c)
    (Some (record {
      part = record { offset = c.at; len = length (field_at text c.at) };
      hash = hash_of (field_at text c.at);
      next = past text c.at;
    }))
    None

-- after the last field
abbrev pub end_from : Cursor → Option Cursor
end_from c = cond c.more None (Some c)
