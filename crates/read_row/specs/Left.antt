-- The fields that are left of a line, as the iterator over them yields their bytes.
use Rattle.std.specs.Prelude.{Option, None, Some, cond, List, [], ◌∷◌, eqb, map}
use Rattle.std.specs.Borrow.{Bor}
use Rattle.spec_text.specs.Bytes.{Bytes, Part}
use Rattle.spec_text.specs.Lines.{cut}
use Rattle.read_row.specs.declared.Fields.{Fields}

abbrev pub bytes_of : List Part → List Bytes
bytes_of ps = map (λ (p : Part). p.bytes) ps

-- the fields of some bytes, up to the first LF
abbrev pub fields_of : Bytes → List Bytes
fields_of bs = bytes_of (cut 0 bs).fields

-- those of what is left
abbrev pub left_in : Option (Bor Bytes) → List Bytes
left_in None = []
left_in (Some r) = fields_of r.now

abbrev pub fields_left : Fields → List Bytes
fields_left s = left_in s.rest

-- those after a field that ends where these bytes begin
abbrev pub fields_after : Bytes → List Bytes
fields_after [] = []
fields_after (b ∷ bs) = cond (eqb b 9) (fields_of bs) []
