-- `name` is `name_from`. The loop's invariant: the bytes before `len` are a run of name bytes, and their hash, with the field that is left,
-- makes the field's hash. Where the loop stops, the field is a name only if it ends there.
use Rattle.std.proofs.Common.{◌<◌, ◌≡◌}
use Rattle.spec_text.specs.Bytes.{is_name_byte}
use Rattle.read_fields.specs.FieldsModel.{field_at, hash_from}
use Rattle.read_fields.proofs.Fields.{Run}
use Rattle.read_fields.proofs.Cursor.name.Given as goal

abbrev pub invariant-loop-len : goal.invariant-loop-len
invariant-loop-len l =
    Run is_name_byte l.name l.len × (l.hash < 4096) × (hash_from 0 (field_at l.name 0) ≡ hash_from l.hash (field_at l.name l.len))
