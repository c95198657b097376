-- `number` is `number_from`. The loop's invariant: the bytes before `len` are a run of digits, and their value, with the field that is left,
-- makes the field's value. Where the loop stops, the field is a number only if it ends there; a value above the largest only grows.
use Rattle.std.proofs.Common.{◌≡◌, ◌≤◌}
use Rattle.spec_text.specs.Bytes.{is_digit, decimal}
use Rattle.read_fields.specs.FieldsModel.{field_at}
use Rattle.read_fields.proofs.Fields.{Run}
use Rattle.read_fields.proofs.Cursor.number.Given as goal

abbrev pub invariant-loop-len : goal.invariant-loop-len
invariant-loop-len l =
    Run is_digit l.digits l.len × (l.value ≤ l.largest) × (decimal 0 (field_at l.digits 0) ≡ decimal l.value (field_at l.digits l.len))
