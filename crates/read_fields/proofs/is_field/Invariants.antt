-- The loop's invariant: the bytes are the same so far, so what is left decides.
use Rattle.std.proofs.Common.{drop, ◌≡◌}
use Rattle.spec_text.specs.Bytes.{same}
use Rattle.read_fields.specs.FieldsModel.{field, field_at}
use Rattle.read_fields.proofs.is_field.Given as goal

abbrev pub invariant-loop-i : goal.invariant-loop-i
invariant-loop-i l = same (field l.rest) l.word ≡ same (field_at l.rest l.i) (drop l.i l.word)
