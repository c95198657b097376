-- The message of a record: the Rust's words round the bytes of the text that the record shows.
use Rattle.std.specs.Prelude.{◌++◌}
use Rattle.spec_text.specs.Bytes.{Bytes, part_of}
use Rattle.spec_faults.specs.Faults.{message}
use Rattle.report_records.specs.declared.RecordNumbers.{RecordNumbers}
use Rattle.report_messages.specs.declared.Message.{Message}

-- the message of a record, by its numbers
abbrev pub record_message : Bytes → RecordNumbers → Bytes
record_message text r = message r.kind (part_of text r.name.offset r.name.len) (part_of text r.class.offset r.class.len)

-- the parts of a message, one after the other
abbrev pub whole : Message → Bytes
whole m = m.before.now ++ (m.name.now ++ (m.between.now ++ (m.class.now ++ m.after.now)))
