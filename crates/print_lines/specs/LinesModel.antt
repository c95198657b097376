-- The lines that `namecheck` prints, from the numbers of the report.
use Rattle.std.specs.Prelude.{ℕ, zero, suc, ◌+◌, ◌*◌, List, [], ◌∷◌, ◌++◌, get_or}
use Rattle.spec_text.specs.Bytes.{Bytes}
use Rattle.spec_text.specs.Writing.{decimal_of, line_with}
use Rattle.report_records.specs.declared.RecordNumbers.{RecordNumbers}
use Rattle.report_messages.specs.MessagesModel.{record_message}

-- the record at an index of the report
abbrev pub record_in : List ℕ → ℕ → RecordNumbers
record_in ns at =
    record {
      kind = get_or ns at 0;
      start = get_or ns (at + 1) 0;
      end = get_or ns (at + 2) 0;
      name = record { offset = get_or ns (at + 3) 0; len = get_or ns (at + 4) 0 };
      class = record { offset = get_or ns (at + 5) 0; len = get_or ns (at + 6) 0 };
    }

abbrev pub record_line : Bytes → RecordNumbers → Bytes
record_line text r = line_with "fault" (decimal_of r.kind ∷ decimal_of r.start ∷ decimal_of r.end ∷ record_message text r ∷ [])

-- the lines of n records from the j-th on
abbrev pub record_lines : Bytes → List ℕ → ℕ → ℕ → Bytes
record_lines text ns j zero = []
record_lines text ns j (suc n) = record_line text (record_in ns (7 * j)) ++ record_lines text ns (j + 1) n
