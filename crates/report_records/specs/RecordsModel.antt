-- The record of a listed fault, from the lines of its two rows: the one whose span it shows, and the one whose name.
use Rattle.std.specs.Prelude.{ℕ, ◌%◌, cond, List, [], ◌∷◌, map, eqb}
use Rattle.spec_text.specs.Bytes.{Bytes}
use Rattle.spec_faults.specs.Kinds.{kind_number}
use Rattle.spec_faults.specs.KindsModel.{kind_by_number}
use Rattle.read_bytes.specs.declared.name_part.NamePart.{NamePart}
use Rattle.read_row.specs.RowModel.{line_of_row}
use Rattle.read_line.specs.declared.Line.{Line}
use Rattle.report_order.specs.declared.Entry.{Entry}
use Rattle.report_records.specs.declared.Record.{Record}
use Rattle.report_records.specs.declared.RecordNumbers.{RecordNumbers}

-- "an absent one is 0, 0"
abbrev pub absent : NamePart
absent = record { offset = 0; len = 0 }

-- kind 14 has no name, and only kind 15 has a class
abbrev pub of_lines : ℕ → Line → Line → RecordNumbers
of_lines kind of row =
    record {
      kind = kind;
      start = of.start;
      end = of.end;
      name = cond (eqb kind 14) absent row.name;
      class = cond (eqb kind 15) of.name absent;
    }

unfoldable pub record_of : Bytes → List ℕ → Entry → RecordNumbers
record_of text w e = of_lines e.kind (line_of_row text w e.of) (line_of_row text w e.row)

-- the numbers of a record, and the record that has such numbers
abbrev pub numbers_of : Record → RecordNumbers
numbers_of r = record { kind = kind_number r.kind; start = r.start; end = r.end; name = r.name; class = r.class }

abbrev pub record_by : RecordNumbers → Record
record_by r = record { kind = kind_by_number r.kind; start = r.start; end = r.end; name = r.name; class = r.class }

-- the seven, one after the other
abbrev pub numbers : RecordNumbers → List ℕ
numbers r = r.kind ∷ r.start ∷ r.end ∷ r.name.offset ∷ r.name.len ∷ r.class.offset ∷ r.class.len ∷ []

-- as they are written: 32 bits each
abbrev pub cut32 : List ℕ → List ℕ
cut32 ns = map (λ n. n % 4_294_967_296) ns

abbrev pub numbers32 : RecordNumbers → List ℕ
numbers32 r = cut32 (numbers r)
