-- A line of the tree text as numbers: what the reader keeps of it. By the fields and the table of words of crate `spec_text`.
use Rattle.std.specs.Prelude.{ℕ, true, false, length, drop, Option, Some, None}
use Rattle.std.proofs.Math.Option.{none, some}
use Rattle.spec_text.specs.Bytes.{Bytes}
use Rattle.spec_text.specs.Lines.{Cut, cut, Parsed, parse, count_at}
use Rattle.spec_text.specs.declared.sort.Sort.TheVariants.{Tree}
use Rattle.read_fields.specs.FieldsModel.{hash_of}
use Rattle.read_words.specs.WordsModel.{sort_in}
use Rattle.read_line.specs.declared.Line.{Line}

-- what stands for a line where there is none
abbrev pub no_line : Line
no_line = record { kind = 0; sort = Tree; start = 0; end = 0; name = record { offset = 0; len = 0 }; hash = 0; count0 = 0; count1 = 0; count2 = 0; params = 0; next = 0 }

-- a line that is well formed, and the offset of the line after it
abbrev pub numbers_of : Parsed → ℕ → Line
numbers_of p next = record {
  kind = p.line.word;
  sort = sort_in p.form;
  start = p.line.start;
  end = p.line.end;
  name = record { offset = p.line.name.offset; len = length p.line.name.bytes };
  hash = hash_of p.line.name.bytes;
  count0 = count_at 0 p;
  count1 = count_at 1 p;
  count2 = count_at 2 p;
  params = length p.line.params;
  next = next;
}

-- none: it is refused
abbrev pub cut_line : Cut → Option Line
cut_line c = elim c.ended [ true ↦ elim (parse c.fields) [ some p ↦ Some (numbers_of p c.next) | none ↦ None ] | false ↦ None ]

-- the line that starts at an offset
unfoldable pub line_at : Bytes → ℕ → Option Line
line_at text at = cut_line (cut at (drop at text))
