-- The line of a row, read again from the text: its span and name, and its parameters. A row keeps where its name starts, or its line if it
-- has no name.
use Rattle.std.specs.Prelude.{ℕ, zero, suc, cond, List, [], eqb, get_or, drop, unwrap_or}
use Rattle.spec_text.specs.Bytes.{Bytes, Part}
use Rattle.spec_text.specs.Lines.{cut}
use Rattle.read_fields.specs.declared.Cursor.{Cursor}
use Rattle.read_line.specs.LineModel.{line_at, no_line}
use Rattle.read_line.specs.declared.Line.{Line}
use Rattle.work_rows.specs.Layout.{kind_at, offset_at}

-- the fields that a cursor has still to take
abbrev pub parts_from : Bytes → Cursor → List Part
parts_from text c = cond c.more (cut c.at (drop c.at text)).fields []

-- the parameters of a line, by its kind and what its row keeps: of 28, a lambda, after the word and the span; of a def or method, after the name
-- and the count
abbrev pub before_params : ℕ → ℕ
before_params kind = cond (eqb kind 28) 3 2

abbrev pub params_at : Bytes → ℕ → ℕ → List Part
params_at text kind at = drop (before_params kind) (cut at (drop at text)).fields

unfoldable pub params_of : Bytes → List ℕ → ℕ → List Part
params_of text w i = params_at text (kind_at w i) (offset_at w i)

-- where the line starts that an offset is on
unfoldable pub line_start : Bytes → ℕ → ℕ
line_start text zero = zero
line_start text (suc n) = cond (eqb (get_or text n 0) 10) (suc n) (line_start text n)

-- the line of row i, or what stands for it where there is none
unfoldable pub line_of_row : Bytes → List ℕ → ℕ → Line
line_of_row text w i = unwrap_or (line_at text (line_start text (offset_at w i))) no_line
