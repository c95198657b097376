-- The steps of a cursor through a line: its word, its span, its name, its counts, its parameters, its end.
use Rattle.std.specs.Prelude.{ℕ, Bool, false, cond, ◌&&◌, ltb, length, drop, Option, Some, None, option_and_then}
use Rattle.spec_text.specs.Bytes.{Bytes, Part, all, is_name, largest_span, largest_count}
use Rattle.spec_text.specs.Lines.{Cut, cut}
use Rattle.read_fields.specs.FieldsModel.{start_at, number_from, name_from, end_from}
use Rattle.read_fields.specs.declared.Cursor.{Cursor}
use Rattle.read_fields.specs.declared.Number.{Number}
use Rattle.read_fields.specs.declared.Name.{Name}
use Rattle.read_words.specs.WordsModel.{kind_from, shape_of}
use Rattle.read_words.specs.declared.Kind.{Kind}
use Rattle.read_words.specs.declared.Shape.{Shape}
use Rattle.read_line.specs.declared.Params.{Params}
use Rattle.read_line.specs.declared.Line.{Line}

-- ---- a field that is there only if it is due
unfoldable pub number_if : Bool → ℕ → Bytes → Cursor → Option Number
number_if due largest text c = cond due (number_from largest text c) (Some (record { value = 0; next = c }))

unfoldable pub name_if : Bool → Bytes → Cursor → Option Name
name_if due text c = cond due (name_from text c) (Some (record { part = record { offset = 0; len = 0 }; hash = 0; next = c }))

-- ---- parameters: all the fields that are left are names
abbrev pub all_names : Cut → Option Params
all_names k =
    cond (k.ended && all (λ (f : Part). is_name f.bytes) k.fields)
    (Some (record { count = length k.fields; next = record { at = k.next; more = false } }))
    None

unfoldable pub params_if : Bool → Bytes → Cursor → Option Params
params_if due text c = cond (due && c.more) (all_names (cut c.at (drop c.at text))) (Some (record { count = 0; next = c }))

-- ---- the whole line
abbrev pub shaped : Shape → Kind → Bytes → Option Line
shaped s k text =
    option_and_then (λ (from : Number).
    option_and_then (λ (to : Number).
    option_and_then (λ (own : Name).
    option_and_then (λ (a : Number).
    option_and_then (λ (b : Number).
    option_and_then (λ (c : Number).
    option_and_then (λ (p : Params).
    option_and_then (λ (e : Cursor).
    Some (record {
      kind = k.kind;
      sort = s.sort;
      start = from.value;
      end = to.value;
      name = own.part;
      hash = own.hash;
      count0 = a.value;
      count1 = b.value;
      count2 = c.value;
      params = p.count;
      next = e.at;
    }))
    (end_from p.next))
    (params_if s.params text c.next))
    (number_if (ltb 2 s.counts) largest_count text b.next))
    (number_if (ltb 1 s.counts) largest_count text a.next))
    (number_if (ltb 0 s.counts) largest_count text own.next))
    (name_if s.named text to.next))
    (number_if s.spanned largest_span text from.next))
    (number_if s.spanned largest_span text k.next)

abbrev pub by_steps : Bytes → ℕ → Option Line
by_steps text at = option_and_then (λ (k : Kind). shaped (shape_of k.kind) k text) (kind_from text (start_at at))
