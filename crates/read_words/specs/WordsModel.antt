-- The words of the table, as a cursor meets one: its place in the table, and the shape of its line.
use Rattle.std.specs.Prelude.{ℕ, suc, Bool, true, false, cond, List, [], ◌∷◌, ltb, length, get_or, Option, Some, None}
use Rattle.spec_text.specs.Bytes.{Bytes, same}
use Rattle.spec_text.specs.Lines.{Word, words, Form}
use Rattle.spec_text.specs.declared.sort.Sort.{Sort}
use Rattle.spec_text.specs.declared.sort.Sort.TheVariants as Sorts
use Rattle.read_fields.specs.FieldsModel.{field_at, past, takes}
use Rattle.read_fields.specs.declared.Cursor.{Cursor}
use Rattle.read_words.specs.declared.Kind.{Kind}
use Rattle.read_words.specs.declared.Shape.{Shape}

-- ---- the word
-- the place of a word in the table, from its n-th row on; past the end where it is not there
abbrev pub place : ℕ → List Word → Bytes → ℕ
place n [] x = n
place n (w ∷ ws) x = elim (same x w.spelling) [ true ↦ n | false ↦ place (suc n) ws x ]

abbrev pub is_word : Bytes → Bool
is_word x = ltb (place 0 words x) (length words)

unfoldable pub kind_from : Bytes → Cursor → Option Kind
kind_from text c = cond (takes is_word text c) (Some (record { kind = place 0 words (field_at text c.at); next = past text c.at })) None

-- ---- the shape of its line, by the table
abbrev pub no_word : Word
no_word = record { spelling = []; spanned = false; named = false; counts = 0; params = false; form = Form.tree }

-- the sort of a form: `sort_of`, as an enum
abbrev pub sort_in : Form → Sort
sort_in Form.tree = Sorts.Tree
sort_in Form.global = Sorts.Global
sort_in Form.elif = Sorts.Elif
sort_in Form.method = Sorts.Method
sort_in Form.attr = Sorts.Attr
sort_in (Form.stmt f) = Sorts.Stmt
sort_in (Form.expr f) = Sorts.Expr

abbrev pub of_word : Word → Shape
of_word w = record { spanned = w.spanned; named = w.named; counts = w.counts; params = w.params; sort = sort_in w.form }

unfoldable pub shape_of : ℕ → Shape
shape_of k = of_word (get_or words k no_word)
