-- The reader's answer, and what the work buffer holds when the text is a tree: its rows, where each line or its name starts, and a
-- number for each name. The layout is crate `work_rows`'.
use Rattle.std.specs.Prelude.{ℕ, zero, suc, ◌<◌, true, false, List, [], ◌∷◌, map, ◌≡◌, eqb, length, get_or, take, Result, Ok, Err}
use Rattle.spec_text.specs.Bytes.{Bytes, no_part}
use Rattle.spec_text.specs.Reading.{Reading, tree, refusal}
use Rattle.work_rows.specs.Layout.{row_of, offset_at}
use Rattle.read_names.specs.ChainsModel.{Names}
use Rattle.work_rows.specs.Rows.{Row, row, rows_t}
use Rattle.spec_text.specs.Numbers.{refusal_number}
use Rattle.spec_text.specs.declared.refusal.Refused.{Refused}
use Rattle.read_tree.specs.declared.Tree.{Tree}

-- a row's first number
abbrev pub number_of : Row → ℕ
number_of x = row_of x.line.word x.below

-- a row's own name; none: no bytes
abbrev pub name_in : Row → Bytes
name_in x = x.line.name.bytes

-- the offset after n line ends, from an offset on
abbrev pub skip : ℕ → ℕ → Bytes → ℕ
skip zero o bs = o
skip (suc n) o [] = o
skip (suc n) o (b ∷ bs) = elim (eqb b 10) [ true ↦ skip n (suc o) bs | false ↦ skip (suc n) (suc o) bs ]

-- where row i's line starts: it is line i + 2
abbrev pub start_of : Bytes → ℕ → ℕ
start_of text i = skip (suc i) 0 text

-- where its name starts, or the line if it has none
abbrev pub offset_of : Bytes → ℕ → Row → ℕ
offset_of text i x = elim (name_in x) [ [] ↦ start_of text i | b ∷ bs ↦ x.line.name.offset ]

abbrev pub no_row : Row
no_row = row (record { word = 0; start = 0; end = 0; name = no_part; params = [] }) 0

-- the work buffer holds these rows of the text
pub record Holds (text : Bytes) (rows : List Row) (w : List ℕ) : Type 0 where
  pub numbers : take (length rows) w ≡ map number_of rows
  pub offsets : (i : ℕ) → i < length rows → offset_at w i ≡ offset_of text i (get_or rows i no_row)
  pub names : Names text (map name_in rows) w

-- ---- the answer
-- what an answer says in the documents' numbers: a refusal is a number and a line
abbrev pub in_numbers : {A : Type 0} → Result A Refused → Result A (ℕ × ℕ)
in_numbers (Ok a) = Ok a
in_numbers (Err e) = Err (refusal_number e.why, e.line)

abbrev pub answer_of : Reading → Result Tree (ℕ × ℕ)
answer_of (tree t) = Ok (record { globals = length t.globals; lines = length (rows_t t) })
answer_of (refusal k n) = Err (k, n)

-- of a text that is refused, the work buffer is unspecified
abbrev pub Kept : Bytes → Reading → List ℕ → Type 0
Kept text (tree t) w = Holds text (rows_t t) w
Kept text (refusal k n) w = Unit

pub record Answers (text : Bytes) (x : Reading) (w : List ℕ) (r : Result Tree Refused) : Type 0 where
  pub answer : in_numbers r ≡ answer_of x
  pub kept : Kept text x w
