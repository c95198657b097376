-- The eight texts as a table of bytes: a line for each kind, with the words before the name, those after it, and those after the name of the
-- class; a tab ends the first and the second, LF the third.
use Rattle.std.specs.Prelude.{ℕ, zero, suc, ◌+◌, ◌≤◌, ◌≡◌, List, [], ◌∷◌, length}
use Rattle.spec_text.specs.Bytes.{Bytes}
use Rattle.spec_faults.specs.Faults.{Words, eight_texts}
use Rattle.read_fields.specs.FieldsModel.{field_at, end_of}

-- where the field after the one at an offset starts
abbrev pub past_field : Bytes → ℕ → ℕ
past_field texts at = end_of texts at + 1

abbrev pub next_words : Bytes → ℕ → ℕ
next_words texts at = past_field texts (past_field texts (past_field texts at))

-- where the n-th line after the one at an offset starts
unfoldable pub words_start : ℕ → Bytes → ℕ → ℕ
words_start zero texts at = at
words_start (suc n) texts at = words_start n texts (next_words texts at)

-- the words of kind k, from the line at an offset
abbrev pub words_at : ℕ → Bytes → ℕ → Words
words_at k texts at =
    record {
      kind = k;
      before = field_at texts at;
      between = field_at texts (past_field texts at);
      after = field_at texts (past_field texts (past_field texts at));
    }

-- the words of n kinds, from kind k on
abbrev pub table_from : ℕ → ℕ → Bytes → ℕ → List Words
table_from zero k texts at = []
table_from (suc n) k texts at = words_at k texts at ∷ table_from n (suc k) texts (next_words texts at)

-- the table is that of the eight texts
pub record Rule (texts : Bytes) : Type 0 where
  pub short : length texts ≤ 4_096
  pub table : table_from 8 8 texts 0 ≡ eight_texts
