-- A number for each name: the earliest row that has it. Names are given by row; a row with no name of its own has the empty one.
use Rattle.std.specs.Prelude.{ℕ, suc, ◌<◌, true, false, List, [], ◌∷◌, ◌≡◌, length, get_or}
use Rattle.spec_text.specs.Bytes.{Bytes, same}
use Rattle.work_rows.specs.Layout.{rows_most, number_at}

-- the earliest row that has the name x, from row i on; 4,096 where there is none
abbrev pub earliest_from : ℕ → List Bytes → Bytes → ℕ
earliest_from i [] x = rows_most
earliest_from i (y ∷ names) x = elim (same y x) [ true ↦ i | false ↦ earliest_from (suc i) names x ]

abbrev pub earliest : List Bytes → Bytes → ℕ
earliest names x = earliest_from 0 names x

-- each row that has a name has the number of the earliest row with that name
pub record Numbered (names : List Bytes) (w : List ℕ) : Type 0 where
  pub number : (i : ℕ) → i < length names → (get_or names i [] ≡ [] → ⊥) → number_at w i ≡ earliest names (get_or names i [])
