-- What holds of each text that is a tree, and of a work buffer that holds its rows: lines have the words of their places, each row's line
-- is read again where it starts, and what the buffer keeps of a row leads back to its line.
use Rattle.std.proofs.Common.{ℕ, ◌+◌, ◌/◌, ◌%◌, ◌<◌, arith, ◌≡◌, List, map, length, get_or}
use Rattle.spec_text.specs.Bytes.{Bytes}
use Rattle.spec_text.specs.Tree.{Tree}
use Rattle.spec_text.specs.Reading.{tree, reading}
use Rattle.spec_text.proofs.Theorems.{tree_lines}
use Rattle.work_rows.specs.Layout.{kind_at, number_at}
use Rattle.read_names.specs.Names.{earliest}
use Rattle.work_rows.specs.Rows.{Row, rows_t}
use Rattle.read_tree.specs.Laid.{Holds, name_in, no_row}
use Rattle.work_rows.proofs.Lengths.{rows_length}
use Rattle.read_row.specs.RowModel.{params_of}
use Rattle.read_row.specs.Worded.{Some, WordedSs}
use Rattle.read_row.proofs.Runs.{runs_again, runs_below}
use Rattle.read_row.proofs.TreeRows.{whole}
use Rattle.read_row.proofs.Kept.{kind_kept, below_kept, params_kept, line_kept, number_kept}
pub use Rattle.read_row.proofs.Runs.{Stands, Again}
pub use Rattle.read_row.proofs.Tails.{ParamWord}
pub use Rattle.read_row.proofs.Kept.{Shown}

-- row i of a tree
abbrev pub row_at : Tree → ℕ → Row
row_at t i = get_or (rows_t t) i no_row

module _ (text : Bytes) (work : ℕ) (t : Tree) (e : reading text work ≡ tree t) where
  -- ---- each line has the word of its place, and a name where that word has one
  pub tree_worded : WordedSs t.body
  tree_worded = (whole text work t e).worded

  -- ---- the line of row i is read again where it starts
  pub rows_again : (i : ℕ) → i < length (rows_t t) → Again text i (row_at t i).line
  rows_again i l = runs_again (whole text work t e).runs i l

  -- ---- the rows below a row are among those after it, and there are at most 4,096
  pub below_inside : (i : ℕ) → i < length (rows_t t) → i + (row_at t i).below < length (rows_t t)
  below_inside i l = runs_below (whole text work t e).runs i l

  below_few : (i : ℕ) → i < length (rows_t t) → (row_at t i).below < 4_096
  below_few i l = omega (arith, below_inside i l, rows_length t, tree_lines text work t e)

  -- ---- what a work buffer that holds the rows says of row i
  module _ (w : List ℕ) (h : Holds text (rows_t t) w) where
    pub kind_again : (i : ℕ) → i < length (rows_t t) → kind_at w i ≡ (row_at t i).line.word
    kind_again i l = kind_kept h i l (rows_again i l)

    pub below_again : (i : ℕ) → i < length (rows_t t) → get_or w i 0 / 32 % 4_096 ≡ (row_at t i).below
    below_again i l = below_kept h i l (rows_again i l) (below_few i l)

    -- its parameters, if its word has some
    pub params_again : (i : ℕ) → i < length (rows_t t) → ParamWord (row_at t i).line.word → params_of text w i ≡ (row_at t i).line.params
    params_again i l k = params_kept h i l (rows_again i l) k

    -- its line: word, span and name
    pub line_again : (i : ℕ) → i < length (rows_t t) → Shown text w i (row_at t i).line
    line_again i l = line_kept h i l (rows_again i l)

    -- the number of its name, if it has one: the earliest row that has it
    pub number_again : (i : ℕ) → i < length (rows_t t) → Some (row_at t i).line.name → number_at w i ≡ earliest (map name_in (rows_t t)) (row_at t i).line.name.bytes
    number_again i l some = number_kept h i l some
