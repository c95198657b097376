-- What the rows of a tree give the walk, where the work buffer holds them: kinds, lines below, numbers of names, parameters.
use Rattle.std.specs.Prelude.{ℕ, ◌≤◌, ◌<◌, ◌≡◌, List, [], ◌++◌, length, get_or, drop}
use Rattle.spec_text.specs.Bytes.{Bytes}
use Rattle.work_rows.specs.Layout.{kind_at, number_at, lines_below}
use Rattle.read_names.specs.ChainsModel.{head_at, lookup}
use Rattle.work_rows.specs.Rows.{Row}
use Rattle.read_tree.specs.Laid.{no_row}
use Rattle.read_row.specs.RowModel.{params_of}
use Rattle.read_row.specs.Worded.{Some}

-- the words that have parameters
pub data ParamWord : ℕ → Type 0 where
  def : ParamWord 5
  method : ParamWord 14
  lambda : ParamWord 28

-- `num` numbers the names: 4,096 for those that no row has
pub record Table (text : Bytes) (rows : List Row) (num : Bytes → ℕ) (w : List ℕ) : Type 0 where
  pub room : 16_384 ≤ length w
  pub few : length rows ≤ 4_096
  pub kind : (i : ℕ) → i < length rows → kind_at w i ≡ (get_or rows i no_row).line.word
  pub below : (i : ℕ) → i < length rows → lines_below w i ≡ (get_or rows i no_row).below
  pub number : (i : ℕ) → i < length rows → Some (get_or rows i no_row).line.name → number_at w i ≡ num (get_or rows i no_row).line.name.bytes
  pub params : (i : ℕ) → i < length rows → ParamWord (get_or rows i no_row).line.word → params_of text w i ≡ (get_or rows i no_row).line.params
  pub heads : (h : ℕ) → head_at w h ≤ 4_096
  pub found : (x : Bytes) → (x ≡ [] → ⊥) → lookup text w x ≡ num x
  pub apart : (x y : Bytes) → num x < 4_096 → num x ≡ num y → x ≡ y

-- a part's rows stand from row i on
pub record Here (rows : List Row) (i : ℕ) (part : List Row) : Type 0 where
  pub post : List Row
  pub same : drop i rows ≡ part ++ post
