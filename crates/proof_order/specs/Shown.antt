-- An entry shows a fault: its kind, by one row its span, by the other its name.
use Rattle.std.specs.Prelude.{ℕ, ◌/◌, ◌%◌, ◌<◌, ◌≡◌, List, [], ◌∷◌, length, get_or}
use Rattle.spec_text.specs.Bytes.{no_part}
use Rattle.spec_text.specs.Tree.{Line}
use Rattle.spec_faults.specs.Faults.{Fault}
use Rattle.work_rows.specs.Rows.{Row}
use Rattle.read_tree.specs.Laid.{no_row}

abbrev pub line_in : List Row → ℕ → Line
line_in rows i = (get_or rows i no_row).line

abbrev pub of_entry : ℕ → ℕ
of_entry e = e / 8_192 % 8_192

abbrev pub row_entry : ℕ → ℕ
row_entry e = e % 8_192

pub record Shows (rows : List Row) (e : ℕ) (f : Fault) : Type 0 where
  pub small : e < 4_294_967_296
  pub kind : e / 67_108_864 ≡ f.kind
  pub of : of_entry e < length rows
  pub row : row_entry e < length rows
  pub start : (line_in rows (of_entry e)).start ≡ f.start
  pub end : (line_in rows (of_entry e)).end ≡ f.end
  pub name : (f.kind ≡ 14 → ⊥) → (line_in rows (row_entry e)).name ≡ f.name
  pub no_name : f.kind ≡ 14 → f.name ≡ no_part
  pub class : f.kind ≡ 15 → (line_in rows (of_entry e)).name ≡ f.in_class
  pub no_class : (f.kind ≡ 15 → ⊥) → f.in_class ≡ no_part

-- one for one
pub data Pairs {A B : Type 0} (R : A → B → Type 0) : List A → List B → Type 0 where
  none : Pairs R [] []
  pair : {a : A} {b : B} {as' : List A} {bs : List B} → R a b → Pairs R as' bs → Pairs R (a ∷ as') (b ∷ bs)
