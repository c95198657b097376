-- What is proved of the names' numbers. `Names text names w` says that the buffer w holds the first rows' names, in the order read: it
-- holds for no row after `cleared`, and for one row more after `added` and `placed`; and then two rows have one number exactly when they
-- have one name, and what is looked up is the earliest row that has the name. Of the writes it is also said what they leave as it was.
use Rattle.std.proofs.Common.{ℕ, ◌≤◌, ◌<◌, arith, ◌≡◌, refl, List, [], ◌∷◌, ◌++◌, ◌↔◌, ⊎_elim, length, get_or, set, length-set, get_or-set_other, MatchOption}
use Rattle.spec_text.specs.Bytes.{Bytes, part_of}
use Rattle.read_fields.specs.FieldsModel.{field_at, hash_of}
use Rattle.work_rows.specs.Layout.{rows_most, number_at}
use Rattle.read_names.specs.Names.{earliest, Numbered}
use Rattle.read_names.specs.ChainsModel.{row_found, lookup, placed, added, cleared, Names}
use Rattle.read_names.proofs.Earliest.{number_name, name_number}
use Rattle.read_names.proofs.Links.{found_row, found_earliest}
use Rattle.read_names.proofs.Adds.{names_empty, names_none, names_added, names_kept}
pub use Rattle.read_names.proofs.Writes.{Outside, placed_length, placed_offset, placed_rows, placed_outside}
pub use Rattle.read_names.proofs.Writes.{added_length, added_offset, added_rows, added_outside, cleared_length, cleared_other}

pub same_number : {names : List Bytes} {w : List ℕ} → Numbered names w → (i j : ℕ) → i < length names → j < length names
    → (get_or names i [] ≡ [] → ⊥) → (get_or names j [] ≡ [] → ⊥) → (number_at w i ≡ number_at w j) ↔ (get_or names i [] ≡ get_or names j [])
same_number s i j il jl ie je = (λ e. name_number s i j il jl ie je e, λ e. number_name s i j il jl ie je e)

pub cleared_names : (text : Bytes) (w : List ℕ) → 16_384 ≤ length w → Names text [] (cleared w)
cleared_names text w room = names_empty text w room

module _ {text : Bytes} {names : List Bytes} {w : List ℕ} (s : Names text names w) where
  -- of the row that is found, and of its number: none where no row has the name, else the earliest
  pub found_in_names : (x : Bytes) → (x ≡ [] → ⊥)
      → MatchOption (row_found text w x) (earliest names x ≡ rows_most) (λ j. (earliest names x ≡ j) × (j < rows_most))
  found_in_names x some = found_row s x some

  pub lookup_earliest : (x : Bytes) → (x ≡ [] → ⊥) → lookup text w x ≡ earliest names x
  lookup_earliest x some = found_earliest s x some

  pub added_names : (at len : ℕ) (x : Bytes) → length names < rows_most → (x ≡ [] → ⊥) → part_of text at len ≡ x → field_at text at ≡ x → at < 65_536
      → Names text (names ++ (x ∷ [])) (added text w (length names) at len (hash_of x))
  added_names at len x few some p e l = names_added s few x at l e len some p

  pub placed_names : (at : ℕ) → length names < rows_most → at < 65_536 → Names text (names ++ ([] ∷ [])) (placed w (length names) at)
  placed_names at few l = names_none s few [] at l refl

  pub other_names : (i v : ℕ) → Outside i → Names text names (set w i v)
  other_names i v o = names_kept s (length-set w i v) (λ k a b. get_or-set_other w i k v 0 (λ e. ⊎_elim (λ l. omega arith) (λ l. omega arith) o))
