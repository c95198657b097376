-- How names are found: each new name is linked to the one before it that has the same hash, from a head for each hash.
use Rattle.std.specs.Prelude.{ℕ, zero, suc, ◌+◌, ◌-◌, ◌%◌, ◌≤◌, ◌<◌, true, false, cond, Option, None, Some, List, [], ◌≡◌, leb, ltb, length, get_or}
use Rattle.spec_text.specs.Bytes.{Bytes, same, part_of}
use Rattle.read_fields.specs.FieldsModel.{field_at, hash_of}
use Rattle.work_rows.specs.Layout.{put, rows_most, name_base, head_base, name_of, offset_at, same_at}
use Rattle.read_names.specs.Names.{Numbered}

-- ---- the chain of a hash: a head, and links that fall; 0, or a row and one
abbrev pub head_at : List ℕ → ℕ → ℕ
head_at w h = get_or w (head_base + h % 4_096) 0 % 8_192

abbrev pub link_at : List ℕ → ℕ → ℕ
link_at w j = cond (leb (same_at w j - rows_most) j) (same_at w j - rows_most) 0

-- the first row of the chain at c that has the name x, in so many steps at most. A buffer that holds no names may have rows from 4,096 on
-- in a chain: they are found like others.
unfoldable pub follow : ℕ → Bytes → List ℕ → ℕ → Bytes → Option ℕ
follow zero text w c x = None
follow (suc n) text w zero x = None
follow (suc n) text w (suc j) x = cond (same (field_at text (offset_at w j)) x) (Some j) (follow n text w (link_at w j) x)

-- the row found for the name x of the hash h
abbrev pub found : Bytes → List ℕ → ℕ → Bytes → Option ℕ
found text w h x = follow (head_at w h) text w (head_at w h) x

abbrev pub row_found : Bytes → List ℕ → Bytes → Option ℕ
row_found text w x = found text w (hash_of x) x

-- the number of a row that is found, or of none
abbrev pub row_number : Option ℕ → ℕ
row_number None = rows_most
row_number (Some j) = j

abbrev pub lookup : Bytes → List ℕ → Bytes → ℕ
lookup text w x = row_number (row_found text w x)

-- ---- what is written: a row's second number, and its head if the name is new
abbrev pub placed : List ℕ → ℕ → ℕ → List ℕ
placed w i at = put w (name_base + i) at

abbrev pub name_entered : List ℕ → ℕ → ℕ → ℕ → ℕ → List ℕ
name_entered w i at h r =
    elim (ltb r rows_most) [
      | true ↦ put w (name_base + i) (name_of at r)
      | false ↦ put (put w (name_base + i) (name_of at (rows_most + head_at w h))) (head_base + h % 4_096) (i + 1)
    ]

-- row i has the name that starts at an offset and has a length and a hash
unfoldable pub added : Bytes → List ℕ → ℕ → ℕ → ℕ → ℕ → List ℕ
added text w i at len h = name_entered w i at h (row_number (found text w h (part_of text at len)))

-- no name yet
unfoldable pub cleared_from : ℕ → ℕ → List ℕ → List ℕ
cleared_from zero i w = w
cleared_from (suc n) i w = cleared_from n (i + 1) (put w i 0)

abbrev pub cleared : List ℕ → List ℕ
cleared w = cleared_from 4_096 head_base w

-- ---- the state of the names of the first rows: what each link and each head stands for
-- row k has a name that no earlier row has
abbrev pub New : List Bytes → ℕ → Type 0
New names k = (get_or names k [] ≡ [] → ⊥) × ((j : ℕ) → j < k → get_or names j [] ≡ get_or names k [] → ⊥)

-- a chain of hash h over the rows below n goes on at c: no new name of that hash is from c on, and row c - 1 is one
pub record Link (names : List Bytes) (h n c : ℕ) : Type 0 where
  pub low : c ≤ n
  pub skip : (k : ℕ) → k < n → c ≤ k → New names k → hash_of (get_or names k []) ≡ h → ⊥
  pub top : 0 < c → New names (c - 1) × (hash_of (get_or names (c - 1) []) ≡ h)

pub record Names (text : Bytes) (names : List Bytes) (w : List ℕ) : Type 0 where
  pub room : 16_384 ≤ length w
  pub few : length names ≤ rows_most
  pub numbers : Numbered names w
  pub offsets : (k : ℕ) → k < length names → (get_or names k [] ≡ [] → ⊥) → field_at text (offset_at w k) ≡ get_or names k []
  pub heads : (h : ℕ) → h < 4_096 → Link names h (length names) (head_at w h)
  pub links : (j : ℕ) → j < length names → New names j → Link names (hash_of (get_or names j [])) j (link_at w j)
