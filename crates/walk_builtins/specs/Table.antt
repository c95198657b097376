-- "The thirteen built-in names": the number of a name, and the rule of the tables that hold the names.
use Rattle.std.specs.Prelude.{ℕ, suc, ◌+◌, ◌≡◌, true, false, List, [], ◌∷◌, map, length, take, drop}
use Rattle.spec_text.specs.Bytes.{Bytes, same}
use Rattle.spec_faults.specs.Builtins.{Builtin, builtins}

-- the place of the first name with the bytes x, from 0; the number of names where there is none
abbrev pub place_among : Bytes → List Bytes → ℕ
place_among x [] = 0
place_among x (y ∷ ys) = elim (same x y) [ true ↦ 0 | false ↦ suc (place_among x ys) ]

abbrev pub names : List Bytes
names = map (λ (b : Builtin). b.name) builtins

-- the number of a name, in the table's order from 0; 13 where it is not built in
abbrev pub number_of : Bytes → ℕ
number_of x = place_among x names

-- names that stand one after the other, cut apart by their lengths
abbrev pub cut_by : List ℕ → Bytes → List Bytes
cut_by [] bs = []
cut_by (n ∷ ns) bs = take n bs ∷ cut_by ns (drop n bs)

abbrev pub total : List ℕ → ℕ
total [] = 0
total (n ∷ ns) = n + total ns

-- a table of names with their lengths: the lengths cut the bytes into the names, and no byte is left over; they are the table's, and each is
-- its name's
pub record Rule (lengths bytes : List ℕ) : Type 0 where
  pub cut : cut_by lengths bytes ≡ names
  pub whole : total lengths ≡ length bytes
  pub lens : lengths ≡ map (λ (b : Builtin). b.len) builtins
  pub own : lengths ≡ map (length {A = ℕ}) names
