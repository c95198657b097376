-- How numbers and fields are written: a number in decimal, fields with a tab before each, LF at the end of a line.
use Rattle.std.specs.Prelude.{ℕ, zero, suc, ◌+◌, ◌/◌, ◌%◌, true, false, List, [], ◌∷◌, ◌++◌, ltb}
use Prim.Native.String.{String}
use Rattle.spec_text.specs.Bytes.{Bytes, bytes}

-- a number in decimal: at most so many digits
abbrev pub digits : ℕ → ℕ → Bytes
digits zero n = []
digits (suc k) n = elim (ltb n 10) [ true ↦ (48 + n) ∷ [] | false ↦ digits k (n / 10) ++ ((48 + n % 10) ∷ []) ]

-- a 32-bit number has at most ten
abbrev pub decimal_of : ℕ → Bytes
decimal_of n = digits 10 n

-- fields with a tab before each, and LF
abbrev pub tabbed : List Bytes → Bytes
tabbed [] = 10 ∷ []
tabbed (f ∷ fs) = 9 ∷ (f ++ tabbed fs)

abbrev pub line_with : String → List Bytes → Bytes
line_with w fs = bytes w ++ tabbed fs
