-- "The thirteen built-in names", those of the Rust's src/builtins.rs: a table of names with their lengths.
use Rattle.std.specs.Prelude.{ℕ, List, [], ◌∷◌, map}
use Prim.Native.String.{String}
use Rattle.spec_text.specs.Bytes.{Bytes, bytes, Part}

pub record Builtin : Type 0 where
  pub name : Bytes
  pub len : ℕ

abbrev builtin : String → ℕ → Builtin
builtin s n = record { name = bytes s; len = n }

abbrev pub builtins : List Builtin
builtins =
    builtin "print" 5
    ∷ builtin "input" 5
    ∷ builtin "int" 3
    ∷ builtin "bool" 4
    ∷ builtin "str" 3
    ∷ builtin "len" 3
    ∷ builtin "range" 5
    ∷ builtin "float" 5
    ∷ builtin "assert" 6
    ∷ builtin "map" 3
    ∷ builtin "filter" 6
    ∷ builtin "set" 3
    ∷ builtin "treeset" 7
    ∷ []

-- as names that stand nowhere in the text
abbrev pub builtin_names : List Part
builtin_names = map (λ (b : Builtin). record { offset = 0; bytes = b.name }) builtins
