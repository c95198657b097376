-- The class of bytes that end a field.
use Rattle.std.specs.Prelude.{ℕ, Bool, ◌||◌, eqb}

-- a tab or a line feed
abbrev pub is_end : ℕ → Bool
is_end b = eqb b 9 || eqb b 10
