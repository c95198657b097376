-- What the walk begins with: no mark, no slot and no stamp; then the given names are bound in the module.
use Rattle.std.specs.Prelude.{ℕ, zero, suc, ◌+◌, List, [], ◌∷◌}
use Rattle.spec_text.specs.Bytes.{Bytes}
use Rattle.walk_builtins.specs.Table.{names}
use Rattle.work_rows.specs.Layout.{number_at}
use Rattle.read_names.specs.ChainsModel.{lookup}
use Rattle.work_marks.specs.MarksModel.{unmarked, unstamped}
use Rattle.walk_scopes.specs.ScopesModel.{Scope, defined}

-- the given names: built in, and those of n `global` lines from row i on
unfoldable pub given : Bytes → Scope → List Bytes → List ℕ → List ℕ
given text s [] w = w
given text s (x ∷ xs) w = given text s xs (defined s w (lookup text w x))

unfoldable pub globals_from : ℕ → ℕ → Scope → List ℕ → List ℕ
globals_from zero i s w = w
globals_from (suc n) i s w = globals_from n (i + 1) s (defined s w (number_at w i))

-- before the first statement: of so many rows, of which so many are `global` lines
unfoldable pub begun : Bytes → Scope → ℕ → ℕ → List ℕ → List ℕ
begun text s globals rows w = globals_from globals 0 s (given text s names (unstamped rows (unmarked rows w)))
