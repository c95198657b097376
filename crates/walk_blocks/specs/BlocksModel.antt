-- What the way into a block does to the work buffer: its parameters are bound, and in a def each `var` is flagged.
use Rattle.std.specs.Prelude.{ℕ, ◌+◌, cond, List, [], ◌∷◌}
use Rattle.spec_text.specs.Bytes.{Bytes, Part}
use Rattle.read_names.specs.ChainsModel.{lookup}
use Rattle.walk_scopes.specs.ScopesModel.{Scope, owns, defined}
use Rattle.walk_own_names.specs.OwnNamesModel.{noted, flagged}
use Rattle.read_row.specs.RowModel.{params_of}

-- a parameter of row i
unfoldable pub entered_one : Bytes → Scope → ℕ → Bytes → List ℕ → List ℕ
entered_one text s i x w =
    cond (owns s) (noted i (lookup text w x) (i + 1) (defined s w (lookup text w x))) (defined s w (lookup text w x))

unfoldable pub entered : Bytes → Scope → ℕ → List Part → List ℕ → List ℕ
entered text s i [] w = w
entered text s i (p ∷ ps) w = entered text s i ps (entered_one text s i p.bytes w)

-- the block of row i, up to the row stop
unfoldable pub opened : Bytes → Scope → ℕ → ℕ → List ℕ → List ℕ
opened text s i stop w =
    cond (owns s) (flagged i (i + 1) stop (entered text s i (params_of text w i) w)) (entered text s i (params_of text w i) w)
