-- The parameters by their bytes, as the iterator over them yields them: binding those binds the parameters.
use Rattle.std.proofs.Common.{ℕ, ◌≡◌, refl, List, [], ◌∷◌}
use Rattle.spec_text.specs.Bytes.{Bytes, Part}
use Rattle.walk_scopes.specs.ScopesModel.{Scope}
use Rattle.read_row.specs.Left.{bytes_of}
use Rattle.walk_blocks.specs.BlocksModel.{entered_one, entered}

unfoldable pub names_entered : Bytes → Scope → ℕ → List Bytes → List ℕ → List ℕ
names_entered text s i [] w = w
names_entered text s i (x ∷ xs) w = names_entered text s i xs (entered_one text s i x w)

pub all_entered : (text : Bytes) (s : Scope) (i : ℕ) (ps : List Part) (w : List ℕ) → names_entered text s i (bytes_of ps) w ≡ entered text s i ps w
unfolding names_entered entered
all_entered text s i [] w = refl
all_entered text s i (p ∷ ps) w = all_entered text s i ps (entered_one text s i p.bytes w)
