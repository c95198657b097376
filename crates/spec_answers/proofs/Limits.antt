-- The longest texts, as a table like that of refusals in the crate `spec_text`: 65,536 bytes, 4,096 lines after the first. By computation.
use Rattle.std.proofs.Common.{ℕ, refl, List, [], ◌∷◌, ◌++◌, replicate}
use Rattle.spec_text.specs.Bytes.{Bytes, bytes}
use Rattle.spec_text.proofs.Examples.{read, refused, Example, example, times, Hold}

abbrev passes : ℕ → Bytes
passes n = times n (bytes "pass\t0\t1\n")

abbrev pub limits : List Example
limits =
    -- 1: 65,537 bytes, also with too short a work buffer; 65,536 are read
    example (replicate 65_537 97) (refused 1 0)
    ∷ record { text = replicate 65_537 97; work = 0; is = refused 1 0 }
    ∷ example (replicate 65_536 97) (refused 5 1)
    -- 7: 4,096 lines after the first are read, and one more is not; on it too 3, 5 and 6 come first
    ∷ example (bytes "tree\t0\t4096\n" ++ passes 4_096) read
    ∷ example (bytes "tree\t1\t4096\nglobal\ta\n" ++ passes 4_096) (refused 7 4_098)
    ∷ example (bytes "tree\t1\t4096\nglobal\ta\n" ++ passes 4_095) (refused 3 4_098)
    ∷ example (bytes "tree\t1\t4096\nglobal\ta\n" ++ (passes 4_095 ++ bytes "pass\t0\n")) (refused 5 4_098)
    ∷ example (bytes "tree\t1\t4096\nglobal\ta\n" ++ (passes 4_095 ++ bytes "lit\t0\t1\n")) (refused 6 4_098)
    ∷ []

pub limits_hold : Hold limits
limits_hold = refl
