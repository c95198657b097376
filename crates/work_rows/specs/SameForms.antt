-- What the number `same` of Layout stands for: below 4,096 an earlier row, else a link.
use Rattle.std.specs.Prelude.{ℕ, zero, suc, ◌+◌, ◌-◌, cond, Option, None, Some, ltb}
use Rattle.work_rows.specs.Layout.{rows_most}
use Rattle.work_rows.specs.declared.SameName.{SameName}
use Rattle.work_rows.specs.declared.SameName.TheVariants.{Row, Link}

-- a row and one, or 0, as a row or none
abbrev pub link_of : ℕ → Option ℕ
link_of zero = None
link_of (suc j) = Some j

-- a row and one, or 0
abbrev pub link_number : Option ℕ → ℕ
link_number None = 0
link_number (Some j) = suc j

abbrev pub same_number : SameName → ℕ
same_number (Row first) = first
same_number (Link next) = rows_most + link_number next

abbrev pub same_of : ℕ → SameName
same_of n = cond (ltb n rows_most) (Row n) (Link (link_of (n - rows_most)))
