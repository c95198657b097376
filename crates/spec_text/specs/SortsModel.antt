-- The numbers of the sorts of lines, as `sort_of` in Lines has them.
use Rattle.std.specs.Prelude.{ℕ}
use Rattle.spec_text.specs.declared.sort.Sort.{Sort}
use Rattle.spec_text.specs.declared.sort.Sort.TheVariants as S

abbrev pub sort_number : Sort → ℕ
sort_number S.Tree = 0
sort_number S.Global = 1
sort_number S.Elif = 2
sort_number S.Method = 3
sort_number S.Attr = 4
sort_number S.Stmt = 5
sort_number S.Expr = 6
