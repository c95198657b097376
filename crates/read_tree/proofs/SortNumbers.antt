-- The test of a line's sort, in numbers: two sorts with one number are one sort.
use Rattle.std.proofs.Common.{◌≡◌, false, eqb, ne_eqb}
use Rattle.spec_text.specs.SortsModel.{sort_number}
use Rattle.spec_text.specs.declared.sort.Sort.{Sort}
use Rattle.spec_text.proofs.Numbers.{one_sort}

pub sort_tests : (s t : Sort) → (s ≡ t → ⊥) → eqb (sort_number s) (sort_number t) ≡ false
sort_tests s t d = ne_eqb _ _ (λ e. d (one_sort e))
