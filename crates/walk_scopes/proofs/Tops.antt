-- The scope of a row, and the one below another, by the tests for the module.
use Rattle.std.proofs.Common.{ℕ, ◌-◌, ◌≤◌, ◌<◌, ◌≡◌, ap, cond, List, le-leb}
use Rattle.std.proofs.lemmas.Bool.{lt-leb}
use Rattle.work_rows.specs.Layout.{rows_most}
use Rattle.work_marks.specs.MarksModel.{link_at}
use Rattle.walk_scopes.specs.declared.ScopeStack.{ScopeStack}
use Rattle.walk_scopes.specs.ScopesModel.{at_module, in_block, scope_at, below}

module _ (w : List ℕ) (row : ℕ) where
  pub scope_module : rows_most ≤ row → scope_at w row ≡ at_module (row - rows_most)
  unfolding scope_at
  scope_module l = ap (λ t. cond t (at_module (row - rows_most)) (in_block w row)) (le-leb rows_most row l)

  pub scope_block : row < rows_most → scope_at w row ≡ in_block w row
  unfolding scope_at
  scope_block l = ap (λ t. cond t (at_module (row - rows_most)) (in_block w row)) (lt-leb rows_most row l)

module _ (w : List ℕ) (s : ScopeStack) where
  pub below_block : s.row < rows_most → below w s ≡ scope_at w (link_at w s.row)
  unfolding below
  below_block l = ap (λ t. cond t s (scope_at w (link_at w s.row))) (lt-leb rows_most s.row l)
