-- A name bound where a statement or an expression stands: which mark is raised, by the test for a lambda.
use Rattle.std.proofs.Common.{ℕ, ◌≡◌, ap, cond, List, eq-eqb}
use Rattle.work_marks.specs.MarksModel.{raised_block, raised_lambda}
use Rattle.walk_scopes.specs.ScopesModel.{Scope, defined}

module _ (s : Scope) (w : List ℕ) (a : ℕ) where
  pub defined_block : s.inner ≡ 0 → defined s w a ≡ raised_block w a s.end
  unfolding defined
  defined_block e = ap (λ t. cond t (raised_block w a s.end) (raised_lambda w a s.inner)) (eq-eqb s.inner 0 e)
