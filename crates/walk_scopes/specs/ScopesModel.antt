-- The stack of scopes has push, pop, define and is_defined: which marks it sets and asks for, and which scope is below another. A scope is known
-- by its row; in the work buffer the row of a def or a method links to the row of the scope around. And where an expression stands.
use Rattle.std.specs.Prelude.{ℕ, ◌+◌, ◌-◌, Bool, cond, ◌&&◌, List, eqb, leb, ltb, Option, None, Some}
use Rattle.work_rows.specs.Layout.{rows_most, kind_at, after_row}
use Rattle.work_marks.specs.MarksModel.{block_end, link_at, raised_block, raised_lambda}
use Rattle.walk_scopes.specs.declared.Home.{Home}
use Rattle.walk_scopes.specs.declared.Home.TheVariants.{Module, Def, Method}
use Rattle.walk_scopes.specs.declared.ScopeStack.{ScopeStack}
use Rattle.walk_scopes.specs.declared.place.Lambdas.{Lambdas}
use Rattle.walk_scopes.specs.declared.place.Scope.{Scope as Here}

-- homes: the module, a def, a method
abbrev pub module' : ℕ
module' = 0

abbrev pub a_def : ℕ
a_def = 1

abbrev pub a_method : ℕ
a_method = 2

abbrev pub home_number : Home → ℕ
home_number Module = module'
home_number Def = a_def
home_number Method = a_method

abbrev pub home_by_number : ℕ → Home
home_by_number n = cond (eqb n a_def) Def (cond (eqb n a_method) Method Module)

-- ---- the stack: its top
-- the module, with so many rows
abbrev pub at_module : ℕ → ScopeStack
at_module rows = record { home = Module; row = rows_most + rows; end = rows }

-- the def (5) or the method at a row
abbrev pub in_block : List ℕ → ℕ → ScopeStack
in_block w row = record { home = cond (eqb (kind_at w row) 5) Def Method; row = row; end = after_row w row }

-- the scope of a row, or the module
unfoldable pub scope_at : List ℕ → ℕ → ScopeStack
scope_at w row = cond (leb rows_most row) (at_module (row - rows_most)) (in_block w row)

-- the scope that the row of the top one links to; the module stays
unfoldable pub below : List ℕ → ScopeStack → ScopeStack
below w s = cond (leb rows_most s.row) s (scope_at w (link_at w s.row))

-- a name is bound in a block around row i
abbrev pub is_defined : List ℕ → ℕ → ℕ → Bool
is_defined w a i = ltb i (block_end w a)

-- ---- where an expression stands, in numbers: the scope on top, and the rows after the outermost and the innermost lambda in it, or 0
pub record Scope : Type 0 where
  pub home : ℕ
  pub row : ℕ
  pub end : ℕ
  pub outer : ℕ
  pub inner : ℕ

-- where a statement stands
abbrev pub top_of : ScopeStack → Scope
top_of s = record { home = home_number s.home; row = s.row; end = s.end; outer = 0; inner = 0 }

-- in a lambda up to the row end: the outermost is kept
abbrev pub in_lambda : Scope → ℕ → Scope
in_lambda s end = record { home = s.home; row = s.row; end = s.end; outer = cond (eqb s.outer 0) end s.outer; inner = end }

abbrev pub outer_of : Option Lambdas → ℕ
outer_of None = 0
outer_of (Some l) = l.outer

abbrev pub inner_of : Option Lambdas → ℕ
inner_of None = 0
inner_of (Some l) = l.inner

abbrev pub scope_of : Here → Scope
scope_of s = record { home = home_number s.top.home; row = s.top.row; end = s.top.end; outer = outer_of s.lambdas; inner = inner_of s.lambdas }

-- and without its lambdas
abbrev pub stack_of : Scope → ScopeStack
stack_of s = record { home = home_by_number s.home; row = s.row; end = s.end }

-- a def's own names are noted: not a lambda's in it
abbrev pub owns : Scope → Bool
owns s = eqb s.home a_def && eqb s.inner 0

-- a name is bound there
unfoldable pub defined : Scope → List ℕ → ℕ → List ℕ
defined s w a = cond (eqb s.inner 0) (raised_block w a s.end) (raised_lambda w a s.inner)
