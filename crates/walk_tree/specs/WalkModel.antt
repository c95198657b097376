-- What the walk does to the work buffer, in the code's own steps: names are marked where they are bound, and the kind of a row's fault goes to
-- its slot. Statements are handed the stack of scopes, and hand it back. The number of lines left falls at each call.
use Rattle.std.specs.Prelude.{ℕ, zero, suc, ◌+◌, Bool, true, false, cond, ◌||◌, List, eqb, leb, ltb}
use Rattle.spec_text.specs.Bytes.{Bytes}
use Rattle.spec_faults.specs.Faults.{lacks_self}
use Rattle.work_rows.specs.Layout.{rows_most, kind_at, number_at, after_row}
use Rattle.work_marks.specs.MarksModel.{put_slot, put_link}
use Rattle.work_rows.specs.LoopsModel.{rows_to}
use Rattle.walk_scopes.specs.ScopesModel.{Scope, module', home_number, at_module, scope_at, below, in_lambda, top_of, stack_of, defined}
use Rattle.walk_scopes.specs.declared.ScopeStack.{ScopeStack}
use Rattle.read_row.specs.RowModel.{params_of}
use Rattle.walk_judge.specs.JudgeModel.{read_of}
use Rattle.walk_blocks.specs.BlocksModel.{opened}
use Rattle.walk_given.specs.GivenModel.{begun}

-- ---- targets, one row after the other: 17 var, 24 tuple, 20 index, 22 get; `value` walks an expression
unfoldable pub next_target : List ℕ → ℕ → ℕ
next_target w i = cond (eqb (kind_at w i) 24) (i + 1) (after_row w i)

unfoldable pub target_at : (ℕ → List ℕ → List ℕ) → Scope → ℕ → List ℕ → List ℕ
target_at value s i w =
    cond (eqb (kind_at w i) 17) (defined s w (number_at w i))
    (cond (eqb (kind_at w i) 24) w
    (cond (eqb (kind_at w i) 20) (rows_to after_row value (i + 1) (after_row w i) w)
    (cond (eqb (kind_at w i) 22) (rows_to after_row value (i + 1) (after_row w i) w) (put_slot w i 14))))

-- ---- expressions, by their kind: 17 var, 21 call, 28 lambda; `value` walks an expression, `body` that of a lambda
unfoldable pub expr_at : (Bool → Scope → ℕ → List ℕ → List ℕ) → (Scope → ℕ → List ℕ → List ℕ) → Bytes → Scope → Bool → ℕ → List ℕ → List ℕ
expr_at value body text s called i w =
    cond (eqb (kind_at w i) 17) (read_of s called (number_at w i) i w)
    (cond (eqb (kind_at w i) 21) (rows_to after_row (value false s) (after_row w (i + 1)) (after_row w i) (value true s (i + 1) w))
    (cond (eqb (kind_at w i) 28) (body (in_lambda s (after_row w i)) (i + 1) (opened text (in_lambda s (after_row w i)) i (after_row w i) w))
    (rows_to after_row (value false s) (i + 1) (after_row w i) w)))

-- ---- statements: the stack and the work buffer
pub record Walk : Type 0 where
  pub stack : ScopeStack
  pub work : List ℕ

abbrev pub walk : ScopeStack → List ℕ → Walk
walk t w = record { stack = t; work = w }

-- the stack stays
abbrev pub over : (List ℕ → List ℕ) → Walk → Walk
over f x = walk x.stack (f x.work)

abbrev pub next_line : Walk → ℕ → ℕ
next_line x i = after_row x.work i

-- the block of a def (5) or a method (14): a def's name is bound, a method is judged; then its scope is pushed, its lines are walked, and the
-- scope is popped
abbrev pub is_block : ℕ → Bool
is_block k = eqb k 5 || eqb k 14

unfoldable pub method_at : Bytes → ℕ → List ℕ → List ℕ
method_at text i w = cond (lacks_self (params_of text w i)) (put_slot w i 15) w

unfoldable pub head_at : Bytes → Scope → ℕ → List ℕ → List ℕ
head_at text s i w = cond (eqb (kind_at w i) 5) (defined s w (number_at w i)) (method_at text i w)

abbrev pub pushed : ℕ → Walk → Walk
pushed i x = walk (scope_at x.work i) (put_link x.work i x.stack.row)

abbrev pub popped : Walk → Walk
popped x = walk (below x.work x.stack) x.work

abbrev pub entered : Bytes → ℕ → ℕ → Walk → Walk
entered text i stop x = over (opened text (top_of x.stack) i stop) x

unfoldable pub begun_block : Bytes → ℕ → ℕ → Walk → Walk
begun_block text i stop x = entered text i stop (pushed i (over (head_at text (top_of x.stack) i) x))

-- `line` walks a line
unfoldable pub block_at : (ℕ → Walk → Walk) → Bytes → ℕ → ℕ → Walk → Walk
block_at line text i stop x = popped (rows_to next_line line (i + 1) stop (begun_block text i stop x))

-- the assignment at a row: its value, and then its target
unfoldable pub assign_at : (ℕ → List ℕ → List ℕ) → Scope → ℕ → ℕ → List ℕ → List ℕ
assign_at value s i stop w = rows_to next_target (target_at value s) (after_row w (i + 1)) stop (value (i + 1) w)

-- by their kind: 6 assign, 10 for, 13 class, 15 attr
unfoldable pub stmt_at : (Bool → Scope → ℕ → List ℕ → List ℕ) → (ℕ → Walk → Walk) → Bytes → ℕ → ScopeStack → List ℕ → Walk
stmt_at value line text i t w =
    cond (is_block (kind_at w i)) (block_at line text i (after_row w i) (walk t w))
    (cond (eqb (kind_at w i) 6)
    (walk t (assign_at (value false (top_of t)) (top_of t) i (after_row w i) w))
    (cond (eqb (kind_at w i) 10)
    (rows_to next_line line (after_row w (i + 1)) (after_row w i) (walk t (defined (top_of t) (value false (top_of t) (i + 1) w) (number_at w i))))
    (cond (eqb (kind_at w i) 13)
    (cond (eqb (home_number t.home) module') (rows_to next_line line (i + 1) (after_row w i) (walk t (defined (top_of t) w (number_at w i)))) (walk t (defined (top_of t) w (number_at w i))))
    (cond (eqb (kind_at w i) 15) (walk t w) (rows_to next_line line (i + 1) (after_row w i) (walk t w))))))

-- a line of either sort: from 16 on it is an expression
abbrev pub line_by : (Bool → Scope → ℕ → List ℕ → List ℕ) → (ℕ → Walk → Walk) → ℕ → Walk → Walk
line_by value stmt i x = cond (ltb (kind_at x.work i) 16) (stmt i x) (over (value false (top_of x.stack) i) x)

-- the body of a lambda: were it a statement, its stack would be dropped
abbrev pub body_by : (Bool → Scope → ℕ → List ℕ → List ℕ) → (ℕ → Walk → Walk) → Scope → ℕ → List ℕ → List ℕ
body_by value stmt s i w = cond (ltb (kind_at w i) 16) (rows_to next_line (line_by value stmt) i (i + 1) (walk (stack_of s) w)).work (value false s i w)

-- ---- with so many lines left
unfoldable mutual
  pub walk_expr : ℕ → Bytes → Bool → Scope → ℕ → List ℕ → List ℕ
  walk_expr zero text called s i w = w
  walk_expr (suc k) text called s i w =
      cond (leb rows_most i) w
      (expr_at (λ c s i w. walk_expr k text c s i w) (body_by (λ c s i w. walk_expr k text c s i w) (λ i x. walk_stmt k text i x)) text s called i w)

  pub walk_stmt : ℕ → Bytes → ℕ → Walk → Walk
  walk_stmt zero text i x = x
  walk_stmt (suc k) text i x =
      cond (leb rows_most i) x
      (stmt_at (λ c s i w. walk_expr k text c s i w) (line_by (λ c s i w. walk_expr k text c s i w) (λ i x. walk_stmt k text i x)) text i x.stack x.work)

abbrev pub walk_line : ℕ → Bytes → ℕ → Walk → Walk
walk_line k text i x = line_by (walk_expr k text) (walk_stmt k text) i x

abbrev pub walk_body : ℕ → Bytes → Scope → ℕ → List ℕ → List ℕ
walk_body k text s i w = body_by (walk_expr k text) (walk_stmt k text) s i w

-- lists of lines are loops
abbrev pub walk_stmts : ℕ → Bytes → ℕ → ℕ → Walk → Walk
walk_stmts k text at stop x = rows_to next_line (walk_line k text) at stop x

abbrev pub walk_exprs : ℕ → Bytes → Scope → ℕ → ℕ → List ℕ → List ℕ
walk_exprs k text s at stop w = rows_to after_row (walk_expr k text false s) at stop w

abbrev pub walk_target : ℕ → Bytes → Scope → ℕ → List ℕ → List ℕ
walk_target k text s i w = target_at (walk_expr k text false s) s i w

abbrev pub walk_targets : ℕ → Bytes → Scope → ℕ → ℕ → List ℕ → List ℕ
walk_targets k text s at stop w = rows_to next_target (walk_target k text s) at stop w

-- ---- the whole tree, of so many `global` lines and so many rows
unfoldable pub walked : Bytes → ℕ → ℕ → List ℕ → List ℕ
walked text globals rows w =
    (walk_stmts rows text globals rows (walk (at_module rows) (begun text (top_of (at_module rows)) globals rows w))).work
