-- One step of the definitions of the walk, by whether a line is left.
use Rattle.std.proofs.Common.{ℕ, zero, suc, ◌+◌, ◌-◌, ◌≤◌, ◌<◌, arith, ◌≡◌, refl, ap, ◌∙◌, Bool, true, false, cond, List, eqb, leb, le-leb, ne_eqb}
use Rattle.std.proofs.lemmas.Bool.{lt-leb}
use Rattle.spec_text.specs.Bytes.{Bytes}
use Rattle.work_rows.specs.Layout.{rows_most, kind_at, after_row}
use Rattle.walk_scopes.specs.ScopesModel.{Scope}
use Rattle.walk_scopes.proofs.Defined.{defined_block}
use Rattle.walk_scopes.specs.declared.ScopeStack.{ScopeStack}
use Rattle.walk_tree.specs.WalkModel.{Walk, walk, next_line, next_target, expr_at, stmt_at, walk_expr, walk_stmt, walk_line, walk_body, walk_stmts}

-- ---- the next row lies after the row
pub after_on : (w : List ℕ) (i : ℕ) → i < after_row w i
after_on w i = omega arith

pub line_on : (x : Walk) (i : ℕ) → i < next_line x i
line_on x i = after_on x.work i

pub target_on : (w : List ℕ) (i : ℕ) → i < next_target w i
unfolding next_target
target_on w i = go (eqb (kind_at w i) 24)
  where
    go : (t : Bool) → i < cond t (i + 1) (after_row w i)
    go true = omega arith
    go false = omega arith

-- ---- an expression
module _ (text : Bytes) (called : Bool) (s : Scope) (i : ℕ) (w : List ℕ) where
  pub expr_none : (left : ℕ) → left ≡ 0 → walk_expr left text called s i w ≡ w
  unfolding walk_expr walk_stmt
  expr_none left e = ap (λ k. walk_expr k text called s i w) e

  expr_step : (left : ℕ) → (left ≡ 0 → ⊥) → walk_expr left text called s i w ≡ cond (leb rows_most i) w (expr_at (walk_expr (left - 1) text) (walk_body (left - 1) text) text s called i w)
  unfolding walk_expr walk_stmt
  expr_step left some = let e : left ≡ suc (left - 1) = omega arith in ap (λ k. walk_expr k text called s i w) e

  pub expr_far : (left : ℕ) → rows_most ≤ i → walk_expr left text called s i w ≡ w
  unfolding walk_expr walk_stmt
  expr_far zero l = refl
  expr_far (suc k) l = rw (le-leb rows_most i l)

  pub expr_near : (left : ℕ) → (left ≡ 0 → ⊥) → i < rows_most → walk_expr left text called s i w ≡ expr_at (walk_expr (left - 1) text) (walk_body (left - 1) text) text s called i w
  expr_near left some l = expr_step left some ∙ rw (lt-leb rows_most i l)

pub ruleset expr_ways = (expr_none, expr_far, expr_near)

-- ---- a statement
module _ (text : Bytes) (s : ScopeStack) (i : ℕ) (w : List ℕ) where
  pub stmt_none : (left : ℕ) → left ≡ 0 → walk_stmt left text i (walk s w) ≡ walk s w
  unfolding walk_expr walk_stmt
  stmt_none left e = ap (λ k. walk_stmt k text i (walk s w)) e

  stmt_step : (left : ℕ) → (left ≡ 0 → ⊥) → walk_stmt left text i (walk s w) ≡ cond (leb rows_most i) (walk s w) (stmt_at (walk_expr (left - 1) text) (walk_line (left - 1) text) text i s w)
  unfolding walk_expr walk_stmt
  stmt_step left some = let e : left ≡ suc (left - 1) = omega arith in ap (λ k. walk_stmt k text i (walk s w)) e

  pub stmt_far : (left : ℕ) → rows_most ≤ i → walk_stmt left text i (walk s w) ≡ walk s w
  unfolding walk_expr walk_stmt
  stmt_far zero l = refl
  stmt_far (suc k) l = rw (le-leb rows_most i l)

  pub stmt_near : (left : ℕ) → (left ≡ 0 → ⊥) → i < rows_most → walk_stmt left text i (walk s w) ≡ stmt_at (walk_expr (left - 1) text) (walk_line (left - 1) text) text i s w
  stmt_near left some l = stmt_step left some ∙ ap (λ t. cond t (walk s w) (stmt_at (walk_expr (left - 1) text) (walk_line (left - 1) text) text i s w)) (lt-leb rows_most i l)

  -- of another kind than those that are walked in their own way
  pub stmt_other : (left : ℕ) → (left ≡ 0 → ⊥) → i < rows_most → (kind_at w i ≡ 5 → ⊥) → (kind_at w i ≡ 14 → ⊥) → (kind_at w i ≡ 6 → ⊥)
      → (kind_at w i ≡ 10 → ⊥) → (kind_at w i ≡ 13 → ⊥) → (kind_at w i ≡ 15 → ⊥)
      → walk_stmt left text i (walk s w) ≡ walk_stmts (left - 1) text (i + 1) (after_row w i) (walk s w)
  unfolding stmt_at
  stmt_other left some l a b c d e f =
      stmt_near left some l
      ∙ rw (
        ne_eqb (kind_at w i) 5 a,
        ne_eqb (kind_at w i) 14 b,
        ne_eqb (kind_at w i) 6 c,
        ne_eqb (kind_at w i) 10 d,
        ne_eqb (kind_at w i) 13 e,
        ne_eqb (kind_at w i) 15 f,
      )

pub ruleset stmt_ways = (stmt_none, stmt_far, stmt_near, stmt_other, defined_block)
