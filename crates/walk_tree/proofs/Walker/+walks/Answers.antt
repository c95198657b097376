-- A turn of a loop walks one row; past the last there is none to walk.
use Rattle.std.proofs.Common.{arith, false}
use Rattle.std.proofs.lemmas.Grind.{common_steps}
use Rattle.work_rows.specs.Layout.{after_row}
use Rattle.walk_scopes.specs.ScopesModel.{scope_of}
use Rattle.walk_tree.specs.WalkModel.{next_target, walk_target, walk_expr, walk_line}
use Rattle.walk_tree.proofs.Left.{row_turn, row_end, line_turn, line_end}
use Rattle.walk_tree.proofs.Ways.{after_on, target_on}
use Rattle.walk_tree.proofs.Walker.+walks.Goals as goal

pub exprs-loop-at-preserved : goal.exprs-loop-at-preserved
exprs-loop-at-preserved t c =
    let a = c.args in
    let x = c.loop-at in
    row_turn after_row (λ t. walk_expr a.left t false (scope_of a.scope.now)) a.self.now x.self x.at a.stop x.invariant after_on
    c.loop-at-test.true c.after_row-next.ensures.0 c.expr.ensures

pub exprs-returns : goal.exprs-returns
exprs-returns t c =
    let a = c.args in
    let x = c.loop-at in
    row_end after_row (λ t. walk_expr a.left t false (scope_of a.scope.now)) a.self.now x.self x.at a.stop x.invariant c.loop-at-test.false

pub targets-loop-at-preserved : goal.targets-loop-at-preserved
targets-loop-at-preserved t c =
    let a = c.args in
    let x = c.loop-at in
    row_turn next_target (λ t. walk_target a.left t (scope_of a.scope.now)) a.self.now x.self x.at a.stop x.invariant target_on
    c.loop-at-test.true c.next_target-next.ensures.next c.target.ensures

pub targets-returns : goal.targets-returns
targets-returns t c =
    let a = c.args in
    let x = c.loop-at in
    row_end next_target (λ t. walk_target a.left t (scope_of a.scope.now)) a.self.now x.self x.at a.stop x.invariant c.loop-at-test.false

pub stmts-loop-at-preserved-then-kind-lt-LIT : goal.stmts-loop-at-preserved-then-kind-lt-LIT
stmts-loop-at-preserved-then-kind-lt-LIT t c =
    let a = c.args in
    let x = c.loop-at in
    let h = c.stmt.ensures in
    line_turn (walk_line a.left) a.self.now x.self x.at a.stop x.invariant c.loop-at-test.true c.after_row-next.ensures.0
    (record { walked = grind (arith, common_steps); same_text = h.same_text; same_buffer = h.same_buffer })

pub stmts-loop-at-preserved : goal.stmts-loop-at-preserved
stmts-loop-at-preserved t c =
    let a = c.args in
    let x = c.loop-at in
    let h = c.value.ensures in
    line_turn (walk_line a.left) a.self.now x.self x.at a.stop x.invariant c.loop-at-test.true c.after_row-next.ensures.0
    (record { walked = grind (arith, common_steps); same_text = h.same_text; same_buffer = h.same_buffer })

pub stmts-returns : goal.stmts-returns
stmts-returns t c =
    let a = c.args in
    let x = c.loop-at in
    line_end (walk_line a.left) a.self.now x.self x.at a.stop x.invariant c.loop-at-test.false
