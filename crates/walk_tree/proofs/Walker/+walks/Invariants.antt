-- The cycle of calls. Each member's measure is eight times the lines left, and its rank: a call that spends a line may go to any member, and a
-- call that spends none goes to a lower rank. The loops' invariant: what is left of the rows gives what is wanted.
use Rattle.std.proofs.Common.{◌+◌, ◌*◌, ◌-◌}
use Rattle.walk_scopes.specs.ScopesModel.{scope_of}
use Rattle.walk_tree.specs.WalkModel.{over, walk_exprs, walk_stmts, walk_targets}
use Rattle.walk_tree.proofs.Left.{Left}
use Rattle.walk_tree.proofs.Walker.+walks.Given as goal

abbrev pub decreases-block : goal.decreases-block
decreases-block l = 8 * l.left + 4

abbrev pub decreases-expr : goal.decreases-expr
decreases-expr l = 8 * l.left

abbrev pub decreases-exprs : goal.decreases-exprs
decreases-exprs l = 8 * l.left + 2

abbrev pub decreases-line : goal.decreases-line
decreases-line l = 8 * l.left + 4

abbrev pub decreases-stmt : goal.decreases-stmt
decreases-stmt l = 8 * l.left + 1

abbrev pub decreases-stmts : goal.decreases-stmts
decreases-stmts l = 8 * l.left + 3

abbrev pub decreases-target : goal.decreases-target
decreases-target l = 8 * l.left + 4

abbrev pub decreases-targets : goal.decreases-targets
decreases-targets l = 8 * l.left + 5

abbrev pub decreases-assign : goal.decreases-assign
decreases-assign l = 8 * l.left + 6

abbrev pub decreases-value : goal.decreases-value
decreases-value l = 8 * l.left + 1

abbrev pub invariant-exprs-loop-at : goal.invariant-exprs-loop-at
invariant-exprs-loop-at l =
    let f = walk_exprs l.left l.fn.self.text.now (scope_of l.scope) in Left l.fn.self (over (f l.first l.stop)) (over (f l.at l.stop)) l.self

abbrev pub decreases-exprs-loop-at : goal.decreases-exprs-loop-at
decreases-exprs-loop-at l = l.stop - l.at

abbrev pub invariant-stmts-loop-at : goal.invariant-stmts-loop-at
invariant-stmts-loop-at l =
    let f = walk_stmts l.left l.fn.self.text.now in Left l.fn.self (f l.first l.stop) (f l.at l.stop) l.self

abbrev pub decreases-stmts-loop-at : goal.decreases-stmts-loop-at
decreases-stmts-loop-at l = l.stop - l.at

abbrev pub invariant-targets-loop-at : goal.invariant-targets-loop-at
invariant-targets-loop-at l =
    let f = walk_targets l.left l.fn.self.text.now (scope_of l.scope) in Left l.fn.self (over (f l.first l.stop)) (over (f l.at l.stop)) l.self

abbrev pub decreases-targets-loop-at : goal.decreases-targets-loop-at
decreases-targets-loop-at l = l.stop - l.at
