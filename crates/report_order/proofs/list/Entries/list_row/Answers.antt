-- The ways of the tests: after the row itself come the captures of a new lambda, or the callee of a call, or nothing.
use Rattle.std.proofs.Common.{arith, sym, ◌∙◌}
use Rattle.report_order.proofs.AtRow.{row_lambda, row_inner, row_call, row_other}
use Rattle.report_order.proofs.list.Entries.list_row.Goals as goal

pub returns-in-28-clause-listed : goal.returns-in-28-clause-listed
returns-in-28-clause-listed c =
    row_lambda c.args.x c.args.p c.next_around-below.ensures c.list_itself.ensures (sym c.kind-kind.ensures ∙ c.in-28.is) c.if-x-p.true c.after_row-stop.ensures.0 c.list_captures.ensures

pub returns-else-x-p-clause-listed : goal.returns-else-x-p-clause-listed
returns-else-x-p-clause-listed c = row_inner c.args.x c.args.p c.next_around-below.ensures c.list_itself.ensures (sym c.kind-kind.ensures ∙ c.in-28.is) c.if-x-p.false

pub returns-in-21-clause-listed : goal.returns-in-21-clause-listed
returns-in-21-clause-listed c = row_call c.args.x c.args.p c.next_around-below.ensures c.list_itself.ensures (sym c.kind-kind.ensures ∙ c.in-21.is) c.list_called.ensures

pub returns-clause-listed : goal.returns-clause-listed
returns-clause-listed c =
    row_other c.args.x c.args.p c.next_around-below.ensures c.list_itself.ensures (λ q. omega (arith, c.kind-kind.ensures)) (λ q. omega (arith, c.kind-kind.ensures))
