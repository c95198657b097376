-- What is left to list, from the row on, gives what is wanted.
use Rattle.std.proofs.Common.{◌-◌}
use Rattle.report_order.specs.OrderModel.{entries_from, entries}
use Rattle.report_order.proofs.Stored.{Left}
use Rattle.report_order.proofs.list.Entries.list_rows.Given as goal

abbrev pub invariant-loop-p : goal.invariant-loop-p
invariant-loop-p l = Left (entries_from l.self.work.now l.x (l.rows - l.p) l.p) l.self (entries l.fn.self.work.now l.first l.rows) l.fn.self
