-- What is left to list, from the row on, gives what is wanted.
use Rattle.std.proofs.Common.{◌+◌, ◌-◌}
use Rattle.report_order.specs.OrderModel.{captures}
use Rattle.report_order.proofs.Stored.{Left}
use Rattle.report_order.proofs.list.Entries.list_captures.Given as goal

abbrev pub invariant-loop-i : goal.invariant-loop-i
invariant-loop-i l = Left (captures l.self.work.now l.p (l.stop - l.i) l.i) l.self (captures l.fn.self.work.now l.p (l.stop - (l.p + 1)) (l.p + 1)) l.fn.self
