-- The loop passes one name at each turn.
use Rattle.std.proofs.Common.{length, ◌-◌}
use Rattle.read_line.proofs.Tail.{Passed}
use Rattle.read_line.proofs.params_if.Given as goal

abbrev pub invariant-loop-next : goal.invariant-loop-next
invariant-loop-next l = Passed l.due l.text l.initial.next l.next l.count

abbrev pub decreases-loop-next : goal.decreases-loop-next
decreases-loop-next l = length l.text - l.next.at
