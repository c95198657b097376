-- The bytes before the index are copied.
use Rattle.std.proofs.Common.{◌≡◌, ◌++◌, take, drop}
use Rattle.write_bytes.proofs.Output.push.Given as goal

abbrev pub invariant-loop-i : goal.invariant-loop-i
invariant-loop-i l = l.to-items ≡ take l.i l.bytes ++ drop l.i l.initial.to-items
