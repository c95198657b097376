-- The records before j are written.
use Rattle.std.proofs.Common.{◌≡◌}
use Rattle.spec_answers.specs.Answers.{over}
use Rattle.write_records.specs.WriteModel.{records_of}
use Rattle.write_records.proofs.write_records.Given as goal

abbrev pub invariant-loop-j : goal.invariant-loop-j
invariant-loop-j l = l.out ≡ over (records_of l.text l.work 0 l.j) l.fn.out
