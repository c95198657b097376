-- Line after line: the lines of the first records are pushed, and the rest is what stands after them.
use Rattle.std.proofs.Common.{◌*◌, ◌≡◌, drop}
use Rattle.write_bytes.specs.OutputModel.{Pushed}
use Rattle.print_lines.specs.LinesModel.{record_lines}
use Rattle.print_lines.proofs.push_faults.Given as goal

abbrev pub invariant-loop : goal.invariant-loop
invariant-loop l = record {
  after : l.rest ≡ drop (7 * l.counter) l.report;
  pushed : Pushed l.initial.output (record_lines l.text l.report 0 l.counter) l.output;
}
