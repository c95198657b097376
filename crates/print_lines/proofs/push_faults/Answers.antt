-- Line after line: each turn pushes the line of the record that the rest begins with, and goes on after it.
use Rattle.std.proofs.Common.{arith, ◌*◌, ◌∙◌, refl, ap, subst, drop, drop-drop}
use Rattle.report_records.specs.declared.RecordNumbers.{RecordNumbers}
use Rattle.write_bytes.specs.OutputModel.{Pushed}
use Rattle.write_bytes.proofs.Pushed.{pushed_nothing, pushed_then}
use Rattle.print_lines.specs.LinesModel.{record_in, record_line}
use Rattle.print_lines.proofs.Lines.{lines_more}
use Rattle.print_lines.proofs.push_faults.Goals as goal

pub loop-init : goal.loop-init
loop-init c = record { after = refl; pushed = pushed_nothing c.args.output.now }

pub loop-preserved : goal.loop-preserved
loop-preserved c =
    let h = c.loop.invariant in
    let a = c.args in
    let line = subst (λ (r : RecordNumbers). Pushed c.loop.output (record_line a.text.now r) c.push_fault.new.output)
    (c.record_of.ensures ∙ ap (λ ns. record_in ns 0) h.after) c.push_fault.ensures in
    record {
      after = c.after_record-rest.ensures ∙ (ap (drop 7) h.after ∙ (drop-drop 7 (7 * c.loop.counter) a.report.now ∙ ap (λ n. drop n a.report.now) (omega arith)));
      pushed = rw (lines_more a.text.now a.report.now c.loop.counter) (pushed_then h.pushed line);
    }
