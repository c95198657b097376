-- Written: the lines of the records, and the count after them. Refused: one line. By what `report` answers, each is what is printed.
use Rattle.std.proofs.Common.{ℕ, subst}
use Rattle.spec_answers.specs.Printed.{refused_line}
use Rattle.write_bytes.specs.OutputModel.{Pushed}
use Rattle.write_bytes.proofs.Pushed.{pushed_then}
use Rattle.serduzhap.specs.Calls.{report_number}
use Rattle.print_answer.proofs.Reported.{print_written, print_refused}
use Rattle.print_answer.proofs.push_printed.Goals as goal

pub returns-in-Ok : goal.returns-in-Ok
returns-in-Ok c =
    let a = c.args in
    subst (λ (b : _). Pushed a.output.now b c.push_count.new.output)
    (print_written a.text.now a.work.now a.report.now c.told-work c.told-report c.report.new.out c.in-Ok.count c.in-Ok.ensures).0
    (pushed_then c.push_faults.ensures c.push_count.ensures)

pub returns-in-Err : goal.returns-in-Err
returns-in-Err c =
    let a = c.args in
    let e = c.in-Err.error in
    let number = subst (λ (n : ℕ). Pushed a.output.now (refused_line n c.detail.result) c.push_refused.new.output) c.number.ensures c.push_refused.ensures in
    let detail = subst (λ (n : ℕ). Pushed a.output.now (refused_line (report_number e) n) c.push_refused.new.output) c.detail.ensures number in
    subst (λ (b : _). Pushed a.output.now b c.push_refused.new.output)
    (print_refused a.text.now a.work.now a.report.now c.told-work c.told-report c.report.new.out _ _ c.in-Err.ensures)
    detail
