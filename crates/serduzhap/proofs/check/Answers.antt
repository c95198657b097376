-- The first fault, as its record.
use Rattle.std.proofs.Common.{arith, ap, ◌∙◌}
use Rattle.spec_answers.specs.Answers.{faulty}
use Rattle.report_records.specs.RecordsModel.{numbers_of, numbers}
use Rattle.serduzhap.proofs.Cases.{check_faulty, numbers_some}
use Rattle.serduzhap.proofs.check.Goals as goal

pub returns : goal.returns
returns c =
    ap (λ r. faulty (numbers (numbers_of r))) c.record_at.ensures
    ∙ ap (λ r. faulty (numbers r)) (numbers_some c.in_ok-count.ensures 0 (omega (arith, c.if-count-eq0.false)))
    ∙ check_faulty c.in_ok-count.ensures c.if-count-eq0.false
