-- What `report` promises, its answer in numbers.
use Rattle.std.proofs.Common.{length, arith}
use Rattle.serduzhap_c.proofs.Stores.{uncut, uncut_report}
use Rattle.serduzhap_c.proofs.Sizes.{report_small}
use Rattle.serduzhap_c.proofs.serduzhap_report.Goals as goal

pub returns-in-Ok-clause-answer_after : goal.returns-in-Ok-clause-answer_after
returns-in-Ok-clause-answer_after c =
    let a = c.args in
    uncut 2 _ c.in-Ok.ensures.0 (omega arith) c.put.ensures (report_small a.text.now (length a.work.now) (length a.out.now))

pub returns-in-Err-clause-answer_after : goal.returns-in-Err-clause-answer_after
returns-in-Err-clause-answer_after c =
    let a = c.args in
    uncut_report c.in-Err.no_report _ c.in-Err.ensures.0 (omega arith) c.number.ensures c.detail.ensures c.put-in-Err.ensures
    (report_small a.text.now (length a.work.now) (length a.out.now))
