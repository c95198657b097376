-- No fault i, and its message.
use Rattle.std.proofs.Common.{length, ap, ◌∙◌}
use Rattle.spec_answers.specs.Answers.{Outcome, over, wrote_if}
use Rattle.report_records.specs.RecordsModel.{numbers_of}
use Rattle.report_messages.specs.MessagesModel.{record_message}
use Rattle.serduzhap.proofs.Cases.{message_none, message_some, numbers_some}
use Rattle.serduzhap.proofs.message.Goals as goal

pub returns-then-count-i : goal.returns-then-count-i
returns-then-count-i c =
    let a = c.args in
    let o = a.out.now in
    let e = message_none c.in_ok-count.ensures a.i c.if-count-i.true (length o) in
    (ap (λ (x : Outcome). x.answer) e, ap (λ (x : Outcome). over x.writes o) e)

pub returns : goal.returns
returns c =
    let a = c.args in
    let o = a.out.now in
    let e =
    ap (λ r. wrote_if (length o) (record_message a.text.now (numbers_of r))) c.record_at.ensures
    ∙ ap (λ r. wrote_if (length o) (record_message a.text.now r)) (numbers_some c.in_ok-count.ensures a.i c.if-count-i.false)
    ∙ message_some c.in_ok-count.ensures a.i c.if-count-i.false (length o) in (
      c.write_message.ensures.0 ∙ ap (λ (x : Outcome). x.answer) e,
      c.write_message.ensures.1 ∙ ap (λ (x : Outcome). over x.writes o) e,
    )
