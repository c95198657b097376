-- A turn of the loop goes past the three fields of a line; no line is left at the end.
use Rattle.std.proofs.Common.{◌≡◌, ◌+◌, ◌-◌, sym, ap, ◌∙◌, arith}
use Rattle.report_messages.specs.TextsModel.{words_start}
use Rattle.report_messages.proofs.Table.{start_more, start_end}
use Rattle.report_messages.proofs.words_start.Goals as goal

pub loop-line-preserved : goal.loop-line-preserved
loop-line-preserved c =
    let h = c.loop-line in
    let left : c.args.n - (h._line + 1) ≡ c.args.n - h._line - 1 = omega arith in
    let more = start_more c.args.texts.now (c.args.n - h._line) h.at _ _ _ (omega arith) c.past_field-between.ensures.0 c.past_field-after.ensures.0 c.past_field-at.ensures.0 in
    (omega arith, ap (λ k. words_start k c.args.texts.now c.past_field-at.result) left ∙ more ∙ h.invariant.1)

pub returns : goal.returns
returns c =
    let h = c.loop-line in
    (sym (start_end c.args.texts.now (c.args.n - h._line) h.at (omega arith)) ∙ h.invariant.1, omega arith)
