-- Of a kind that has a text, the words of its line round the two names; any other number has no message. antt computes that the table of
-- src/lib.rt keeps the rule, over the whole of it.
use Rattle.std.proofs.Common.{◌≡◌, ◌≤◌, ◌-◌, length, ap, ap₂, ◌∙◌, arith, length-append, refl}
use Rattle.spec_text.specs.Bytes.{part_of}
use Rattle.spec_faults.specs.Faults.{message}
use Rattle.read_fields.specs.FieldsModel.{field}
use Rattle.report_messages.specs.TextsModel.{words_start, Rule}
use Rattle.report_messages.specs.declared.TheConstants.{TEXTS}
use Rattle.report_messages.proofs.Table.{message_found}
use Rattle.report_messages.proofs.Lengths.{part_fits, field_fits}
use Rattle.report_messages.proofs.Message.of_numbers.Goals as goal

rule : Rule TEXTS.now
unfolding field
rule = record { short = omega arith; table = refl }

pub returns-clause-message : goal.returns-clause-message
returns-clause-message c =
    let a = c.args in
    let r = a.r in
    let line : r.kind - c.number-first.result ≡ r.kind - 8 = omega (arith, c.number-first.ensures) in
    let name : c.of.result.now ≡ part_of a.text.now r.name.offset r.name.len = c.of.ensures in
    let class : c.of-2.result.now ≡ part_of a.text.now r.class.offset r.class.len = c.of-2.ensures in
    message_found TEXTS.now c.of.result.now c.of-2.result.now rule r.kind (omega arith) (omega arith) _ _ _ _ _ _
    (c.words_start-a.ensures.0 ∙ ap (λ n. words_start n TEXTS.now 0) line) c.past_field-b.ensures.0 c.past_field-c.ensures.0
    c.field.ensures c.field-2.ensures c.field-3.ensures
    ∙ ap₂ (message r.kind) name class

pub returns-clause-short : goal.returns-clause-short
returns-clause-short c =
    let a = c.args in
    let f : length c.field.result.now ≤ 4_096 = omega (arith, ap length c.field.ensures, field_fits TEXTS.now c.words_start-a.result, rule.short) in
    let g : length c.field-2.result.now ≤ 4_096 = omega (arith, ap length c.field-2.ensures, field_fits TEXTS.now c.past_field-b.result, rule.short) in
    let h : length c.field-3.result.now ≤ 4_096 = omega (arith, ap length c.field-3.ensures, field_fits TEXTS.now c.past_field-c.result, rule.short) in
    let x : length c.of.result.now ≤ length a.text.now = omega (arith, ap length c.of.ensures, part_fits a.text.now a.r.name.offset a.r.name.len) in
    let y : length c.of-2.result.now ≤ length a.text.now = omega (arith, ap length c.of-2.ensures, part_fits a.text.now a.r.class.offset a.r.class.len) in
    simp length-append (omega arith)
