-- A field is no longer than its table.
use Rattle.std.proofs.Common.{◌+◌, length, ap, arith}
use Rattle.report_messages.proofs.Lengths.{field_fits}
use Rattle.report_messages.proofs.past_field.Goals as goal

pub returns : goal.returns
returns c =
    let a = c.args in
    let e = c.field.ensures in
    (ap (λ x. a.at + length x + 1) e, omega (arith, c.requires.0, ap length e, field_fits a.texts.now a.at))
