-- No fault i, and its name.
use Rattle.std.proofs.Common.{ℕ, arith, ◌≡◌, length, sym, ap₂, subst}
use Rattle.spec_text.specs.Reading.{Reading, reading}
use Rattle.spec_answers.specs.Answers.{name_in}
use Rattle.read_bytes.specs.declared.name_part.NamePart.{NamePart}
use Rattle.report_records.specs.RecordsModel.{absent}
use Rattle.report_records.specs.declared.Record.{Record}
use Rattle.serduzhap.proofs.Cases.{Names, name_if_none, name_if_some}
use Rattle.serduzhap.proofs.name_part.Goals as goal

pub returns-then-count-i : goal.returns-then-count-i
returns-then-count-i c =
    let a = c.args in
    let x : Reading = reading a.text.now (length a.work.now) in
    let none : c.default.result ≡ absent = ap₂ {C = NamePart} (λ (k n : ℕ). record { offset = k; len = n }) c.default.ensures.0 c.default.ensures.1 in
    subst (λ (p : NamePart). Names a.text.now p (name_in a.i x)) (sym none)
    (name_if_none a.i x c.find.result c.find.ensures (omega (arith, c.unwrap_or-count.ensures)))

pub returns : goal.returns
returns c =
    let a = c.args in
    let x : Reading = reading a.text.now (length a.work.now) in
    subst (λ (r : Record). Names a.text.now r.name (name_in a.i x)) (sym c.record_at.ensures)
    (name_if_some a.i x c.find.result c.find.ensures (omega (arith, c.unwrap_or-count.ensures)))
