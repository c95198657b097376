-- To fill a part is to clear one row after the other.
use Rattle.std.proofs.Common.{◌-◌, ap, refl, ◌∙◌}
use Rattle.std.proofs.lemmas.Simd.{splat_is_map}
use Rattle.work_marks.proofs.Parts.{rows_written}
use Rattle.work_marks.proofs.forget_stamps.Goals as goal

pub returns : goal.returns
returns c =
    let r = c.first_rows-part.result in
    let at = c.first_rows-part.ensures in
    rows_written (λ _. 0) 12_288 c.args.rows r.start (r.end - r.start) c.args.work.now _ at.0 (ap (λ e. e - r.start) at.1) (c.fill.ensures.after (λ y e. e) ∙ splat_is_map _ _ 0 refl)
