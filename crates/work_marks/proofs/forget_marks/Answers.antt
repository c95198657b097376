-- A turn of the loop clears one number; at the end all of the part are cleared.
use Rattle.std.proofs.Common.{◌≡◌, ◌≤◌, ◌-◌, ◌%◌, length, ap, arith, set, sym, ◌∙◌, get_or, take, drop}
use Rattle.std.proofs.lemmas.Grind.{get_or_default_zero}
use Rattle.std.proofs.lemmas.List.{append-nil, take_all, drop_all}
use Rattle.std.proofs.lemmas.List.Edits.{map_over_more}
use Rattle.work_marks.proofs.Parts.{rows_written}
use Rattle.work_marks.proofs.forget_marks.Goals as goal

pub loop-x-preserved : goal.loop-x-preserved
loop-x-preserved c =
    let items = c.loop-x.x-items in
    let i = c.loop-x.x-index in
    let x = get_or items i 0 in
    let e : x % 8_192 ≡ x % 8_192 % 4_294_967_296 = omega arith in
    ap (set items i) e ∙ map_over_more (λ x. x % 8_192 % 4_294_967_296) _ items i x (omega arith) c.loop-x.invariant (sym (get_or_default_zero items i x (omega arith)))

pub returns : goal.returns
returns c =
    let r = c.first_rows-part.result in
    let at = c.first_rows-part.ensures in
    let part = take (r.end - r.start) (drop r.start c.args.work.now) in
    let past : length part ≤ c.loop-x.x-index = c.loop-x-test.false in
    rows_written (λ x. x % 8_192 % 4_294_967_296) 8_192 c.args.rows r.start (r.end - r.start) c.args.work.now _ at.0 (ap (λ e. e - r.start) at.1) (c.loop-x.invariant ∙ simp (take_all, drop_all, append-nil))
