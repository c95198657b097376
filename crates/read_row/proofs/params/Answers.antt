-- At the start the fields before the parameters are to be passed, and each turn passes one, if there is one.
use Rattle.std.proofs.Common.{◌≡◌, ap, ◌∙◌, arith, ◌-◌}
use Rattle.read_row.specs.RowModel.{before_params}
use Rattle.read_row.proofs.FieldsLeft.{rest_from, from_offset, field_passed}
use Rattle.read_row.proofs.params.Goals as goal

pub loop-init : goal.loop-init
loop-init c =
    let n : c.before_params-before.result - 0 ≡ c.before_params-before.result = omega arith in
    from_offset c.args.text.now c.args.work.now c.args.i c.offset.result _ c.get.result c.offset.ensures
    (n ∙ c.before_params-before.ensures ∙ ap before_params c.kind.ensures) (rest_from c.args.text.now c.offset.result c.get.result c.get.ensures.lookup.0)

pub loop-preserved : goal.loop-preserved
loop-preserved c = field_passed c.before_params-before.result c.loop.counter c.loop.fields c.next.new.self c.next.result c.loop-test.true c.next.ensures.steps ∙ c.loop.invariant
