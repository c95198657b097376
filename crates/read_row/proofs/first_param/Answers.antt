-- At the start the fields before the parameters are to be passed, and each turn passes one, if there is one.
use Rattle.std.proofs.Common.{sym, ap, ◌∙◌, arith}
use Rattle.read_fields.specs.FieldsModel.{start_at}
use Rattle.read_row.specs.RowModel.{before_params, parts_from}
use Rattle.read_row.proofs.FieldsLeft.{some_before, parts_start, part_passed, parts_left}
use Rattle.read_row.proofs.first_param.Goals as goal

pub loop-init : goal.loop-init
loop-init c = (
  parts_start c.args.text.now c.args.work.now c.args.i _ _ (c.start-c.ensures ∙ ap start_at c.offset.ensures)
      (c.before_params-fields.ensures ∙ ap before_params c.kind.ensures),
  λ l. absurd (omega arith),
)

pub loop-preserved : goal.loop-preserved
loop-preserved c = (part_passed _ _ _ _ c.loop-test.true c.past_field-c.ensures.parts ∙ c.loop.invariant.0, λ l. c.past_field-c.ensures.within)

pub returns-clause-parts : goal.returns-clause-parts
returns-clause-parts c = sym (parts_left _ _ (parts_from c.args.text.now c.loop.c) c.loop-test.false) ∙ c.loop.invariant.0

pub returns-clause-within : goal.returns-clause-within
returns-clause-within c = c.loop.invariant.1 (omega (arith, some_before _ _ c.before_params-fields.ensures, c.loop-test.false))
