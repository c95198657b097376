-- The field ends inside the text, and those that come after it are those of the cursor after it.
use Rattle.std.proofs.Common.{ap, arith, length}
use Rattle.read_row.proofs.FieldsLeft.{parts_after, end_inside}
use Rattle.read_row.proofs.past_field.Goals as goal

pub next-requires : goal.next-requires
next-requires c = omega (arith, end_inside c.args.text.now c.args.c.at c.if-c-text.true, ap length c.field-field.ensures)

pub returns-then-c-text-clause-parts : goal.returns-then-c-text-clause-parts
returns-then-c-text-clause-parts c = parts_after c.args.text.now c.args.c _ _ c.if-c.true c.field-field.ensures c.next.ensures
