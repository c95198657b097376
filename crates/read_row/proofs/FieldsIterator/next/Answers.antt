-- The field that is yielded is the first of those that were left.
use Rattle.read_row.proofs.FieldsLeft.{field_yielded, less_left}
use Rattle.read_row.proofs.FieldsIterator.next.Goals as goal

pub returns-clause-steps : goal.returns-clause-steps
returns-clause-steps c =
    field_yielded c.args.self.now.rest c.past_tab-self.result c.in_ok-rest.rest c.field-field.result.now c.in_ok-rest.was c.field-field.ensures c.past_tab-self.ensures

pub returns-clause-goes : goal.returns-clause-goes
returns-clause-goes c = less_left c.args.self.now _ c.field-field.result (returns-clause-steps c)
