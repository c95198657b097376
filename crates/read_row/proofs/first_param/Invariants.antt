-- `first_param` passes the fields before the parameters. The loop's invariant: of the fields that the cursor has still to take, those after
-- the ones that are still to be passed are the parameters; once one is passed, the cursor is inside the text.
use Rattle.std.proofs.Common.{◌≡◌, true, ◌-◌, ◌<◌, ◌≤◌, drop, length}
use Rattle.read_row.specs.RowModel.{parts_from, params_of}
use Rattle.read_row.proofs.first_param.Given as goal

abbrev pub invariant-loop : goal.invariant-loop
invariant-loop l =
    (drop (l.fields - l.counter) (parts_from l.text l.c) ≡ params_of l.text l.work l.i) × (0 < l.counter → l.c.more ≡ true → l.c.at ≤ length l.text)
