-- `params` passes the fields before the parameters. The loop's invariant: of the fields that are left, those after the ones that are still
-- to be passed are the parameters.
use Rattle.std.proofs.Common.{◌-◌, ◌≡◌, drop}
use Rattle.read_row.specs.RowModel.{params_of}
use Rattle.read_row.specs.Left.{bytes_of, fields_left}
use Rattle.read_row.proofs.params.Given as goal

abbrev pub invariant-loop : goal.invariant-loop
invariant-loop l = drop (l.before - l.counter) (fields_left l.fields) ≡ bytes_of (params_of l.text l.work l.i)
