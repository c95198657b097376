-- The loop's invariant: the parameters that are left, bound in the buffer, give what is wanted.
use Rattle.std.proofs.Common.{◌≡◌}
use Rattle.read_row.specs.Left.{bytes_of, fields_left}
use Rattle.read_row.specs.RowModel.{params_of}
use Rattle.walk_scopes.specs.ScopesModel.{scope_of}
use Rattle.walk_blocks.proofs.Params.{names_entered}
use Rattle.walk_blocks.proofs.enter.Given as goal

abbrev pub invariant-loop-name : goal.invariant-loop-name
invariant-loop-name l =
    (goal.iterator-loop-name).can_next l.name-iterator
    × (goal.iterator-loop-name).is_finite l.name-iterator
    × (names_entered l.text (scope_of l.scope) l.i (fields_left l.name-iterator) l.work
    ≡ names_entered l.text (scope_of l.scope) l.i (bytes_of (params_of l.text l.initial.work l.i)) l.initial.work)
