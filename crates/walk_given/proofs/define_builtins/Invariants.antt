-- The loop's invariant: the names that are left, bound in the buffer, give what is wanted.
use Rattle.std.proofs.Common.{◌≡◌}
use Rattle.walk_builtins.specs.Cut.{names_left}
use Rattle.walk_builtins.specs.Table.{names}
use Rattle.walk_scopes.specs.ScopesModel.{top_of}
use Rattle.walk_given.specs.GivenModel.{given}
use Rattle.walk_given.proofs.define_builtins.Given as goal

abbrev pub invariant-loop-name : goal.invariant-loop-name
invariant-loop-name l =
    (goal.iterator-loop-name).can_next l.name-iterator
    × (goal.iterator-loop-name).is_finite l.name-iterator
    × (given l.text (top_of l.s) (names_left l.name-iterator) l.work ≡ given l.text (top_of l.s) names l.initial.work)
