-- The loop's invariant: what is left to bind, from the row on, gives what is wanted.
use Rattle.std.proofs.Common.{◌-◌, ◌≡◌}
use Rattle.walk_scopes.specs.ScopesModel.{top_of}
use Rattle.walk_given.specs.GivenModel.{globals_from}
use Rattle.walk_given.proofs.define_globals.Given as goal

abbrev pub invariant-loop-i : goal.invariant-loop-i
invariant-loop-i l =
    globals_from (l.globals - l.i) l.i (top_of l.s) l.work ≡ globals_from l.globals 0 (top_of l.s) l.initial.work
