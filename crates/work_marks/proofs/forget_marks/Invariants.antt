-- The numbers before the index are cleared.
use Rattle.std.proofs.Common.{◌≡◌, ◌%◌, ◌++◌, map, take, drop}
use Rattle.work_marks.proofs.forget_marks.Given as goal

abbrev pub invariant-loop-x : goal.invariant-loop-x
invariant-loop-x l =
    l.x-items ≡ map (λ x. x % 8_192 % 4_294_967_296) (take l.x-index l.initial.x-items) ++ drop l.x-index l.initial.x-items
