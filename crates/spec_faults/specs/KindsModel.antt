-- The kind that code reads from a number.
use Rattle.std.specs.Prelude.{ℕ, ◌%◌, cond, eqb}
use Rattle.spec_faults.specs.declared.fault_kind.FaultKind.{FaultKind}
use Rattle.spec_faults.specs.declared.fault_kind.FaultKind.TheVariants.{UndefinedVariable, UndefinedFunction, UndefinedCapture, UnboundVariable, UnboundFunction, UnboundCapture, InvalidTarget, MethodWithoutSelf}

-- the kind with a number; of any other number the kind with the same last three bits
abbrev pub kind_by_number : ℕ → FaultKind
kind_by_number n =
    cond (eqb (n % 8) 0) UndefinedVariable
    (cond (eqb (n % 8) 1) UndefinedFunction
    (cond (eqb (n % 8) 2) UndefinedCapture
    (cond (eqb (n % 8) 3) UnboundVariable
    (cond (eqb (n % 8) 4) UnboundFunction
    (cond (eqb (n % 8) 5) UnboundCapture
    (cond (eqb (n % 8) 6) InvalidTarget MethodWithoutSelf))))))
