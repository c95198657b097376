-- The kinds of faults, and the numbers that the documents give to them.
use Rattle.std.specs.Prelude.{ℕ}
use Rattle.spec_faults.specs.declared.fault_kind.FaultKind.{FaultKind}
use Rattle.spec_faults.specs.declared.fault_kind.FaultKind.TheVariants.{UndefinedVariable, UndefinedFunction, UndefinedCapture, UnboundVariable, UnboundFunction, UnboundCapture, InvalidTarget, MethodWithoutSelf}

abbrev pub kind_number : FaultKind → ℕ
kind_number UndefinedVariable = 8
kind_number UndefinedFunction = 9
kind_number UndefinedCapture = 10
kind_number UnboundVariable = 11
kind_number UnboundFunction = 12
kind_number UnboundCapture = 13
kind_number InvalidTarget = 14
kind_number MethodWithoutSelf = 15
