-- The numbers of kinds are those from 8 to 15, and the kind of such a number has it.
use Rattle.std.proofs.Common.{ℕ, zero, suc, ◌+◌, ◌-◌, ◌≤◌, ◌<◌, ◌≡◌, refl, arith}
use Rattle.spec_faults.specs.declared.fault_kind.FaultKind.{FaultKind}
use Rattle.spec_faults.specs.declared.fault_kind.FaultKind.TheVariants.{UndefinedVariable, UndefinedFunction, UndefinedCapture, UnboundVariable, UnboundFunction, UnboundCapture, InvalidTarget, MethodWithoutSelf}
use Rattle.spec_faults.specs.Kinds.{kind_number}
use Rattle.spec_faults.specs.KindsModel.{kind_by_number}

pub from_eight : (k : FaultKind) → (8 ≤ kind_number k) × (kind_number k ≤ 15)
from_eight UndefinedVariable = (omega arith, omega arith)
from_eight UndefinedFunction = (omega arith, omega arith)
from_eight UndefinedCapture = (omega arith, omega arith)
from_eight UnboundVariable = (omega arith, omega arith)
from_eight UnboundFunction = (omega arith, omega arith)
from_eight UnboundCapture = (omega arith, omega arith)
from_eight InvalidTarget = (omega arith, omega arith)
from_eight MethodWithoutSelf = (omega arith, omega arith)

by_eight : (j : ℕ) → j < 8 → kind_number (kind_by_number (8 + j)) ≡ 8 + j
by_eight zero l = refl
by_eight (suc zero) l = refl
by_eight (suc (suc zero)) l = refl
by_eight (suc (suc (suc zero))) l = refl
by_eight (suc (suc (suc (suc zero)))) l = refl
by_eight (suc (suc (suc (suc (suc zero))))) l = refl
by_eight (suc (suc (suc (suc (suc (suc zero)))))) l = refl
by_eight (suc (suc (suc (suc (suc (suc (suc zero))))))) l = refl
by_eight (suc (suc (suc (suc (suc (suc (suc (suc j)))))))) l = absurd (omega arith)

pub number_again : (n : ℕ) → 8 ≤ n → n ≤ 15 → kind_number (kind_by_number n) ≡ n
number_again n l m = let e : 8 + (n - 8) ≡ n = omega arith in rw e at (by_eight (n - 8) (omega arith))

-- a kind is that of its number
pub kind_again : (k : FaultKind) → kind_by_number (kind_number k) ≡ k
kind_again UndefinedVariable = refl
kind_again UndefinedFunction = refl
kind_again UndefinedCapture = refl
kind_again UnboundVariable = refl
kind_again UnboundFunction = refl
kind_again UnboundCapture = refl
kind_again InvalidTarget = refl
kind_again MethodWithoutSelf = refl
