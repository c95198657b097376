-- What a slot and a flag say.
use Rattle.std.specs.Prelude.{ℕ, cond, ◌&&◌, eqb, leb, Option, Some, None}
use Rattle.spec_faults.specs.declared.fault_kind.FaultKind.{FaultKind}
use Rattle.spec_faults.specs.KindsModel.{kind_by_number}
use Rattle.work_marks.specs.declared.own.Own.{Own}
use Rattle.work_marks.specs.declared.own.Own.TheVariants.{NotOwn, Assigned, Unassigned}

-- a slot: the number of a kind, 8 to 15, or 0 where there is no fault
abbrev pub fault_of : ℕ → Option FaultKind
fault_of n = cond (leb 8 n && leb n 15) (Some (kind_by_number n)) None

-- a flag
abbrev pub own_number : Own → ℕ
own_number NotOwn = 0
own_number Assigned = 1
own_number Unassigned = 2

-- any other number stands for no own name
abbrev pub own_by_number : ℕ → Own
own_by_number n = cond (eqb n 1) Assigned (cond (eqb n 2) Unassigned NotOwn)
