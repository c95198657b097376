-- What a read does to the work buffer: the kind of its fault goes to its row's slot.
use Rattle.std.specs.Prelude.{ℕ, Bool, true, false, cond, List, eqb, ltb}
use Rattle.spec_faults.specs.Faults.{capture}
use Rattle.work_marks.specs.MarksModel.{lambda_end, raised_lambda, put_slot, flag_at}
use Rattle.walk_scopes.specs.ScopesModel.{Scope, a_def, module', is_defined}
use Rattle.walk_judge.specs.declared.Use.{Use}
use Rattle.walk_judge.specs.declared.Use.TheVariants.{Value, Callee}

abbrev pub is_called : Use → Bool
is_called Value = false
is_called Callee = true

-- "Kind 12 if it is a callee, else 11; under a lambda, 13."
unfoldable pub unbound_kind : ℕ → Bool → ℕ
unbound_kind outer called = cond (eqb outer 0) (cond called 12 11) 13

-- "Under a lambda with the module as home, 10; else 9 for a callee, 8 for the rest."
unfoldable pub undefined_kind : ℕ → ℕ → Bool → ℕ
undefined_kind home outer called = cond (eqb outer 0) (cond called 9 8) (cond (eqb home module') 10 (cond called 9 8))

-- a fault of the name a at row i; a name that a lambda was blamed for counts as its parameter from there on, so that it is blamed once
unfoldable pub faulted : ℕ → ℕ → ℕ → ℕ → List ℕ → List ℕ
faulted outer a i k w = cond (capture k) (raised_lambda (put_slot w i k) a outer) (put_slot w i k)

-- how the name of row i stands to its home, a def; to another home it is no own name
unfoldable pub flag_in : ℕ → List ℕ → ℕ → ℕ
flag_in home w i = cond (eqb home a_def) (flag_at w i) 0

-- 1 an own name that is assigned, 2 one that is not
unfoldable pub read_of : Scope → Bool → ℕ → ℕ → List ℕ → List ℕ
read_of s called a i w =
    cond (ltb i (lambda_end w a)) w
    (cond (eqb (flag_in s.home w i) 1) w
    (cond (eqb (flag_in s.home w i) 2) (faulted s.outer a i (unbound_kind s.outer called) w)
    (cond (is_defined w a i) w (faulted s.outer a i (undefined_kind s.home s.outer called) w))))
