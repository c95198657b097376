-- The slots of rows as a list: the line and the kind of each fault. And the list that they have to be.
use Rattle.std.specs.Prelude.{ℕ, zero, suc, List, [], ◌∷◌, ◌++◌, map}
use Rattle.spec_faults.specs.Faults.{Fault}
use Rattle.work_marks.specs.MarksModel.{slot_at}

pub record Key : Type 0 where
  pub line : ℕ
  pub kind : ℕ

-- a slot that is not 0
abbrev pub key_of : ℕ → ℕ → List Key
key_of n zero = []
key_of n (suc k) = record { line = n; kind = suc k } ∷ []

-- from row i on, of k rows; row i is line i + 2
abbrev pub slots_from : List ℕ → ℕ → ℕ → List Key
slots_from w i zero = []
slots_from w i (suc k) = key_of (suc (suc i)) (slot_at w i) ++ slots_from w (suc i) k

abbrev pub keys : List Fault → List Key
keys fs = map (λ (f : Fault). record { line = f.line; kind = f.kind }) fs
