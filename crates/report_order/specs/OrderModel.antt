-- The faults in the report's order, from the slots: at each row those that have it as their place. A fault is one number: its kind, the row whose
-- span it shows, and the row whose name it shows.
use Rattle.std.specs.Prelude.{ℕ, zero, suc, ◌+◌, ◌*◌, ◌-◌, ◌/◌, ◌%◌, Bool, cond, ◌&&◌, ◌||◌, List, [], ◌∷◌, ◌++◌, eqb, leb, ltb, get_or, Option, Some, None, not}
use Rattle.std.specs.List.{list_any, range_with_len}
use Rattle.spec_faults.specs.Faults.{capture}
use Rattle.spec_faults.specs.declared.fault_kind.FaultKind.{FaultKind}
use Rattle.spec_faults.specs.Kinds.{kind_number}
use Rattle.work_rows.specs.Layout.{put, rows_most, kind_at, lines_below, after_row}
use Rattle.work_marks.specs.MarksModel.{slot_at}
use Rattle.work_marks.specs.Signs.{fault_of}
use Rattle.report_order.specs.declared.Around.{Around}
use Rattle.report_order.specs.declared.Entry.{Entry}

-- where the entries stand
abbrev pub entry_base : ℕ
entry_base = 12_288

abbrev pub entry : ℕ → ℕ → ℕ → ℕ
entry kind of row = 67_108_864 * kind + 8_192 * of + row

-- the fault of row i, and none past the last row: there the entries stand
abbrev pub fault_in : List ℕ → ℕ → Option FaultKind
fault_in w i = cond (ltb i rows_most) (fault_of (slot_at w i)) None

-- the number of its kind, or 0
abbrev pub number_of : Option FaultKind → ℕ
number_of None = 0
number_of (Some k) = kind_number k

abbrev pub slot_in : List ℕ → ℕ → ℕ
slot_in w i = number_of (fault_in w i)

-- the captures of the lambda at row p: of row i, and of n rows from row i on
unfoldable pub captured : List ℕ → ℕ → ℕ → List ℕ
captured w p i = cond (capture (slot_in w i)) (entry (slot_in w i) p i ∷ []) []

unfoldable pub captures : List ℕ → ℕ → ℕ → ℕ → List ℕ
captures w p zero i = []
captures w p (suc n) i = captured w p i ++ captures w p n (i + 1)

-- the callee of the call at row p
unfoldable pub called : List ℕ → ℕ → List ℕ
called w p = cond (eqb (slot_in w (p + 1)) 9 || eqb (slot_in w (p + 1)) 12) (entry (slot_in w (p + 1)) p (p + 1) ∷ []) []

-- row p itself; a method's span is that of the class at row c
unfoldable pub itself : List ℕ → ℕ → ℕ → List ℕ
itself w c p =
    cond (eqb (slot_in w p) 8 || (eqb (slot_in w p) 11 || eqb (slot_in w p) 14)) (entry (slot_in w p) p p ∷ [])
    (cond (eqb (slot_in w p) 15) (entry 15 c p ∷ []) [])

-- what is around row p: the row after the outermost lambda, the outermost class, the row after it
abbrev pub nowhere : Around
nowhere = record { lambda = 0; class = 0; end = 0 }

-- 28 lambda, 13 class
abbrev pub new_lambda : List ℕ → Around → ℕ → Bool
new_lambda w x p = eqb (kind_at w p) 28 && leb x.lambda p

abbrev pub new_class : List ℕ → Around → ℕ → Bool
new_class w x p = eqb (kind_at w p) 13 && leb x.end p

unfoldable pub around : List ℕ → Around → ℕ → Around
around w x p =
    record {
      lambda = cond (new_lambda w x p) (after_row w p) x.lambda;
      class = cond (new_class w x p) p x.class;
      end = cond (new_class w x p) (after_row w p) x.end;
    }

-- the row itself, then the rows below it, in the order of their lines; 21 call
unfoldable pub placed_at : List ℕ → Around → ℕ → List ℕ
placed_at w x p =
    itself w (around w x p).class p
    ++ (cond (new_lambda w x p) (captures w p (lines_below w p) (p + 1)) [] ++ cond (eqb (kind_at w p) 21) (called w p) [])

-- of n rows from row p on
unfoldable pub entries_from : List ℕ → Around → ℕ → ℕ → List ℕ
entries_from w x zero p = []
entries_from w x (suc n) p = placed_at w x p ++ entries_from w (around w x p) n (p + 1)

-- of the rows from `first` up to `rows`
abbrev pub entries : List ℕ → ℕ → ℕ → List ℕ
entries w first rows = entries_from w nowhere (rows - first) first

-- ---- they are written where the stamps were, from the j-th on
unfoldable pub stored : List ℕ → ℕ → List ℕ → List ℕ
stored [] j w = w
stored (e ∷ es) j w = stored es (j + 1) (put w (entry_base + j) e)

-- the entry of a number, and the j-th
abbrev pub entry_of : ℕ → Entry
entry_of n = record { kind = n / 67_108_864; of = n / 8_192 % 8_192; row = n % 8_192 }

abbrev pub entry_at : List ℕ → ℕ → Entry
entry_at w j = entry_of (get_or w (entry_base + j) 0)

-- ---- whether a slot has a fault
-- of n rows from row i on
unfoldable pub any_slot : List ℕ → ℕ → ℕ → Bool
any_slot w n i = list_any (λ j. not (eqb (slot_at w j) 0)) (range_with_len i n)

-- of the rows from `first` up to `rows`
abbrev pub any_fault : List ℕ → ℕ → ℕ → Bool
any_fault w first rows = any_slot w (rows - first) first
