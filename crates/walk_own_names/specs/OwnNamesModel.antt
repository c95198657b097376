-- A def's own names: gathered over the rows of its body, each with a stamp, the first row from which it is assigned; then each `var` of the
-- block is flagged, and the stamps are forgotten. Nested defs and classes are stepped over.
use Rattle.std.specs.Prelude.{ℕ, ◌+◌, cond, ◌&&◌, ◌||◌, List, eqb, leb, ltb, Option, None, Some}
use Rattle.work_rows.specs.Layout.{rows_most, kind_at, number_at, after_row}
use Rattle.work_marks.specs.MarksModel.{stamp_at, put_stamp, put_flag, never}
use Rattle.work_rows.specs.LoopsModel.{rows_to}

-- ---- rows that bind a name: 5 def, 13 class, 10 for, 17 a `var` that is a target
-- the row from which the name that row i binds is assigned
abbrev pub assigned_from : List ℕ → ℕ → Option ℕ
assigned_from w i =
    cond (eqb (kind_at w i) 5 || eqb (kind_at w i) 13) (Some never)
    (cond (eqb (kind_at w i) 10) (Some (after_row w (i + 1)))
    (cond (eqb (kind_at w i) 17) (Some (i + 1)) None))

-- `op` is done to the number of the name that row i binds, and to the row from which it is assigned
unfoldable pub row_binds : (ℕ → ℕ → List ℕ → List ℕ) → ℕ → List ℕ → List ℕ
row_binds op i w =
    cond (eqb (kind_at w i) 5 || eqb (kind_at w i) 13) (op (number_at w i) never w)
    (cond (eqb (kind_at w i) 10) (op (number_at w i) (after_row w (i + 1)) w)
    (cond (eqb (kind_at w i) 17) (op (number_at w i) (i + 1) w) w))

-- the next row to look at: after 6 assign, 7 if, 8 elif, 9 while and 10 for, past the expression; after 24 tuple, its first child; else the row
-- after what is below
unfoldable pub next_binding : List ℕ → ℕ → ℕ
next_binding w i =
    cond (leb 6 (kind_at w i) && leb (kind_at w i) 10) (after_row w (i + 1)) (cond (eqb (kind_at w i) 24) (i + 1) (after_row w i))

abbrev pub all_bindings : (ℕ → ℕ → List ℕ → List ℕ) → ℕ → ℕ → List ℕ → List ℕ
all_bindings op at stop w = rows_to next_binding (row_binds op) at stop w

-- the def at row b has the name a of its own, assigned from a row on; a stamp that does not come after row b is an old one
unfoldable pub noted : ℕ → ℕ → ℕ → List ℕ → List ℕ
noted b a from w =
    cond (ltb a rows_most)
    (cond (ltb b (stamp_at w a) && leb (stamp_at w a) from) w (put_stamp w a from))
    w

abbrev pub forgot : ℕ → ℕ → List ℕ → List ℕ
forgot a from w = put_stamp w a 0

-- ---- flags
-- at row i, of a name with this stamp: 0 none of the own names of the def at row b, 1 one that is assigned there, 2 one that is not
abbrev pub flag_for : ℕ → ℕ → ℕ → ℕ
flag_for b i from = cond (leb from b) 0 (cond (ltb i from) 2 1)

unfoldable pub row_flagged : ℕ → ℕ → List ℕ → List ℕ
row_flagged b i w = cond (eqb (kind_at w i) 17) (put_flag w i (flag_for b i (stamp_at w (number_at w i)))) w

unfoldable pub next_in_block : List ℕ → ℕ → ℕ
next_in_block w i = cond (eqb (kind_at w i) 5 || eqb (kind_at w i) 13) (after_row w i) (i + 1)

abbrev pub all_flagged : ℕ → ℕ → ℕ → List ℕ → List ℕ
all_flagged b at stop w = rows_to next_in_block (row_flagged b) at stop w

-- ---- the block of the def at row b, whose parameters are noted
abbrev pub flagged : ℕ → ℕ → ℕ → List ℕ → List ℕ
flagged b first stop w = all_bindings forgot first stop (all_flagged b first stop (all_bindings (noted b) first stop w))
