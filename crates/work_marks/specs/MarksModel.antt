-- What the walk keeps in the bits that the rows and the names leave free. A name goes by its number, a block by the row after its last.
--   i           131072 * lambda end               the outermost lambda, of those around, that has the name i as a parameter
--   8192 + i    8192 * block end                  the outermost block, of those around, that binds the name i
--               67108864 * slot                   the kind of row i's fault, or 0
--   12288 + i   stamp                             the row from which the name i is assigned in the def whose own names are being gathered
--               8192 * flag                       how the name of the `var` at row i stands to the def around: 0 none of its own names,
--                                                 1 one that is assigned there, 2 one that is not
--               8192 * link                       in its place, of the def or method at row i: the row of the scope around
use Rattle.std.specs.Prelude.{ℕ, ◌+◌, ◌*◌, ◌/◌, ◌%◌, cond, List, ltb, get_or}
use Rattle.work_rows.specs.Layout.{put, rows_most, head_base}
use Rattle.work_rows.specs.LoopsModel.{rows_to, next_row}

-- ---- marks: a name is open at a row before the end of its mark
abbrev pub lambda_end : List ℕ → ℕ → ℕ
lambda_end w a = get_or w a 0 / 131_072

abbrev pub block_end : List ℕ → ℕ → ℕ
block_end w a = get_or w (head_base + a) 0 / 8_192 % 8_192

abbrev pub put_lambda_end : List ℕ → ℕ → ℕ → List ℕ
put_lambda_end w a e = put w a (get_or w a 0 % 131_072 + 131_072 * (e % 8_192))

abbrev pub put_block_end : List ℕ → ℕ → ℕ → List ℕ
put_block_end w a e =
    put w (head_base + a) (get_or w (head_base + a) 0 % 8_192 + 8_192 * (e % 8_192) + 67_108_864 * (get_or w (head_base + a) 0 / 67_108_864))

-- a mark only grows; 4,096 is the number of no name
unfoldable pub raised_lambda : List ℕ → ℕ → ℕ → List ℕ
raised_lambda w a e = cond (ltb a rows_most) (cond (ltb (lambda_end w a) e) (put_lambda_end w a e) w) w

unfoldable pub raised_block : List ℕ → ℕ → ℕ → List ℕ
raised_block w a e = cond (ltb a rows_most) (cond (ltb (block_end w a) e) (put_block_end w a e) w) w

-- ---- slots
abbrev pub slot_at : List ℕ → ℕ → ℕ
slot_at w i = get_or w (head_base + i) 0 / 67_108_864

unfoldable pub put_slot : List ℕ → ℕ → ℕ → List ℕ
put_slot w i k = put w (head_base + i) (get_or w (head_base + i) 0 % 67_108_864 + 67_108_864 * (k % 16))

-- ---- stamps, flags and links
abbrev pub stamp_base : ℕ
stamp_base = 12_288

abbrev pub stamp_at : List ℕ → ℕ → ℕ
stamp_at w a = get_or w (stamp_base + a) 0 % 8_192

abbrev pub put_stamp : List ℕ → ℕ → ℕ → List ℕ
put_stamp w a from = put w (stamp_base + a) (from % 8_192 + 8_192 * (get_or w (stamp_base + a) 0 / 8_192))

abbrev pub flag_at : List ℕ → ℕ → ℕ
flag_at w i = get_or w (stamp_base + i) 0 / 8_192

abbrev pub put_flag : List ℕ → ℕ → ℕ → List ℕ
put_flag w i f = put w (stamp_base + i) (get_or w (stamp_base + i) 0 % 8_192 + 8_192 * (f % 524_288))

-- a link stands where a `var` has its flag
abbrev pub link_at : List ℕ → ℕ → ℕ
link_at w i = flag_at w i

abbrev pub put_link : List ℕ → ℕ → ℕ → List ℕ
put_link w i row = put_flag w i row

-- a row that no read is at or after: bound, and never assigned
abbrev pub never : ℕ
never = 8_191

-- ---- what is left of the first rows: of a third number the head, of a fourth nothing
abbrev pub bare : ℕ → List ℕ → List ℕ
bare i w = put w (head_base + i) (get_or w (head_base + i) 0 % 8_192)

abbrev pub unmarked : ℕ → List ℕ → List ℕ
unmarked rows w = rows_to next_row bare 0 rows w

abbrev pub blank : ℕ → List ℕ → List ℕ
blank i w = put w (stamp_base + i) 0

abbrev pub unstamped : ℕ → List ℕ → List ℕ
unstamped rows w = rows_to next_row blank 0 rows w
