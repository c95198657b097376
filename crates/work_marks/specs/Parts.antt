-- A part of a number of the work buffer: what stands below it is less than `below`, and it has so many values.
use Rattle.std.specs.Prelude.{ℕ, ◌+◌, ◌*◌, ◌/◌, ◌%◌, cond, List, ltb, get_or}
use Rattle.work_rows.specs.Layout.{put, rows_most}
use Rattle.work_marks.specs.declared.bits.Bits.{Bits}

abbrev pub part_at : Bits → List ℕ → ℕ → ℕ
part_at p w i = get_or w (p.base + i) 0 / p.below % p.values

abbrev pub put_part : Bits → List ℕ → ℕ → ℕ → List ℕ
put_part p w i v =
    put w (p.base + i)
    (get_or w (p.base + i) 0 % p.below + p.below * (v % p.values) + p.below * p.values * (get_or w (p.base + i) 0 / (p.below * p.values)))

-- as a mark: it only grows; 4,096 is the number of no name
unfoldable pub raised_part : Bits → List ℕ → ℕ → ℕ → List ℕ
raised_part p w a e = cond (ltb a rows_most) (cond (ltb (part_at p w a) e) (put_part p w a (e % 8_192)) w) w
