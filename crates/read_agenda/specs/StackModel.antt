-- The agenda as a stack in the work buffer: what each function does to the numbers, in the code's own steps.
use Rattle.std.specs.Prelude.{ℕ, ◌+◌, ◌-◌, ◌*◌, ◌/◌, Bool, cond, List, eqb, leb}
use Rattle.work_rows.specs.Layout.{put}
use Rattle.read_words.specs.declared.Children.{Children}

-- an entry is sort + 8 * levels + 1024 * count, or 7 + 1024 * row to close a row
-- where the agenda stands
abbrev pub agenda_base : ℕ
agenda_base = 12_288

pub record Stack : Type 0 where
  pub work : List ℕ
  pub top : ℕ

abbrev pub stack : List ℕ → ℕ → Stack
stack w top = record { work = w; top = top }

abbrev pub run_word : ℕ → ℕ → ℕ → ℕ
run_word s n d = s + 8 * d + 1_024 * n

abbrev pub close_word : ℕ → ℕ
close_word i = 7 + 1_024 * i

unfoldable pub pushed : ℕ → ℕ → ℕ → Stack → Stack
pushed s n d x = cond (eqb n 0) x (stack (put x.work (agenda_base + x.top) (run_word s n d)) (x.top + 1))

abbrev pub pushed_close : ℕ → Stack → Stack
pushed_close i x = stack (put x.work (agenda_base + x.top) (close_word i)) (x.top + 1)

unfoldable pub pushed_below : ℕ → Children → ℕ → Stack → Stack
pushed_below i c d x =
    pushed 6 c.exprs d (pushed 5 c.stmts d (pushed 2 c.elifs d (pushed 5 c.others d (pushed 3 c.methods d (pushed 4 c.attrs d (pushed_close i x))))))

-- nothing is due below a line: it needs no closing
unfoldable pub is_leaf : Children → Bool
is_leaf c = eqb (c.exprs + (c.stmts + (c.elifs + (c.others + (c.methods + c.attrs))))) 0

unfoldable pub pushed_due : ℕ → Children → ℕ → Stack → Stack
pushed_due i c d x = cond (is_leaf c) x (pushed_below i c d x)

-- one of the lines of the entry e, which is on top, is taken
unfoldable pub lessened : ℕ → Stack → Stack
lessened e x = cond (leb (e / 1_024) 1) (stack x.work (x.top - 1)) (stack (put x.work (agenda_base + x.top - 1) (e - 1_024)) x.top)
