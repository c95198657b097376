-- Reading with no recursion: an agenda says what is due, the next thing first. A turn takes the next line, writes its row, and puts the
-- lines that are due below it on the agenda; when they are read, the row gets their number.
use Rattle.std.specs.Prelude.{ℕ, zero, suc, pred, cond, List, [], ◌∷◌, ◌++◌, ◌≡◌, eqb, length}
use Rattle.std.proofs.Math.Option.{Option, none, some}
use Rattle.spec_text.specs.Tree.{Tree}
use Rattle.spec_text.specs.Lines.{Form, sort_of}
use Rattle.spec_text.specs.Reading.{Rest, Read, got, Due, line, too_deep, and_then, globals, stmts, stmt, deepest}
use Rattle.work_rows.specs.Rows.{Row, row, rows_t}
use Rattle.read_words.specs.declared.Children.{Children}
use Rattle.read_words.specs.ChildrenModel.{children_in}

-- `run s n d`: n lines of sort s are due, with d levels left for each; `close i`: what is below row i has been read
pub data Entry : Type 0 where
  run : ℕ → ℕ → ℕ → Entry
  close : ℕ → Entry

abbrev pub due : ℕ → ℕ → ℕ → List Entry → List Entry
due s zero d more = more
due s (suc n) d more = run s (suc n) d ∷ more

-- all of them, with d levels left, and then what else there is
abbrev pub due_below : Children → ℕ → List Entry → List Entry
due_below c d more =
    due 6 c.exprs d (due 5 c.stmts d (due 2 c.elifs d (due 5 c.others d (due 3 c.methods d (due 4 c.attrs d more)))))

-- ---- a turn
pub record State : Type 0 where
  pub agenda : List Entry
  pub rest : Rest
  pub rows : List Row

pub data Phase : Type 0 where
  on : State → Phase
  stopped : ℕ → ℕ → Phase

-- row i gets the number of rows after it
abbrev pub close_at : ℕ → List Row → List Row
close_at i [] = []
close_at zero (x ∷ rows) = row x.line (length rows) ∷ rows
close_at (suc i) (x ∷ rows) = x ∷ close_at i rows

abbrev pub of_sort : ℕ → Form → Option Form
of_sort s f = cond (eqb s (sort_of f)) (some f) none

-- a line of the sort that is due
abbrev pub line_due : ℕ → ℕ → Rest → Read (Due Form)
line_due s zero r = too_deep r.number (line (of_sort s) r)
line_due s (suc d) r = line (of_sort s) r

abbrev pub line_opened : Read (Due Form) → ℕ → List Entry → List Row → Phase
line_opened (got l r) d more rows =
    on (record { agenda = due_below (children_in l.parsed) d (close (length rows) ∷ more); rest = r; rows = rows ++ (row l.parsed.line 0 ∷ []) })
line_opened (Read.refused k n) d more rows = stopped k n

abbrev pub turned : List Entry → Rest → List Row → Phase
turned [] r rows = on (record { agenda = []; rest = r; rows = rows })
turned (close i ∷ more) r rows = on (record { agenda = more; rest = r; rows = close_at i rows })
turned (run s zero d ∷ more) r rows = on (record { agenda = more; rest = r; rows = rows })
turned (run s (suc n) d ∷ more) r rows = line_opened (line_due s d r) (pred d) (due s n d more) rows

abbrev pub turn : State → Phase
turn s = turned s.agenda s.rest s.rows

-- ---- turn after turn
pub data Via : State → Phase → Type 0 where
  here : {s : State} → Via s (on s)
  step : {s t : State} {p : Phase} → turn s ≡ on t → Via t p → Via s p
  stop : {s : State} {k n : ℕ} → turn s ≡ stopped k n → Via s (stopped k n)

-- the agenda of a text whose first line has these counts
abbrev pub first : ℕ → ℕ → Rest → State
first g k r = record { agenda = due 1 g deepest (due 5 k deepest []); rest = r; rows = [] }

-- turns lead to where a reading leads
abbrev pub Leads : State → Read Tree → Type 0
Leads s (got t r) = Via s (on (record { agenda = []; rest = r; rows = rows_t t }))
Leads s (Read.refused k n) = Via s (stopped k n)

-- what is read after the first line
abbrev pub after : ℕ → ℕ → Rest → Read Tree
after g k r = and_then (globals g r) (λ gs r. and_then (stmts (stmt deepest) k r) (λ ss r. got (record { globals = gs; body = ss }) r))
