-- The reader as it runs: the agenda is a stack in the work buffer. What each function does to the numbers, in the code's own steps.
use Rattle.std.specs.Prelude.{ℕ, ◌+◌, ◌-◌, ◌*◌, ◌/◌, ◌%◌, ◌≤◌, ◌<◌, cond, not, ◌||◌, List, ◌≡◌, eqb, leb, ltb, length, get_or, drop, Option, None, Some, Result, Ok, Err}
use Rattle.spec_text.specs.Bytes.{Bytes}
use Rattle.spec_text.specs.SortsModel.{sort_number}
use Rattle.spec_text.specs.Reading.{Rest, most_lines, most_params, deepest}
use Rattle.spec_text.specs.declared.refusal.Refusal.{Refusal}
use Rattle.spec_text.specs.declared.refusal.Refusal.TheVariants.{LineMissing, LineLeft, Malformed, NotDue, OverLimit}
use Rattle.spec_text.specs.declared.refusal.Refused.{Refused}
use Rattle.read_line.specs.LineModel.{line_at}
use Rattle.read_line.specs.declared.Line.{Line}
use Rattle.work_rows.specs.Layout.{put, kind_at}
use Rattle.read_agenda.specs.StackModel.{agenda_base, Stack, stack, pushed, pushed_due, lessened}
use Rattle.read_names.specs.ChainsModel.{placed, added, cleared}
use Rattle.read_words.specs.ChildrenModel.{children_by}
use Rattle.read_tree.specs.Laid.{skip}
use Rattle.read_tree.specs.declared.Tree.{Tree}

-- ---- a line that is due, or its refusal: 3, 5, 6 or 7, in this order; line n, with d levels left
abbrev pub refused_for : {A : Type 0} → Refusal → ℕ → Result A Refused
refused_for why n = Err (record { why = why; line = n })

abbrev pub due_line : Line → ℕ → ℕ → ℕ → Result Line Refused
due_line l sort n d =
    cond (not (eqb (sort_number l.sort) sort)) (refused_for NotDue n)
    (cond (ltb (most_lines + 1) n || (ltb most_params l.params || eqb d 0)) (refused_for OverLimit n) (Ok l))

abbrev pub due_if : Option Line → ℕ → ℕ → ℕ → Result Line Refused
due_if (Some l) sort n d = due_line l sort n d
due_if None sort n d = refused_for Malformed n

unfoldable pub due_at : Bytes → ℕ → ℕ → ℕ → ℕ → Result Line Refused
due_at text at sort n d = cond (leb (length text) at) (refused_for LineMissing n) (due_if (line_at text at) sort n d)

-- ---- rows
unfoldable pub row_written : Bytes → ℕ → ℕ → Line → List ℕ → List ℕ
row_written text i at l w = cond (eqb l.name.len 0) (placed (put w i l.kind) i at) (added text (put w i l.kind) i l.name.offset l.name.len l.hash)

unfoldable pub row_closed : ℕ → ℕ → List ℕ → List ℕ
row_closed i rows w = put w i (kind_at w i + 32 * (rows - (i + 1)))

-- ---- a turn
-- how far the reading is: the numbers, the offset of the next line, the rows written, and the entries of the agenda
pub record Machine : Type 0 where
  pub work : List ℕ
  pub at : ℕ
  pub rows : ℕ
  pub top : ℕ

abbrev pub machine : List ℕ → ℕ → ℕ → ℕ → Machine
machine w at rows top = record { work = w; at = at; rows = rows; top = top }

abbrev pub onward : Machine → Line → Stack → Machine
onward m l x = machine x.work l.next (m.rows + 1) x.top

abbrev pub below : Bytes → ℕ → ℕ → Line → Machine → Stack
below text e d l m =
    pushed_due m.rows (children_by l.kind l.count0 l.count1 l.count2) (d - 1)
    (lessened e (stack (row_written text m.rows m.at l m.work) m.top))

abbrev pub taken_if : Bytes → ℕ → ℕ → Result Line Refused → Machine → Result Machine Refused
taken_if text e d (Ok l) m = Ok (onward m l (below text e d l m))
taken_if text e d (Err r) m = Err r

-- the next line is taken, which is due by the entry e
unfoldable pub taken : Bytes → ℕ → Machine → Result Machine Refused
taken text e m = taken_if text e (e / 8 % 128) (due_at text m.at (e % 8) (m.rows + 2) (e / 8 % 128)) m

abbrev pub entry_of : Machine → ℕ
entry_of m = get_or m.work (agenda_base + m.top - 1) 0

abbrev pub turn_by : Bytes → ℕ → Machine → Result Machine Refused
turn_by text e m =
    cond (eqb (e % 8) 7)
    (Ok (machine (row_closed (e / 1_024) m.rows m.work) m.at m.rows (m.top - 1)))
    (taken text e m)

unfoldable pub turn_of : Bytes → Machine → Result Machine Refused
turn_of text m = turn_by text (entry_of m) m

-- turns until nothing is due, or a line is refused
pub data Turns (text : Bytes) : Machine → Result Machine Refused → Type 0 where
  done : {m : Machine} → m.top ≡ 0 → Turns text m (Ok m)
  more : {m n : Machine} {x : Result Machine Refused} → 0 < m.top → turn_of text m ≡ Ok n → Turns text n x → Turns text m x
  out : {m : Machine} {e : Refused} → 0 < m.top → turn_of text m ≡ Err e → Turns text m (Err e)

-- the start, after a first line with these counts that ends before an offset
unfoldable pub first_machine : ℕ → ℕ → ℕ → List ℕ → Machine
first_machine globals stmts at w =
    let x = pushed 1 globals deepest (pushed 5 stmts deepest (stack (cleared w) 0)) in
    machine x.work at 0 x.top

-- the rest of the text from an offset on, where line n starts
abbrev pub rest_at : Bytes → ℕ → ℕ → Rest
rest_at text at n = record { bytes = drop at text; offset = at; number = n }

-- a first line: its counts are small, and the next line starts after the first line end
pub record First (text : Bytes) (l : Line) : Type 0 where
  pub globals : l.count0 ≤ 4_096
  pub stmts : l.count1 ≤ 4_096
  pub start : skip 1 0 text ≡ l.next
  pub inside : l.next ≤ length text

-- the answer where the turns end: refusal 4 where a line is left
abbrev pub answer_at : Bytes → ℕ → Result Machine Refused → Result Tree Refused
answer_at text globals (Ok m) = cond (ltb m.at (length text)) (refused_for LineLeft (m.rows + 2)) (Ok (record { globals = globals; lines = m.rows }))
answer_at text globals (Err e) = Err e
