-- A def's own names, in the order in which they are noted: each with the first row at which that binding counts as assigned. And how the
-- names of its rows stand to them: the flags.
use Rattle.std.specs.Prelude.{ℕ, suc, ◌+◌, ◌≤◌, ◌<◌, ◌≡◌, Bool, cond, ◌&&◌, List, [], ◌∷◌, ◌++◌, map, leb, get_or}
use Rattle.spec_text.specs.Bytes.{Bytes, Part, same, any}
use Rattle.spec_text.specs.Tree.{Line, Expr, Exprs, Stmt, Stmts, var, node, access, tuple, call, lambda, enil, econs, simple, assign, block, choice, for, def, class, snil, scons, len_e, len_es, len_s, len_ss}
use Rattle.work_rows.specs.Rows.{Row}
use Rattle.read_tree.specs.Laid.{no_row}
use Rattle.work_marks.specs.MarksModel.{never}

pub record Note : Type 0 where
  pub name : Part
  pub from : ℕ

abbrev pub note : ℕ → Part → Note
note from x = record { name = x; from = from }

-- of a part that begins at row i
abbrev mutual
  pub notes_t : Expr → ℕ → List Note
  notes_t (var l) i = note (suc i) l.name ∷ []
  notes_t (node l es) i = []
  notes_t (access l es) i = []
  notes_t (tuple l es) i = notes_ts es (suc i)
  notes_t (call l f es) i = []
  notes_t (lambda l e) i = []

  pub notes_ts : Exprs → ℕ → List Note
  notes_ts enil i = []
  notes_ts (econs e es) i = notes_t e i ++ notes_ts es (i + len_e e)

abbrev mutual
  pub notes_s : Stmt → ℕ → List Note
  notes_s (simple l es) i = []
  notes_s (assign l e t) i = notes_t t (suc i + len_e e)
  notes_s (block l c b) i = notes_ss b (suc i + len_e c)
  notes_s (choice l c b k e) i =
      notes_ss b (suc i + len_e c) ++ (notes_ss k (suc i + len_e c + len_ss b) ++ notes_ss e (suc i + len_e c + len_ss b + len_ss k))
  notes_s (for l e b) i = note (suc i + len_e e) l.name ∷ notes_ss b (suc i + len_e e)
  notes_s (def l b) i = note never l.name ∷ []
  notes_s (class l ms ats) i = note never l.name ∷ []

  pub notes_ss : Stmts → ℕ → List Note
  notes_ss snil i = []
  notes_ss (scons s ss) i = notes_s s i ++ notes_ss ss (i + len_s s)

-- of the def at row i, with its body
abbrev pub notes_d : Line → Stmts → ℕ → List Note
notes_d l b i = map (note (suc i)) l.params ++ notes_ss b (suc i)

-- x is among the names
abbrev pub note_of : List Note → Bytes → Bool
note_of ns x = any (λ (n : Note). same x n.name.bytes) ns

-- x is assigned at row r
abbrev pub assigned_by : List Note → Bytes → ℕ → Bool
assigned_by ns x r = any (λ (n : Note). leb n.from r && same x n.name.bytes) ns

-- how the name x stands to the def at row r: 0 none of its own names, 1 one that is assigned there, 2 one that is not
abbrev pub flag_of : List Note → Bytes → ℕ → ℕ
flag_of ns x r = cond (note_of ns x) (cond (assigned_by ns x r) 1 2) 0

-- what a def is opened with: its own names, and the flags that the rows have then
pub record OwnNames : Type 0 where
  pub notes : List Note
  pub flags : ℕ → ℕ

-- where no def is opened
abbrev pub no_own_names : OwnNames
no_own_names = record { notes = []; flags = λ _. 0 }

module _ (rows : List Row) (o : OwnNames) where
  -- each `var` from row i up to row m has its flag
  abbrev pub Told : ℕ → ℕ → Type 0
  Told i m = (k : ℕ) → i ≤ k → k < m → (get_or rows k no_row).line.word ≡ 17 → o.flags k ≡ flag_of o.notes (get_or rows k no_row).line.name.bytes k

  -- of a part that begins at row i: but for nested defs and classes
  abbrev mutual
    pub ToldS : Stmt → ℕ → Type 0
    ToldS (simple l es) i = Told i (i + suc (len_es es))
    ToldS (assign l e t) i = Told i (i + suc (len_e e + len_e t))
    ToldS (block l c b) i = Told i (suc i + len_e c) × ToldSs b (suc i + len_e c)
    ToldS (choice l c b k e) i =
        Told i (suc i + len_e c) × (ToldSs b (suc i + len_e c) × (ToldSs k (suc i + len_e c + len_ss b) × ToldSs e (suc i + len_e c + len_ss b + len_ss k)))
    ToldS (for l e b) i = Told i (suc i + len_e e) × ToldSs b (suc i + len_e e)
    ToldS (def l b) i = Unit
    ToldS (class l ms ats) i = Unit

    pub ToldSs : Stmts → ℕ → Type 0
    ToldSs snil i = Unit
    ToldSs (scons s ss) i = ToldS s i × ToldSs ss (i + len_s s)
