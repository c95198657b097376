-- The rows of a tree: each line in the text's order, with the number of lines below it.
use Rattle.std.specs.Prelude.{ℕ, ◌+◌, List, [], ◌∷◌, ◌++◌, map}
use Rattle.spec_text.specs.Bytes.{Part}
use Rattle.spec_text.specs.Tree.{Line, Expr, Exprs, Attrs, Stmt, Stmts, Methods, Tree, len_e, len_es, len_as, len_ss, len_ms, var, node, access, tuple, call, lambda, enil, econs, anil, acons, simple, assign, block, choice, for, def, class, snil, scons, mnil, mcons}

pub record Row : Type 0 where
  pub line : Line
  pub below : ℕ

abbrev pub row : Line → ℕ → Row
row l n = record { line = l; below = n }

abbrev mutual
  pub rows_e : Expr → List Row
  rows_e (var l) = row l 0 ∷ []
  rows_e (node l es) = row l (len_es es) ∷ rows_es es
  rows_e (access l es) = row l (len_es es) ∷ rows_es es
  rows_e (tuple l es) = row l (len_es es) ∷ rows_es es
  rows_e (call l f es) = row l (len_e f + len_es es) ∷ (rows_e f ++ rows_es es)
  rows_e (lambda l e) = row l (len_e e) ∷ rows_e e

  pub rows_es : Exprs → List Row
  rows_es enil = []
  rows_es (econs e es) = rows_e e ++ rows_es es

abbrev pub rows_as : Attrs → List Row
rows_as anil = []
rows_as (acons l e ats) = row l (len_e e) ∷ (rows_e e ++ rows_as ats)

abbrev mutual
  pub rows_s : Stmt → List Row
  rows_s (simple l es) = row l (len_es es) ∷ rows_es es
  rows_s (assign l e t) = row l (len_e e + len_e t) ∷ (rows_e e ++ rows_e t)
  rows_s (block l c b) = row l (len_e c + len_ss b) ∷ (rows_e c ++ rows_ss b)
  rows_s (choice l c b k e) = row l (len_e c + (len_ss b + (len_ss k + len_ss e))) ∷ (rows_e c ++ (rows_ss b ++ (rows_ss k ++ rows_ss e)))
  rows_s (for l e b) = row l (len_e e + len_ss b) ∷ (rows_e e ++ rows_ss b)
  rows_s (def l b) = row l (len_ss b) ∷ rows_ss b
  rows_s (class l ms ats) = row l (len_ms ms + len_as ats) ∷ (rows_ms ms ++ rows_as ats)

  pub rows_ss : Stmts → List Row
  rows_ss snil = []
  rows_ss (scons s ss) = rows_s s ++ rows_ss ss

  pub rows_ms : Methods → List Row
  rows_ms mnil = []
  rows_ms (mcons l b ms) = row l (len_ss b) ∷ (rows_ss b ++ rows_ms ms)

-- a `global` line has nothing but its word and its name
abbrev pub global_row : Part → Row
global_row p = row (record { word = 1; start = 0; end = 0; name = p; params = [] }) 0

-- the lines after the first
abbrev pub rows_t : Tree → List Row
rows_t t = map global_row t.globals ++ rows_ss t.body
