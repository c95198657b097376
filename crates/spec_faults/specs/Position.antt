-- Where the lines of a tree stand: the visited lines in the text's order, each with its block, its home and its use.
-- Nothing here looks at what came before: a line's place follows from the lines around it alone.
use Rattle.std.specs.Prelude.{ℕ, suc, ◌+◌, List, [], ◌∷◌, ◌++◌, map}
use Rattle.spec_text.specs.Tree.{Line, Expr, Exprs, Attrs, Stmt, Stmts, Methods, Tree, var, node, access, tuple, call, lambda, enil, econs, anil, acons, simple, assign, block, choice, for, def, class, snil, scons, mnil, mcons, len_e, len_s, len_ss, len_ms, first_line}

-- a line and its number
pub record Placed : Type 0 where
  pub number : ℕ
  pub line : Line

-- "A *home* is the nearest def, method or module around a line."
pub data Home : Type 0 where
  in_module in_def in_method : Home

-- "*Blocks*: the module, each visited def, method and lambda." A block is known by the number of its line, the module by 1.
-- Where a line stands: the lambdas between it and its home, innermost first; its home, and the home's block; the blocks around that one.
pub record Where : Type 0 where
  pub lambdas : List Placed
  pub home : Home
  pub block : ℕ
  pub around : List ℕ

abbrev pub numbers : List Placed → List ℕ
numbers ps = map (λ (p : Placed). p.number) ps

-- the home's block, and those around it
abbrev pub path : Where → List ℕ
path w = w.block ∷ w.around

-- the block of a line, and those around it
abbrev pub blocks : Where → List ℕ
blocks w = numbers w.lambdas ++ path w

abbrev pub at_module : Where
at_module = record { lambdas = []; home = in_module; block = 1; around = [] }

abbrev pub under_lambda : ℕ → Line → Where → Where
under_lambda n l w =
    record { lambdas = record { number = n; line = l } ∷ w.lambdas; home = w.home; block = w.block; around = w.around }

abbrev pub under_block : Home → ℕ → Where → Where
under_block h n w = record { lambdas = []; home = h; block = n; around = path w }

-- how a `var` is used: for its value, or as the callee of a call
pub data Use : Type 0 where
  value : Use
  callee : Placed → Use

-- What a line is to the rules. "A *read* is a visited `var` not in target position." `is_target`: a `var` in target position.
-- `is_refused`: a line in target position other than var, get, index or tuple. `is_for`: with the first line after its iterable.
-- `is_method`: with the line of its class.
pub data Role : Type 0 where
  is_read : Use → Role
  is_target is_refused is_def is_class is_lambda is_other : Role
  is_for : ℕ → Role
  is_method : Line → Role

-- a visited line
pub record Visited : Type 0 where
  pub number : ℕ
  pub line : Line
  pub role : Role
  pub at : Where

abbrev pub stands : ℕ → Line → Role → Where → Visited
stands n l r w = record { number = n; line = l; role = r; at = w }

-- "*Unvisited*: all under an `attr`; all under a `class` that stands in a def or method body; all under a target refused as kind 14
-- (the refused line itself is visited)."
abbrev pub under_attr : List Visited → List Visited
under_attr ls = []

abbrev pub under_class : Home → List Visited → List Visited
under_class in_module ls = ls
under_class in_def ls = []
under_class in_method ls = []

abbrev pub under_refused : List Visited → List Visited
under_refused ls = []

-- ---- the visited lines of an expression whose first line is n
abbrev mutual
  pub lines_e : Expr → ℕ → Use → Where → List Visited
  lines_e (var l) n u w = stands n l (is_read u) w ∷ []
  lines_e (node l es) n u w = stands n l is_other w ∷ lines_es es (suc n) w
  lines_e (access l es) n u w = stands n l is_other w ∷ lines_es es (suc n) w
  lines_e (tuple l es) n u w = stands n l is_other w ∷ lines_es es (suc n) w
  lines_e (call l f es) n u w =
      stands n l is_other w ∷ (lines_e f (suc n) (callee (record { number = n; line = l })) w ++ lines_es es (suc n + len_e f) w)
  lines_e (lambda l e) n u w = stands n l is_lambda w ∷ lines_e e (suc n) value (under_lambda n l w)

  pub lines_es : Exprs → ℕ → Where → List Visited
  lines_es enil n w = []
  lines_es (econs e es) n w = lines_e e n value w ++ lines_es es (n + len_e e) w

-- "*Target position*: the second child of `assign`, and each child of a tuple in target position."
abbrev mutual
  pub lines_t : Expr → ℕ → Where → List Visited
  lines_t (var l) n w = stands n l is_target w ∷ []
  lines_t (node l es) n w = stands n l is_refused w ∷ under_refused (lines_es es (suc n) w)
  lines_t (access l es) n w = stands n l is_other w ∷ lines_es es (suc n) w
  lines_t (tuple l es) n w = stands n l is_other w ∷ lines_ts es (suc n) w
  lines_t (call l f es) n w = stands n l is_refused w ∷ under_refused (lines_e f (suc n) value w ++ lines_es es (suc n + len_e f) w)
  lines_t (lambda l e) n w = stands n l is_refused w ∷ under_refused (lines_e e (suc n) value (under_lambda n l w))

  pub lines_ts : Exprs → ℕ → Where → List Visited
  lines_ts enil n w = []
  lines_ts (econs e es) n w = lines_t e n w ++ lines_ts es (n + len_e e) w

abbrev pub lines_as : Attrs → ℕ → Where → List Visited
lines_as anil n w = []
lines_as (acons l e ats) n w = stands n l is_other w ∷ (under_attr (lines_e e (suc n) value w) ++ lines_as ats (suc n + len_e e) w)

abbrev mutual
  pub lines_s : Stmt → ℕ → Where → List Visited
  lines_s (simple l es) n w = stands n l is_other w ∷ lines_es es (suc n) w
  lines_s (assign l e t) n w = stands n l is_other w ∷ (lines_e e (suc n) value w ++ lines_t t (suc n + len_e e) w)
  lines_s (block l c b) n w = stands n l is_other w ∷ (lines_e c (suc n) value w ++ lines_ss b (suc n + len_e c) w)
  lines_s (choice l c b k e) n w =
      stands n l is_other w
      ∷ (lines_e c (suc n) value w
      ++ (lines_ss b (suc n + len_e c) w ++ (lines_ss k (suc n + len_e c + len_ss b) w ++ lines_ss e (suc n + len_e c + len_ss b + len_ss k) w)))
  lines_s (for l e b) n w = stands n l (is_for (suc n + len_e e)) w ∷ (lines_e e (suc n) value w ++ lines_ss b (suc n + len_e e) w)
  lines_s (def l b) n w = stands n l is_def w ∷ lines_ss b (suc n) (under_block in_def n w)
  lines_s (class l ms ats) n w =
      stands n l is_class w ∷ under_class w.home (lines_ms ms (suc n) l w ++ lines_as ats (suc n + len_ms ms) w)

  pub lines_ss : Stmts → ℕ → Where → List Visited
  lines_ss snil n w = []
  lines_ss (scons s ss) n w = lines_s s n w ++ lines_ss ss (n + len_s s) w

  pub lines_ms : Methods → ℕ → Line → Where → List Visited
  lines_ms mnil n c w = []
  lines_ms (mcons l b ms) n c w =
      stands n l (is_method c) w ∷ (lines_ss b (suc n) (under_block in_method n w) ++ lines_ms ms (suc n + len_ss b) c w)

-- the visited statements of a tree, with all their lines
abbrev pub visited : Tree → List Visited
visited t = lines_ss t.body (first_line t) at_module
