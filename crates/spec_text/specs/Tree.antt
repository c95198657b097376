-- The tree that a text holds. Lines that no rule tells apart share a constructor; each keeps its line.
use Rattle.std.specs.Prelude.{ℕ, suc, ◌+◌, List, length}
use Rattle.spec_text.specs.Bytes.{Part}

-- a line: its word (its place in the table `words`), its span, its name, its parameters; what a word has not is 0, absent or empty
pub record Line : Type 0 where
  pub word : ℕ
  pub start : ℕ
  pub end : ℕ
  pub name : Part
  pub params : List Part

mutual
  -- `node`: lit, un, bin, list, set, treeset, dict. `access`: get, index. A call: its callee, its arguments.
  pub data Expr : Type 0 where
    var : Line → Expr
    node : Line → Exprs → Expr
    access : Line → Exprs → Expr
    tuple : Line → Exprs → Expr
    call : Line → Expr → Exprs → Expr
    lambda : Line → Expr → Expr

  pub data Exprs : Type 0 where
    enil : Exprs
    econs : Expr → Exprs → Exprs

-- `attr` lines
pub data Attrs : Type 0 where
  anil : Attrs
  acons : Line → Expr → Attrs → Attrs

mutual
  -- `simple`: break, continue, pass, and return, expr with their expression. `assign`: value, then target.
  -- `block`: while, and each elif of an if: a condition and statements. `choice`: if: condition, statements, elif lines, statements.
  pub data Stmt : Type 0 where
    simple : Line → Exprs → Stmt
    assign : Line → Expr → Expr → Stmt
    block : Line → Expr → Stmts → Stmt
    choice : Line → Expr → Stmts → Stmts → Stmts → Stmt
    for : Line → Expr → Stmts → Stmt
    def : Line → Stmts → Stmt
    class : Line → Methods → Attrs → Stmt

  pub data Stmts : Type 0 where
    snil : Stmts
    scons : Stmt → Stmts → Stmts

  -- `method` lines
  pub data Methods : Type 0 where
    mnil : Methods
    mcons : Line → Stmts → Methods → Methods

-- a text's tree: the names of its `global` lines, and its statements
pub record Tree : Type 0 where
  pub globals : List Part
  pub body : Stmts

-- ---- how many lines a part takes
-- the lines below a line, and with it
abbrev mutual
  pub below_e : Expr → ℕ
  below_e (var l) = 0
  below_e (node l es) = len_es es
  below_e (access l es) = len_es es
  below_e (tuple l es) = len_es es
  below_e (call l f es) = suc (below_e f) + len_es es
  below_e (lambda l e) = suc (below_e e)

  pub len_es : Exprs → ℕ
  len_es enil = 0
  len_es (econs e es) = suc (below_e e) + len_es es

abbrev pub len_e : Expr → ℕ
len_e e = suc (below_e e)

abbrev pub len_as : Attrs → ℕ
len_as anil = 0
len_as (acons l e as') = suc (len_e e + len_as as')

abbrev mutual
  pub len_s : Stmt → ℕ
  len_s (simple l es) = suc (len_es es)
  len_s (assign l e t) = suc (len_e e + len_e t)
  len_s (block l c b) = suc (len_e c + len_ss b)
  len_s (choice l c b k e) = suc (len_e c + (len_ss b + (len_ss k + len_ss e)))
  len_s (for l e b) = suc (len_e e + len_ss b)
  len_s (def l b) = suc (len_ss b)
  len_s (class l ms ats) = suc (len_ms ms + len_as ats)

  pub len_ss : Stmts → ℕ
  len_ss snil = 0
  len_ss (scons s ss) = len_s s + len_ss ss

  pub len_ms : Methods → ℕ
  len_ms mnil = 0
  len_ms (mcons l b ms) = suc (len_ss b + len_ms ms)

-- Lines are numbered from 1, which is the line `tree`; the `global` lines follow, then the statements.
abbrev pub first_line : Tree → ℕ
first_line t = suc (suc (length t.globals))
