-- How deep a tree goes, and what is said of each of its lines: by recursion over the tree.
use Rattle.std.proofs.Common.{ℕ, suc, max}
use Rattle.spec_text.specs.Tree.{Line, Expr, Exprs, Attrs, Stmt, Stmts, Methods, var, node, access, tuple, call, lambda, enil, econs, anil, acons, simple, assign, block, choice, for, def, class, snil, scons, mnil, mcons}

-- ---- depth: a line is one deeper than its parent; nothing has depth 0
abbrev mutual
  pub depth_e : Expr → ℕ
  depth_e (var l) = 1
  depth_e (node l es) = suc (depth_es es)
  depth_e (access l es) = suc (depth_es es)
  depth_e (tuple l es) = suc (depth_es es)
  depth_e (call l f es) = suc (max (depth_e f) (depth_es es))
  depth_e (lambda l e) = suc (depth_e e)

  pub depth_es : Exprs → ℕ
  depth_es enil = 0
  depth_es (econs e es) = max (depth_e e) (depth_es es)

abbrev pub depth_as : Attrs → ℕ
depth_as anil = 0
depth_as (acons l e ats) = max (suc (depth_e e)) (depth_as ats)

-- an `elif` stands among the lines below its `if`, as a block of its own
abbrev mutual
  pub depth_s : Stmt → ℕ
  depth_s (simple l es) = suc (depth_es es)
  depth_s (assign l e t) = suc (max (depth_e e) (depth_e t))
  depth_s (block l c b) = suc (max (depth_e c) (depth_ss b))
  depth_s (choice l c b k e) = suc (max (depth_e c) (max (depth_ss b) (max (depth_ss k) (depth_ss e))))
  depth_s (for l e b) = suc (max (depth_e e) (depth_ss b))
  depth_s (def l b) = suc (depth_ss b)
  depth_s (class l ms ats) = suc (max (depth_ms ms) (depth_as ats))

  pub depth_ss : Stmts → ℕ
  depth_ss snil = 0
  depth_ss (scons s ss) = max (depth_s s) (depth_ss ss)

  pub depth_ms : Methods → ℕ
  depth_ms mnil = 0
  depth_ms (mcons l b ms) = max (suc (depth_ss b)) (depth_ms ms)

-- ---- P holds of each line
abbrev mutual
  pub EachE : (Line → Type 0) → Expr → Type 0
  EachE P (var l) = P l
  EachE P (node l es) = P l × EachEs P es
  EachE P (access l es) = P l × EachEs P es
  EachE P (tuple l es) = P l × EachEs P es
  EachE P (call l f es) = P l × (EachE P f × EachEs P es)
  EachE P (lambda l e) = P l × EachE P e

  pub EachEs : (Line → Type 0) → Exprs → Type 0
  EachEs P enil = Unit
  EachEs P (econs e es) = EachE P e × EachEs P es

abbrev pub EachAs : (Line → Type 0) → Attrs → Type 0
EachAs P anil = Unit
EachAs P (acons l e ats) = (P l × EachE P e) × EachAs P ats

abbrev mutual
  pub EachS : (Line → Type 0) → Stmt → Type 0
  EachS P (simple l es) = P l × EachEs P es
  EachS P (assign l e t) = P l × (EachE P e × EachE P t)
  EachS P (block l c b) = P l × (EachE P c × EachSs P b)
  EachS P (choice l c b k e) = P l × (EachE P c × (EachSs P b × (EachSs P k × EachSs P e)))
  EachS P (for l e b) = P l × (EachE P e × EachSs P b)
  EachS P (def l b) = P l × EachSs P b
  EachS P (class l ms ats) = P l × (EachMs P ms × EachAs P ats)

  pub EachSs : (Line → Type 0) → Stmts → Type 0
  EachSs P snil = Unit
  EachSs P (scons s ss) = EachS P s × EachSs P ss

  pub EachMs : (Line → Type 0) → Methods → Type 0
  EachMs P mnil = Unit
  EachMs P (mcons l b ms) = (P l × EachSs P b) × EachMs P ms
