-- The walk in the text's order, with the lambdas around: it carries the names in view, a def's locals and its assigned names.
-- It differs from the walk that lists (ListingWalk) in the captures: each stands at its read, and none is left out.
use Rattle.std.proofs.Common.{ℕ, suc, ◌+◌, List, [], ◌∷◌, ◌++◌}
use Rattle.spec_text.specs.Bytes.{mem}
use Rattle.spec_text.specs.Tree.{Line, Expr, Exprs, Stmt, Stmts, Methods, var, node, access, tuple, call, lambda, enil, econs, simple, assign, block, choice, for, def, class, snil, scons, mnil, mcons, len_e, len_s, len_ss}
use Rattle.spec_faults.specs.Position.{Placed, Use, value, callee}
use Rattle.spec_faults.specs.Faults.{Fault, judge_read, refused_at}
use Rattle.spec_faults.proofs.ListingWalk.{State, assigning, naming, entered, after_t, after_s, after_ss, Env, with_params, def_env, method_env, in_classes, self_fault}

abbrev mutual
  pub raw_e : Expr → ℕ → Use → List Placed → Env → State → List Fault
  raw_e (var l) n u ls v s =
      judge_read v.home ls u (record { number = n; line = l }) (mem l.name.bytes v.params) (mem l.name.bytes v.locals)
      (mem l.name.bytes s.assigned) (mem l.name.bytes s.view)
  raw_e (node l es) n u ls v s = raw_es es (suc n) ls v s
  raw_e (access l es) n u ls v s = raw_es es (suc n) ls v s
  raw_e (tuple l es) n u ls v s = raw_es es (suc n) ls v s
  raw_e (call l f es) n u ls v s = raw_e f (suc n) (callee (record { number = n; line = l })) ls v s ++ raw_es es (suc n + len_e f) ls v s
  raw_e (lambda l e) n u ls v s = raw_e e (suc n) value (record { number = n; line = l } ∷ ls) (with_params l.params v) s

  pub raw_es : Exprs → ℕ → List Placed → Env → State → List Fault
  raw_es enil n ls v s = []
  raw_es (econs e es) n ls v s = raw_e e n value ls v s ++ raw_es es (n + len_e e) ls v s

abbrev mutual
  pub raw_t : Expr → ℕ → List Placed → Env → State → List Fault
  raw_t (var l) n ls v s = []
  raw_t (node l es) n ls v s = refused_at n l ∷ []
  raw_t (access l es) n ls v s = raw_es es (suc n) ls v s
  raw_t (tuple l es) n ls v s = raw_ts es (suc n) ls v s
  raw_t (call l f es) n ls v s = refused_at n l ∷ []
  raw_t (lambda l e) n ls v s = refused_at n l ∷ []

  pub raw_ts : Exprs → ℕ → List Placed → Env → State → List Fault
  raw_ts enil n ls v s = []
  raw_ts (econs e es) n ls v s = raw_t e n ls v s ++ raw_ts es (n + len_e e) ls v (after_t e s)

abbrev mutual
  pub raw_s : Stmt → ℕ → List Placed → Env → State → List Fault
  raw_s (simple l es) n ls v s = raw_es es (suc n) ls v s
  raw_s (assign l e t) n ls v s = raw_e e (suc n) value ls v s ++ raw_t t (suc n + len_e e) ls v s
  raw_s (block l c b) n ls v s = raw_e c (suc n) value ls v s ++ raw_ss b (suc n + len_e c) ls v s
  raw_s (choice l c b k e) n ls v s =
      raw_e c (suc n) value ls v s ++ (raw_ss b (suc n + len_e c) ls v s ++ (raw_ss k (suc n + len_e c + len_ss b) ls v (after_ss b s)
      ++ raw_ss e (suc n + len_e c + len_ss b + len_ss k) ls v (after_ss k (after_ss b s))))
  raw_s (for l e b) n ls v s = raw_e e (suc n) value ls v s ++ raw_ss b (suc n + len_e e) ls v (assigning l.name s)
  raw_s (def l b) n ls v s = raw_ss b (suc n) [] (def_env l b) (entered l.params (naming l.name s))
  raw_s (class l ms ats) n ls v s = in_classes v.home (raw_ms ms (suc n) l (naming l.name s))

  pub raw_ss : Stmts → ℕ → List Placed → Env → State → List Fault
  raw_ss snil n ls v s = []
  raw_ss (scons t ts) n ls v s = raw_s t n ls v s ++ raw_ss ts (n + len_s t) ls v (after_s t s)

  pub raw_ms : Methods → ℕ → Line → State → List Fault
  raw_ms mnil n c s = []
  raw_ms (mcons l b ms) n c s =
      self_fault n l c ++ (raw_ss b (suc n) [] method_env (entered l.params s) ++ raw_ms ms (suc n + len_ss b) c s)
