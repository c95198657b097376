-- A walk that lists every fault: the names in view, a def's locals and its assigned names go down the tree, and each fault is listed
-- where it is found. It stands between the faults by position and the Rust walk, and is what code can follow.
-- The names in view are one list: a block's names are put in front on the way in, and what was there before counts again on the way out.
use Rattle.std.proofs.Common.{ℕ, suc, ◌+◌, Bool, cond, not, List, [], ◌∷◌, ◌++◌}
use Rattle.spec_text.specs.Bytes.{Part, mem}
use Rattle.spec_text.specs.Tree.{Line, Expr, Exprs, Stmt, Stmts, Methods, Tree, var, node, access, tuple, call, lambda, enil, econs, simple, assign, block, choice, for, def, class, snil, scons, mnil, mcons, len_e, len_s, len_ss, first_line}
use Rattle.spec_faults.specs.Builtins.{builtin_names}
use Rattle.spec_faults.specs.Position.{Placed, Home, in_module, in_def, in_method, Use, value, callee}
use Rattle.spec_faults.specs.Faults.{Fault, fault_at, unbound_here, undefined_here, unless, lacks_self, refused_at, selfless, capture}
use Rattle.spec_faults.specs.Rust.{collect_locals}

-- ---- the state: the names in view, and the assigned names of the def or method
pub record State : Type 0 where
  pub view : List Part
  pub assigned : List Part

-- a name bound by a target, parameter or for; by def or class; the state inside a def or method
abbrev pub assigning : Part → State → State
assigning x s = record { view = x ∷ s.view; assigned = x ∷ s.assigned }

abbrev pub naming : Part → State → State
naming x s = record { view = x ∷ s.view; assigned = s.assigned }

abbrev pub entered : List Part → State → State
entered ps s = record { view = ps ++ s.view; assigned = ps }

-- ---- the state after a part
abbrev mutual
  pub after_t : Expr → State → State
  after_t (var l) s = assigning l.name s
  after_t (node l es) s = s
  after_t (access l es) s = s
  after_t (tuple l es) s = after_ts es s
  after_t (call l f es) s = s
  after_t (lambda l e) s = s

  pub after_ts : Exprs → State → State
  after_ts enil s = s
  after_ts (econs e es) s = after_ts es (after_t e s)

abbrev mutual
  pub after_s : Stmt → State → State
  after_s (simple l es) s = s
  after_s (assign l e t) s = after_t t s
  after_s (block l c b) s = after_ss b s
  after_s (choice l c b k e) s = after_ss e (after_ss k (after_ss b s))
  after_s (for l e b) s = after_ss b (assigning l.name s)
  after_s (def l b) s = naming l.name s
  after_s (class l ms ats) s = naming l.name s

  pub after_ss : Stmts → State → State
  after_ss snil s = s
  after_ss (scons t ts) s = after_ss ts (after_s t s)

-- ---- the faults of a part
-- the home; the own names, where it is a def; the parameters of the lambdas between
pub record Env : Type 0 where
  pub home : Home
  pub locals : List Part
  pub params : List Part

abbrev pub with_params : List Part → Env → Env
with_params ps v = record { home = v.home; locals = v.locals; params = ps ++ v.params }

-- outside of lambdas; the captures of a lambda; what else is faulty under a lambda
pub data Mode : Type 0 where
  plain : Mode
  captures : Placed → Mode
  inside : Mode

abbrev pub unbound_in : Mode → Use → Bool → Placed → List Fault
unbound_in plain u t r = unless t (unbound_here u r)
unbound_in (captures k) u t r = unless t (fault_at 13 k r)
unbound_in inside u t r = []

abbrev pub undefined_in : Mode → Use → Home → Bool → Placed → List Fault
undefined_in plain u h t r = unless t (undefined_here u r)
undefined_in (captures k) u in_module t r = unless t (fault_at 10 k r)
undefined_in (captures k) u in_def t r = []
undefined_in (captures k) u in_method t r = []
undefined_in inside u in_module t r = []
undefined_in inside u in_def t r = unless t (undefined_here u r)
undefined_in inside u in_method t r = unless t (undefined_here u r)

-- a read: a parameter of a lambda between, own, assigned, in view
abbrev pub test : Mode → Use → Home → Placed → Bool → Bool → Bool → Bool → List Fault
test m u h r p o a v = cond p [] (cond o (unbound_in m u a r) (undefined_in m u h v r))

-- of the captures among the faults, the first with each name; seen are the names of those before
abbrev pub once : List Part → List Fault → List Fault
once seen [] = []
once seen (f ∷ fs) =
    cond (capture f.kind) (cond (mem f.name.bytes seen) (once seen fs) (f ∷ once (f.name ∷ seen) fs)) (f ∷ once seen fs)

abbrev mutual
  pub walk_e : Expr → ℕ → Use → Mode → Env → State → List Fault
  walk_e (var l) n u m v s =
      test m u v.home (record { number = n; line = l }) (mem l.name.bytes v.params) (mem l.name.bytes v.locals)
      (mem l.name.bytes s.assigned) (mem l.name.bytes s.view)
  walk_e (node l es) n u m v s = walk_es es (suc n) m v s
  walk_e (access l es) n u m v s = walk_es es (suc n) m v s
  walk_e (tuple l es) n u m v s = walk_es es (suc n) m v s
  walk_e (call l f es) n u m v s = walk_e f (suc n) (callee (record { number = n; line = l })) m v s ++ walk_es es (suc n + len_e f) m v s
  walk_e (lambda l e) n u plain v s =
      once [] (walk_e e (suc n) value (captures (record { number = n; line = l })) (with_params l.params v) s)
      ++ walk_e e (suc n) value inside (with_params l.params v) s
  walk_e (lambda l e) n u (captures k) v s = walk_e e (suc n) value (captures k) (with_params l.params v) s
  walk_e (lambda l e) n u inside v s = walk_e e (suc n) value inside (with_params l.params v) s

  pub walk_es : Exprs → ℕ → Mode → Env → State → List Fault
  walk_es enil n m v s = []
  walk_es (econs e es) n m v s = walk_e e n value m v s ++ walk_es es (n + len_e e) m v s

abbrev mutual
  pub walk_t : Expr → ℕ → Env → State → List Fault
  walk_t (var l) n v s = []
  walk_t (node l es) n v s = refused_at n l ∷ []
  walk_t (access l es) n v s = walk_es es (suc n) plain v s
  walk_t (tuple l es) n v s = walk_ts es (suc n) v s
  walk_t (call l f es) n v s = refused_at n l ∷ []
  walk_t (lambda l e) n v s = refused_at n l ∷ []

  pub walk_ts : Exprs → ℕ → Env → State → List Fault
  walk_ts enil n v s = []
  walk_ts (econs e es) n v s = walk_t e n v s ++ walk_ts es (n + len_e e) v (after_t e s)

abbrev pub def_env : Line → Stmts → Env
def_env l b = record { home = in_def; locals = l.params ++ collect_locals b; params = [] }

abbrev pub method_env : Env
method_env = record { home = in_method; locals = []; params = [] }

abbrev pub module_env : Env
module_env = record { home = in_module; locals = []; params = [] }

-- a class is walked in the module alone
abbrev pub in_classes : Home → List Fault → List Fault
in_classes in_module fs = fs
in_classes in_def fs = []
in_classes in_method fs = []

abbrev pub self_fault : ℕ → Line → Line → List Fault
self_fault n l c = unless (not (lacks_self l.params)) (selfless n l c)

abbrev mutual
  pub walk_s : Stmt → ℕ → Env → State → List Fault
  walk_s (simple l es) n v s = walk_es es (suc n) plain v s
  walk_s (assign l e t) n v s = walk_e e (suc n) value plain v s ++ walk_t t (suc n + len_e e) v s
  walk_s (block l c b) n v s = walk_e c (suc n) value plain v s ++ walk_ss b (suc n + len_e c) v s
  walk_s (choice l c b k e) n v s =
      walk_e c (suc n) value plain v s ++ (walk_ss b (suc n + len_e c) v s ++ (walk_ss k (suc n + len_e c + len_ss b) v (after_ss b s)
      ++ walk_ss e (suc n + len_e c + len_ss b + len_ss k) v (after_ss k (after_ss b s))))
  walk_s (for l e b) n v s = walk_e e (suc n) value plain v s ++ walk_ss b (suc n + len_e e) v (assigning l.name s)
  walk_s (def l b) n v s = walk_ss b (suc n) (def_env l b) (entered l.params (naming l.name s))
  walk_s (class l ms ats) n v s = in_classes v.home (walk_ms ms (suc n) l (naming l.name s))

  pub walk_ss : Stmts → ℕ → Env → State → List Fault
  walk_ss snil n v s = []
  walk_ss (scons t ts) n v s = walk_s t n v s ++ walk_ss ts (n + len_s t) v (after_s t s)

  pub walk_ms : Methods → ℕ → Line → State → List Fault
  walk_ms mnil n c s = []
  walk_ms (mcons l b ms) n c s =
      self_fault n l c ++ (walk_ss b (suc n) method_env (entered l.params s) ++ walk_ms ms (suc n + len_ss b) c s)

abbrev pub start_state : Tree → State
start_state t = record { view = builtin_names ++ t.globals; assigned = [] }

abbrev pub walk : Tree → List Fault
walk t = walk_ss t.body (first_line t) module_env (start_state t)
