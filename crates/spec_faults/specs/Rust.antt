-- The walk of src/semantic/mod.rs up to the type check, function by function under its own names, with its early exit.
-- A HashSet is a list of names. Only membership is asked of it, but for the captured names of a lambda: these are looked through, in an
-- order that is any (`Order`). `ctx.builtins` is the table of built-in names, and `ctx.functions`, which only the type check reads, is left out.
-- An expression leaves the stack as it found it (each push has its pop), so its walk hands back no stack.
use Rattle.std.specs.Prelude.{ℕ, ◌≡◌, Bool, true, false, cond, not, ◌&&◌, ◌||◌, List, [], ◌∷◌, ◌++◌}
use Rattle.std.specs.List.{filter as keep}
use Rattle.std.proofs.Math.Option.{Option, none, some}
use Rattle.spec_text.specs.Bytes.{Bytes, Part, mem, In}
use Rattle.spec_text.specs.Tree.{Line, Expr, Exprs, Stmt, Stmts, Methods, Tree, var, node, access, tuple, call, lambda, enil, econs, simple, assign, block, choice, for, def, class, snil, scons, mnil, mcons}
use Rattle.spec_faults.specs.Builtins.{builtin_names}
use Rattle.spec_faults.specs.Faults.{Fault, lacks_self, message, message_of, capture}

-- ---- src/semantic/scope.rs
abbrev pub ScopeStack : Type 0
ScopeStack = List (List Part)

abbrev pub new : ScopeStack
new = [] ∷ []

abbrev pub push : ScopeStack → ScopeStack
push st = [] ∷ st

abbrev pub pop : ScopeStack → ScopeStack
pop [] = []
pop (s ∷ st) = st

abbrev pub define : Part → ScopeStack → ScopeStack
define x [] = []
define x (s ∷ st) = (x ∷ s) ∷ st

abbrev pub is_defined : Bytes → ScopeStack → Bool
is_defined x [] = false
is_defined x (s ∷ st) = mem x s || is_defined x st

-- for p in params { scopes.define(p.clone()); }
abbrev pub define_all : List Part → ScopeStack → ScopeStack
define_all [] st = st
define_all (x ∷ xs) st = define_all xs (define x st)

-- if !scopes.is_defined(name) { scopes.define(name.clone()); }
abbrev pub define_new : Part → ScopeStack → ScopeStack
define_new x st = cond (is_defined x.bytes st) st (define x st)

-- ---- errors: the message, as FORMAT.md numbers it, and the span
pub record SemanticError : Type 0 where
  pub kind : ℕ
  pub message : Bytes
  pub start : ℕ
  pub end : ℕ

abbrev pub error : ℕ → Bytes → Bytes → Line → SemanticError
error k x c l = record { kind = k; message = message k x c; start = l.start; end = l.end }

-- SemanticResult<()>: none is Ok(()), and what follows `?` is walked only then
abbrev pub Checked : Type 0
Checked = Option SemanticError

abbrev pub check : Bool → SemanticError → Checked
check true e = none
check false e = some e

abbrev pub and_then : Checked → Checked → Checked
and_then none c = c
and_then (some e) c = some e

-- SemanticResult<()> of a walk that changes the state
pub data Result (S : Type 0) : Type 0 where
  ok : S → Result S
  err : SemanticError → Result S

abbrev pub after : {S : Type 0} → Checked → Result S → Result S
after none r = r
after (some e) r = err e

abbrev pub followed : {S R : Type 0} → Result S → (S → Result R) → Result R
followed (ok s) f = f s
followed (err e) f = err e

abbrev pub answer : Result ScopeStack → Checked
answer (ok st) = none
answer (err e) = some e

-- ---- collect_free_vars: the names that a lambda's body reads and its parameters do not bind, in the order of the reads
abbrev mutual
  pub collect_free_vars : Expr → List Part → List Part
  collect_free_vars (var l) ps = cond (mem l.name.bytes ps) [] (l.name ∷ [])
  collect_free_vars (node l es) ps = collect_free_vars_all es ps
  collect_free_vars (access l es) ps = collect_free_vars_all es ps
  collect_free_vars (tuple l es) ps = collect_free_vars_all es ps
  collect_free_vars (call l f es) ps = collect_free_vars f ps ++ collect_free_vars_all es ps
  collect_free_vars (lambda l e) ps = keep (λ (x : Part). not (mem x.bytes ps)) (collect_free_vars e l.params)

  pub collect_free_vars_all : Exprs → List Part → List Part
  collect_free_vars_all enil ps = []
  collect_free_vars_all (econs e es) ps = collect_free_vars e ps ++ collect_free_vars_all es ps

-- the first of the names that fails a test is captured unbound by the lambda at l: an error of kind k
abbrev pub check_captured : ℕ → Line → (Bytes → Bool) → List Part → Checked
check_captured k l fine [] = none
check_captured k l fine (x ∷ xs) = and_then (check (fine x.bytes) (error k x.bytes [] l)) (check_captured k l fine xs)

-- `if let Expr::Variable(name) = &func_name.0`: what is checked of a callee that is a name, and of any other
abbrev pub callee_or : Expr → (Bytes → Checked) → Checked → Checked
callee_or (var l) name other = name l.name.bytes
callee_or (node l es) name other = other
callee_or (access l es) name other = other
callee_or (tuple l es) name other = other
callee_or (call l f es) name other = other
callee_or (lambda l e) name other = other

-- ---- what is asked of a name
-- !scopes.is_defined(name) && !ctx.is_builtin(name) is the error
abbrev pub known : ScopeStack → Bytes → Bool
known st x = is_defined x st || mem x builtin_names

-- if locals.contains(name) { assigned.contains(name), or the error e } else { is_defined or built-in, or the error f }
abbrev pub check_name : List Part → List Part → ScopeStack → Bytes → SemanticError → SemanticError → Checked
check_name locals assigned st x e f = cond (mem x locals) (check (mem x assigned) e) (check (known st x) f)

-- ---- collect_locals
abbrev mutual
  pub collect_locals_from_target : Expr → List Part
  collect_locals_from_target (var l) = l.name ∷ []
  collect_locals_from_target (node l es) = []
  collect_locals_from_target (access l es) = []
  collect_locals_from_target (tuple l es) = collect_locals_from_targets es
  collect_locals_from_target (call l f es) = []
  collect_locals_from_target (lambda l e) = []

  pub collect_locals_from_targets : Exprs → List Part
  collect_locals_from_targets enil = []
  collect_locals_from_targets (econs e es) = collect_locals_from_target e ++ collect_locals_from_targets es

abbrev mutual
  pub collect_locals_of : Stmt → List Part
  collect_locals_of (simple l es) = []
  collect_locals_of (assign l e t) = collect_locals_from_target t
  collect_locals_of (block l c b) = collect_locals b
  collect_locals_of (choice l c b k e) = collect_locals b ++ (collect_locals k ++ collect_locals e)
  collect_locals_of (for l e b) = l.name ∷ collect_locals b
  collect_locals_of (def l b) = l.name ∷ []
  collect_locals_of (class l ms ats) = l.name ∷ []

  pub collect_locals : Stmts → List Part
  collect_locals snil = []
  collect_locals (scons s ss) = collect_locals_of s ++ collect_locals ss

-- ---- the state of a walk in a function
-- the stack, and `assigned`
pub record State : Type 0 where
  pub scopes : ScopeStack
  pub assigned : List Part

-- the loop variable: defined if it is not, and assigned if it is local
abbrev pub for_var_function : Part → List Part → State → State
for_var_function x locals s =
    record { scopes = define_new x s.scopes; assigned = cond (mem x.bytes locals) (x ∷ s.assigned) s.assigned }

-- ---- the order of a HashSet
-- `for var in &free_vars`: a HashSet's order is any. A lambda whose names all pass is looked through in full, whatever the order, so the
-- order matters only at the lambda where the walk stops, and one function of the lambda's line covers every run.
abbrev pub Order : Type 0
Order = Line → List Part → List Part

-- the names looked through are those captured: the same members, by their bytes
abbrev pub Rearranges : Order → Type 0
Rearranges order = (l : Line) (xs : List Part) (x : Bytes) → mem x (order l xs) ≡ mem x xs

-- the order of the reads
abbrev pub as_read : Order
as_read l xs = xs

module _ (order : Order) where
  -- ---- analyze_expr_module
  abbrev mutual
    pub analyze_expr_module : Expr → ScopeStack → Checked
    analyze_expr_module (var l) st = check (known st l.name.bytes) (error 8 l.name.bytes [] l)
    analyze_expr_module (node l es) st = analyze_exprs_module es st
    analyze_expr_module (access l es) st = analyze_exprs_module es st
    analyze_expr_module (tuple l es) st = analyze_exprs_module es st
    analyze_expr_module (call l f es) st =
        and_then (callee_or f (λ x. check (known st x) (error 9 x [] l)) (analyze_expr_module f st)) (analyze_exprs_module es st)
    analyze_expr_module (lambda l e) st =
        and_then (check_captured 10 l (known st) (order l (collect_free_vars e l.params))) (analyze_expr_module e (define_all l.params (push st)))

    pub analyze_exprs_module : Exprs → ScopeStack → Checked
    analyze_exprs_module enil st = none
    analyze_exprs_module (econs e es) st = and_then (analyze_expr_module e st) (analyze_exprs_module es st)

  -- ---- analyze_expr_function
  abbrev mutual
    pub analyze_expr_function : Expr → ScopeStack → List Part → List Part → Checked
    analyze_expr_function (var l) st locals assigned =
        check_name locals assigned st l.name.bytes (error 11 l.name.bytes [] l) (error 8 l.name.bytes [] l)
    analyze_expr_function (node l es) st locals assigned = analyze_exprs_function es st locals assigned
    analyze_expr_function (access l es) st locals assigned = analyze_exprs_function es st locals assigned
    analyze_expr_function (tuple l es) st locals assigned = analyze_exprs_function es st locals assigned
    analyze_expr_function (call l f es) st locals assigned =
        and_then (callee_or f (λ x. check_name locals assigned st x (error 12 x [] l) (error 9 x [] l)) (analyze_expr_function f st locals assigned))
        (analyze_exprs_function es st locals assigned)
    analyze_expr_function (lambda l e) st locals assigned =
        and_then (check_captured 13 l (λ x. not (mem x locals && not (mem x assigned))) (order l (collect_free_vars e l.params)))
        (analyze_expr_function e (define_all l.params (push st)) l.params l.params)

    pub analyze_exprs_function : Exprs → ScopeStack → List Part → List Part → Checked
    analyze_exprs_function enil st locals assigned = none
    analyze_exprs_function (econs e es) st locals assigned =
        and_then (analyze_expr_function e st locals assigned) (analyze_exprs_function es st locals assigned)

  -- ---- validate_and_analyze_assign_target, and the same in a function, where a name is also assigned
  abbrev invalid : {S : Type 0} → Line → Result S
  invalid l = err (error 14 [] [] l)

  abbrev mutual
    pub validate_and_analyze_assign_target : Expr → ScopeStack → Result ScopeStack
    validate_and_analyze_assign_target (var l) st = ok (define_new l.name st)
    validate_and_analyze_assign_target (node l es) st = invalid l
    validate_and_analyze_assign_target (access l es) st = after (analyze_exprs_module es st) (ok st)
    validate_and_analyze_assign_target (tuple l es) st = validate_and_analyze_assign_targets es st
    validate_and_analyze_assign_target (call l f es) st = invalid l
    validate_and_analyze_assign_target (lambda l e) st = invalid l

    pub validate_and_analyze_assign_targets : Exprs → ScopeStack → Result ScopeStack
    validate_and_analyze_assign_targets enil st = ok st
    validate_and_analyze_assign_targets (econs e es) st =
        followed (validate_and_analyze_assign_target e st) (λ st. validate_and_analyze_assign_targets es st)

  abbrev mutual
    pub validate_and_analyze_assign_target_function : Expr → List Part → State → Result State
    validate_and_analyze_assign_target_function (var l) locals s =
        ok (record { scopes = define_new l.name s.scopes; assigned = l.name ∷ s.assigned })
    validate_and_analyze_assign_target_function (node l es) locals s = invalid l
    validate_and_analyze_assign_target_function (access l es) locals s = after (analyze_exprs_function es s.scopes locals s.assigned) (ok s)
    validate_and_analyze_assign_target_function (tuple l es) locals s = validate_and_analyze_assign_targets_function es locals s
    validate_and_analyze_assign_target_function (call l f es) locals s = invalid l
    validate_and_analyze_assign_target_function (lambda l e) locals s = invalid l

    pub validate_and_analyze_assign_targets_function : Exprs → List Part → State → Result State
    validate_and_analyze_assign_targets_function enil locals s = ok s
    validate_and_analyze_assign_targets_function (econs e es) locals s =
        followed (validate_and_analyze_assign_target_function e locals s) (λ s. validate_and_analyze_assign_targets_function es locals s)

  -- ---- analyze_function; `walk` is its loop over the body
  abbrev pub analyze_function : Line → Stmts → ScopeStack → (List Part → State → Result State) → Result ScopeStack
  analyze_function l body st walk =
      followed (walk (l.params ++ collect_locals body) (record { scopes = define_all l.params (push st); assigned = l.params }))
      (λ (s : State). ok (pop s.scopes))

  -- ---- analyze_stmt_function
  abbrev with_scopes : State → ScopeStack → Result State
  with_scopes s st = ok (record { scopes = st; assigned = s.assigned })

  abbrev mutual
    pub analyze_stmt_function : Stmt → List Part → State → Result State
    analyze_stmt_function (simple l es) locals s = after (analyze_exprs_function es s.scopes locals s.assigned) (ok s)
    analyze_stmt_function (assign l e t) locals s =
        after (analyze_expr_function e s.scopes locals s.assigned) (validate_and_analyze_assign_target_function t locals s)
    analyze_stmt_function (block l c b) locals s =
        after (analyze_expr_function c s.scopes locals s.assigned) (analyze_stmts_function b locals s)
    analyze_stmt_function (choice l c b k e) locals s =
        after (analyze_expr_function c s.scopes locals s.assigned)
        (followed (analyze_stmts_function b locals s) (λ s. followed (analyze_stmts_function k locals s) (λ s. analyze_stmts_function e locals s)))
    analyze_stmt_function (for l e b) locals s =
        after (analyze_expr_function e s.scopes locals s.assigned) (analyze_stmts_function b locals (for_var_function l.name locals s))
    analyze_stmt_function (def l b) locals s =
        followed (analyze_function l b (define_new l.name s.scopes) (λ own s. analyze_stmts_function b own s)) (with_scopes s)
    analyze_stmt_function (class l ms ats) locals s = with_scopes s (define l.name s.scopes)

    pub analyze_stmts_function : Stmts → List Part → State → Result State
    analyze_stmts_function snil locals s = ok s
    analyze_stmts_function (scons t ts) locals s = followed (analyze_stmt_function t locals s) (λ s. analyze_stmts_function ts locals s)

  -- ---- analyze_stmt_module
  -- a method's body; `locals` and `assigned` are its parameters
  abbrev pub analyze_method : Line → Stmts → ScopeStack → Result ScopeStack
  analyze_method l b st =
      followed (analyze_stmts_function b l.params (record { scopes = define_all l.params (push st); assigned = l.params }))
      (λ (s : State). ok (pop s.scopes))

  -- the loop over a class's methods; c is the class's line
  abbrev pub analyze_methods : Methods → Line → ScopeStack → Result ScopeStack
  analyze_methods mnil c st = ok st
  analyze_methods (mcons l b ms) c st =
      after (check (not (lacks_self l.params)) (error 15 l.name.bytes c.name.bytes c))
      (followed (analyze_method l b st) (λ st. analyze_methods ms c st))

  abbrev mutual
    pub analyze_stmt_module : Stmt → ScopeStack → Result ScopeStack
    analyze_stmt_module (simple l es) st = after (analyze_exprs_module es st) (ok st)
    analyze_stmt_module (assign l e t) st = after (analyze_expr_module e st) (validate_and_analyze_assign_target t st)
    analyze_stmt_module (block l c b) st = after (analyze_expr_module c st) (analyze_stmts_module b st)
    analyze_stmt_module (choice l c b k e) st =
        after (analyze_expr_module c st)
        (followed (analyze_stmts_module b st) (λ st. followed (analyze_stmts_module k st) (λ st. analyze_stmts_module e st)))
    analyze_stmt_module (for l e b) st = after (analyze_expr_module e st) (analyze_stmts_module b (define l.name st))
    analyze_stmt_module (def l b) st = analyze_function l b (define l.name st) (λ locals s. analyze_stmts_function b locals s)
    analyze_stmt_module (class l ms ats) st = analyze_methods ms l (define l.name st)

    pub analyze_stmts_module : Stmts → ScopeStack → Result ScopeStack
    analyze_stmts_module snil st = ok st
    analyze_stmts_module (scons t ts) st = followed (analyze_stmt_module t st) (λ st. analyze_stmts_module ts st)

  -- ---- analyze_with_globals: the first error, or none
  abbrev pub analyze_with_globals : Tree → Checked
  analyze_with_globals t = answer (analyze_stmts_module t.body (define_all t.globals (define_all builtin_names new)))

-- ---- the Rust's answer beside a list of faults
-- a fault as its error
abbrev pub error_of : Fault → SemanticError
error_of f = record { kind = f.kind; message = message_of f; start = f.start; end = f.end }

-- In any order: no error beside no faults, else the error of the first; or, where that is a capture, of a fault g in the list with its kind,
-- place and span. So the Rust accepts alike, kind and span are the first fault's, and the name is one that is listed for that lambda.
pub data Answers : Checked → List Fault → Type 0 where
  no_error : Answers none []
  first : {f : Fault} {fs : List Fault} → Answers (some (error_of f)) (f ∷ fs)
  captured : {f g : Fault} {fs : List Fault} → capture f.kind ≡ true → In g (f ∷ fs)
      → g.kind ≡ f.kind → g.place ≡ f.place → g.start ≡ f.start → g.end ≡ f.end → Answers (some (error_of g)) (f ∷ fs)
