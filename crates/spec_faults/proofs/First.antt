-- The Rust walk's answer, beside the faults of the walk that lists them all.
-- A part of the tree *agrees*: where the walk lists nothing, the Rust goes on, in a state that fits the walk's; else it stops with an
-- error that answers them. Parts in a row agree where each does, so every statement follows from its parts.
use Rattle.std.proofs.Common.{ℕ, suc, ◌+◌, ◌≡◌, refl, sym, ap, ap₂, ◌∙◌, subst, Bool, true, false, cond, not, ◌&&◌, ◌||◌, List, [], ◌∷◌, ◌++◌}
use Rattle.std.proofs.Math.Bool.{and-false, and-not_self}
use Rattle.std.proofs.lemmas.Bool.{false≢true}
use Rattle.std.proofs.Math.Option.{some}
use Rattle.spec_text.specs.Bytes.{Bytes, Part, mem, same}
use Rattle.spec_text.specs.Tree.{Line, Expr, Exprs, Stmt, Stmts, Methods, Tree, var, node, access, tuple, call, lambda, enil, econs, simple, assign, block, choice, for, def, class, snil, scons, mnil, mcons, len_e, len_s, len_ss, first_line}
use Rattle.spec_faults.specs.Position.{Placed, Home, in_module, in_def, in_method, Use, value, callee}
use Rattle.spec_faults.specs.Faults.{Fault, fault_at, unbound_here, undefined_here, unless, lacks_self, selfless}
use Rattle.spec_faults.specs.Rust.{ScopeStack, pop, define, define_new, known, SemanticError, Checked, check, Result, ok, err, after, followed, check_name, collect_locals, Order, Rearranges, analyze_expr_module, analyze_exprs_module, analyze_expr_function, analyze_exprs_function, validate_and_analyze_assign_target, validate_and_analyze_assign_targets, validate_and_analyze_assign_target_function, validate_and_analyze_assign_targets_function, for_var_function, analyze_stmt_function, analyze_stmts_function, analyze_methods, analyze_stmt_module, analyze_stmts_module, answer, analyze_with_globals, error_of, State as RustState}
use Rattle.spec_faults.proofs.ListingWalk.{State, assigning, naming, entered, after_t, after_ts, after_s, after_ss, Env, with_params, plain, captures, inside, test, walk_e, walk_es, walk_t, walk_ts, module_env, in_classes, walk_s, walk_ss, walk_ms, walk, start_state}
use Rattle.spec_faults.proofs.Lists.{same_eq, mem_append, mem_there}
use Rattle.spec_faults.proofs.Stack.{open_pop, pushed, View, view_define, view_new, view_enter, view_start}
use Rattle.spec_faults.proofs.Finds.{Stops, Finds, nothing, stop, stops_first, stops_append, finds_as, finds_both, finds_unless, finds_read}
use Rattle.spec_faults.proofs.Captured.{placed, name_of, read_in, Captures, lambda_finds}
use Rattle.spec_faults.proofs.UnderLambda.{used, used_value, name_m, name_f, under_m, Inside, inside_under, under_f}

-- ---- agreement of a Rust walk with a list of faults; R is what holds of the state after it
data Agrees (order : Order) {S : Type 0} (R : S → Type 0) : Result S → List Fault → Type 0 where
  goes_on : {s : S} → R s → Agrees order R (ok s) []
  stops : {e : SemanticError} {F : List Fault} → Stops order F e → Agrees order R (err e) F

module _ {order : Order} {S T : Type 0} {R : S → Type 0} {Q : T → Type 0} where
  in_turn : {r : Result S} {F G : List Fault} (k : S → Result T) → Agrees order R r F → ((s : S) → R s → Agrees order Q (k s) G)
      → Agrees order Q (followed r k) (F ++ G)
  in_turn k (goes_on {s = s} h) g = g s h
  in_turn {G} k (stops p) g = stops (stops_append G p)

  changed : {r : Result S} {F : List Fault} (k : S → T) → Agrees order R r F → ((s : S) → R s → Q (k s))
      → Agrees order Q (followed r (λ s. ok (k s))) F
  changed k (goes_on {s = s} h) g = goes_on (g s h)
  changed k (stops p) g = stops p

module _ {order : Order} {S : Type 0} {R : S → Type 0} where
  after_check : {F G : List Fault} {c : Checked} {r : Result S} → Finds order F c → Agrees order R r G → Agrees order R (after c r) (F ++ G)
  after_check nothing a = a
  after_check {G = G} (stop p) a = stops (stops_append G p)

  only_check : {F : List Fault} {c : Checked} → Finds order F c → (s : S) → R s → Agrees order R (after c (ok s)) F
  only_check nothing s h = goes_on h
  only_check (stop p) s h = stops p

answered : {order : Order} {R : ScopeStack → Type 0} {r : Result ScopeStack} {F : List Fault} → Agrees order R r F → Finds order F (answer r)
answered (goes_on h) = nothing
answered (stops p) = stop p

-- ---- the names of a def or method
abbrev Function : Home → Type 0
Function in_module = ⊥
Function in_def = Unit {0}
Function in_method = Unit {0}

abbrev within : Home → List Part → Env
within h own = record { home = h; locals = own; params = [] }

-- local, and not assigned; and the test of a lambda's captures, that a name is not so
abbrev loose : List Part → List Part → Bytes → Bool
loose locals assigned x = mem x locals && not (mem x assigned)

abbrev held : List Part → List Part → Bytes → Bool
held locals assigned x = not (loose locals assigned x)

-- the names of one list are in the other
abbrev Sees : List Part → List Part → Type 0
Sees a names = (x : Bytes) → mem x a ≡ true → mem x names ≡ true

-- The Rust's locals and state in a def or method, and the walk's own names and state. A method's locals are its parameters in the Rust, and
-- none in the walk: either way the same names are local and not assigned. What is assigned is in view.
record Inner (h : Home) (locals own : List Part) (b : ScopeStack) (r : RustState) (s : State) : Type 0 where
  home : Function h
  stack : View b r.scopes s.view
  unbound : (x : Bytes) → loose locals r.assigned x ≡ loose own s.assigned x
  rust_sees : Sees r.assigned s.view
  walk_sees : Sees s.assigned s.view

inner_enter : (h : Home) → Function h → (locals own ps : List Part) (s : State) → ((x : Bytes) → loose locals ps x ≡ loose own ps x)
    → {b st : ScopeStack} → View b st s.view → Inner h locals own st (record { scopes = pushed ps st; assigned = ps }) (entered ps s)
inner_enter h f locals own ps s e w =
    let i : Sees ps (ps ++ s.view) = λ x m. mem_append x ps s.view ∙ ap (λ t. t || mem x s.view) m in
    record { home = f; stack = view_enter ps w; unbound = e; rust_sees = i; walk_sees = i }

sees_more : (y : Part) (a names : List Part) → Sees a names → Sees a (y ∷ names)
sees_more y a names i x m = mem_there x y names (i x m)

sees_both : (y : Part) (a names : List Part) → Sees a names → Sees (y ∷ a) (y ∷ names)
sees_both y a names i x = go (same x y.bytes)
  where
    go : (t : Bool) → (t || mem x a) ≡ true → (t || mem x names) ≡ true
    go true m = refl
    go false m = i x m

module _ {h : Home} {locals own : List Part} {b : ScopeStack} {r : RustState} {s : State} (i : Inner h locals own b r s) (y : Part) where
  -- by def or class
  inner_name : (st : ScopeStack) → View b st (y ∷ s.view) → Inner h locals own b (record { scopes = st; assigned = r.assigned }) (naming y s)
  inner_name st w =
      record {
        home = i.home;
        stack = w;
        unbound = i.unbound;
        rust_sees = sees_more y r.assigned s.view i.rust_sees;
        walk_sees = sees_more y s.assigned s.view i.walk_sees;
      }

  -- by target
  inner_assign : Inner h locals own b (record { scopes = define_new y r.scopes; assigned = y ∷ r.assigned }) (assigning y s)
  inner_assign =
      record {
        home = i.home;
        stack = view_new y i.stack;
        unbound = λ x. go x (same x y.bytes);
        rust_sees = sees_both y r.assigned s.view i.rust_sees;
        walk_sees = sees_both y s.assigned s.view i.walk_sees;
      }
    where
      go : (x : Bytes) (t : Bool) → (mem x locals && not (t || mem x r.assigned)) ≡ (mem x own && not (t || mem x s.assigned))
      go x true = and-false (mem x locals) ∙ sym (and-false (mem x own))
      go x false = i.unbound x

  -- by for: a name that is not local is not put among the Rust's assigned names
  inner_for : Inner h locals own b (for_var_function y locals r) (assigning y s)
  inner_for = go (mem y.bytes locals) refl
    where
      other : mem y.bytes locals ≡ false → (x : Bytes) (t : Bool) → same x y.bytes ≡ t
          → loose locals r.assigned x ≡ (mem x own && not (t || mem x s.assigned))
      other e x true f =
          ap (λ t. t && not (mem x r.assigned)) (ap (λ z. mem z locals) (same_eq x y.bytes f) ∙ e) ∙ sym (and-false (mem x own))
      other e x false f = i.unbound x

      go : (t : Bool) → mem y.bytes locals ≡ t
          → Inner h locals own b (record { scopes = define_new y r.scopes; assigned = cond t (y ∷ r.assigned) r.assigned }) (assigning y s)
      go true e = inner_assign
      go false e =
          record {
            home = i.home;
            stack = view_new y i.stack;
            unbound = λ x. other e x (same x y.bytes) refl;
            rust_sees = sees_more y r.assigned s.view i.rust_sees;
            walk_sees = sees_both y s.assigned s.view i.walk_sees;
          }

-- ---- reads in a def or method
-- own, assigned, in view: what is assigned is in view, so that only own names that are not assigned are told apart
name_law : (o a v : Bool) (e f : SemanticError) → (a ≡ true → v ≡ true) → cond o (check a e) (check v f) ≡ cond (o && not a) (some e) (check v f)
name_law true true v e f h = rw (h refl)
name_law true false v e f h = refl
name_law false a v e f h = refl

plain_law : {order : Order} (o a v : Bool) (f g : Fault)
    → Finds order (cond o (unless a f) (unless v g)) (cond o (check a (error_of f)) (check v (error_of g)))
plain_law true a v f g = finds_unless a f
plain_law false a v f g = finds_unless v g

captures_law : (h : Home) → Function h → (k : Placed) (u : Use) (r : Placed) (o a v : Bool)
    → test (captures k) u h r false o a v ≡ unless (not (o && not a)) (fault_at 13 k r)
captures_law h f k u r true true v = refl
captures_law h f k u r true false v = refl
captures_law in_module f k u r false a v = absurd f
captures_law in_def f k u r false a v = refl
captures_law in_method f k u r false a v = refl

inside_law : (h : Home) → Function h → (u : Use) (r : Placed) (o a v : Bool) → (a ≡ true → v ≡ true) → not (o && not a) ≡ true
    → test inside u h r false o a v ≡ unless v (undefined_here u r)
inside_law h f u r true true v i p = rw (i refl)
inside_law h f u r true false v i p = absurd (false≢true p)
inside_law in_module f u r false a v i p = absurd f
inside_law in_def f u r false a v i p = refl
inside_law in_method f u r false a v i p = refl

-- ---- bodies
-- a body is left by taking its scope off the stack
left : {order : Order} {h : Home} {locals own names : List Part} {b st : ScopeStack} {s : State} {a : Result RustState} {F : List Fault} → View b st names
    → Agrees order (λ r. Inner h locals own st r s) a F → Agrees order (λ st. View b st names) (followed a (λ (r : RustState). ok (pop r.scopes))) F
left {names = names} {b = b} {st = st} w a =
    changed (λ (r : RustState). pop r.scopes) a (λ r i. subst (λ st. View b st names) (sym (open_pop r.scopes st i.stack.opened)) w)

-- a class in a def or method is not walked
unwalked : {order : Order} (h : Home) → Function h → (F : List Fault) {S : Type 0} {R : S → Type 0} {s : S} → R s → Agrees order R (ok s) (in_classes h F)
unwalked in_module f F g = absurd f
unwalked in_def f F g = goes_on g
unwalked in_method f F g = goes_on g

module _ (order : Order) (same_names : Rearranges order) where
  -- ---- expressions of the module
  module _ (s : State) {b st : ScopeStack} (w : View b st s.view) where
    -- a read that is faulty unless its name is in view
    seen_m : (r : Placed) (f : Fault) → unless (mem (name_of r) s.view) f ≡ unless (known st (name_of r)) f
    seen_m r f = ap (λ t. unless t f) (sym (w.seen (name_of r)))

    read_m : (u : Use) (r : Placed) → Finds order (read_in plain u r module_env s) (check (known st (name_of r)) (error_of (undefined_here u r)))
    read_m u r = finds_read (known st (name_of r)) (undefined_here u r) (seen_m r (undefined_here u r))

    mutual
      expr_m : (e : Expr) (n : ℕ) (u : Use) → Finds order (walk_e e n u plain module_env s) (used e u (name_m st) (analyze_expr_module order e st))
      expr_m (var l) n value = read_m value (placed n l)
      expr_m (var l) n (callee r) = read_m (callee r) (placed n l)
      expr_m (node l es) n u = exprs_m es (suc n)
      expr_m (access l es) n u = exprs_m es (suc n)
      expr_m (tuple l es) n u = exprs_m es (suc n)
      expr_m (call l f es) n u = finds_both (expr_m f (suc n) (callee (placed n l))) (exprs_m es (suc n + len_e f))
      expr_m (lambda l e) n u =
          lambda_finds order same_names l e n u 10 (known st) module_env s refl (λ u r. seen_m r (fault_at 10 (placed n l) r))
          (λ f. finds_as (used_value e (analyze_expr_module order e (pushed l.params st))) (under_m order same_names s e (suc n) value l.params (l.params ++ []) st f))

      exprs_m : (es : Exprs) (n : ℕ) → Finds order (walk_es es n plain module_env s) (analyze_exprs_module order es st)
      exprs_m enil n = nothing
      exprs_m (econs e es) n = finds_both (finds_as (used_value e (analyze_expr_module order e st)) (expr_m e n value)) (exprs_m es (n + len_e e))

    value_m : (e : Expr) (n : ℕ) → Finds order (walk_e e n value plain module_env s) (analyze_expr_module order e st)
    value_m e n = finds_as (used_value e (analyze_expr_module order e st)) (expr_m e n value)

  -- ---- expressions of a def or method
  module _ {h : Home} {locals own : List Part} {b : ScopeStack} {r : RustState} {s : State} (i : Inner h locals own b r s) where
    read_f : (u : Use) (p : Placed) → Finds order (read_in plain u p (within h own) s)
        (check_name locals r.assigned r.scopes (name_of p) (error_of (unbound_here u p)) (error_of (undefined_here u p)))
    read_f u p =
        let x = name_of p in
        let e = error_of (unbound_here u p) in
        let f = error_of (undefined_here u p) in
        finds_as (name_law (mem x own) (mem x s.assigned) (mem x s.view) e f (i.walk_sees x)
        ∙ ap₂ (λ c d. cond c (some e) (check d f)) (sym (i.unbound x)) (sym (i.stack.seen x))
        ∙ sym (name_law (mem x locals) (mem x r.assigned) (known r.scopes x) e f (λ m. i.stack.seen x ∙ i.rust_sees x m)))
        (plain_law (mem x own) (mem x s.assigned) (mem x s.view) (unbound_here u p) (undefined_here u p))

    captures_f : (k : Placed) → Captures k 13 (held locals r.assigned) (within h own) s
    captures_f k u p =
        let x = name_of p in
        captures_law h i.home k u p (mem x own) (mem x s.assigned) (mem x s.view)
        ∙ ap (λ t. unless (not t) (fault_at 13 k p)) (sym (i.unbound x))

    inside_f : Inside (held locals r.assigned) (within h own) s r.scopes
    inside_f u p m =
        let x = name_of p in
        inside_law h i.home u p (mem x own) (mem x s.assigned) (mem x s.view) (i.walk_sees x) (ap not (sym (i.unbound x)) ∙ m)
        ∙ ap (λ t. unless t (undefined_here u p)) (sym (i.stack.seen x))

    mutual
      expr_f : (e : Expr) (n : ℕ) (u : Use)
          → Finds order (walk_e e n u plain (within h own) s)
          (used e u (name_f locals r.assigned r.scopes) (analyze_expr_function order e r.scopes locals r.assigned))
      expr_f (var l) n value = read_f value (placed n l)
      expr_f (var l) n (callee c) = read_f (callee c) (placed n l)
      expr_f (node l es) n u = exprs_f es (suc n)
      expr_f (access l es) n u = exprs_f es (suc n)
      expr_f (tuple l es) n u = exprs_f es (suc n)
      expr_f (call l f es) n u = finds_both (expr_f f (suc n) (callee (placed n l))) (exprs_f es (suc n + len_e f))
      expr_f (lambda l e) n u =
          lambda_finds order same_names l e n u 13 (held locals r.assigned) (within h own) s refl (captures_f (placed n l))
          (λ f. finds_as (used_value e (analyze_expr_function order e (pushed l.params r.scopes) l.params l.params))
          (under_f order same_names s e (suc n) value l.params (held locals r.assigned) r.scopes (with_params l.params (within h own))
          (inside_under l.params (held locals r.assigned) (within h own) s r.scopes inside_f) f))

      exprs_f : (es : Exprs) (n : ℕ) → Finds order (walk_es es n plain (within h own) s) (analyze_exprs_function order es r.scopes locals r.assigned)
      exprs_f enil n = nothing
      exprs_f (econs e es) n =
          finds_both (finds_as (used_value e (analyze_expr_function order e r.scopes locals r.assigned)) (expr_f e n value)) (exprs_f es (n + len_e e))

    value_f : (e : Expr) (n : ℕ) → Finds order (walk_e e n value plain (within h own) s) (analyze_expr_function order e r.scopes locals r.assigned)
    value_f e n = finds_as (used_value e (analyze_expr_function order e r.scopes locals r.assigned)) (expr_f e n value)

  -- ---- targets
  mutual
    target_m : (t : Expr) (n : ℕ) (s : State) {b st : ScopeStack} → View b st s.view
        → Agrees order (λ st. View b st (after_t t s).view) (validate_and_analyze_assign_target order t st) (walk_t t n module_env s)
    target_m (var l) n s w = goes_on (view_new l.name w)
    target_m (node l es) n s w = stops stops_first
    target_m (access l es) n s {st = st} w = only_check (exprs_m s w es (suc n)) st w
    target_m (tuple l es) n s w = targets_m es (suc n) s w
    target_m (call l f es) n s w = stops stops_first
    target_m (lambda l e) n s w = stops stops_first

    targets_m : (es : Exprs) (n : ℕ) (s : State) {b st : ScopeStack} → View b st s.view
        → Agrees order (λ st. View b st (after_ts es s).view) (validate_and_analyze_assign_targets order es st) (walk_ts es n module_env s)
    targets_m enil n s w = goes_on w
    targets_m (econs e es) n s w =
        in_turn (λ st. validate_and_analyze_assign_targets order es st) (target_m e n s w) (λ st w. targets_m es (n + len_e e) (after_t e s) w)

  module _ {h : Home} {locals own : List Part} {b : ScopeStack} where
    mutual
      target_f : (t : Expr) (n : ℕ) {r : RustState} {s : State} → Inner h locals own b r s
          → Agrees order (λ r. Inner h locals own b r (after_t t s)) (validate_and_analyze_assign_target_function order t locals r) (walk_t t n (within h own) s)
      target_f (var l) n i = goes_on (inner_assign i l.name)
      target_f (node l es) n i = stops stops_first
      target_f (access l es) n {r} i = only_check (exprs_f i es (suc n)) r i
      target_f (tuple l es) n i = targets_f es (suc n) i
      target_f (call l f es) n i = stops stops_first
      target_f (lambda l e) n i = stops stops_first

      targets_f : (es : Exprs) (n : ℕ) {r : RustState} {s : State} → Inner h locals own b r s
          → Agrees order (λ r. Inner h locals own b r (after_ts es s)) (validate_and_analyze_assign_targets_function order es locals r)
          (walk_ts es n (within h own) s)
      targets_f enil n i = goes_on i
      targets_f (econs e es) n i =
          in_turn (λ r. validate_and_analyze_assign_targets_function order es locals r) (target_f e n i) (λ r i. targets_f es (n + len_e e) i)

  -- ---- statements
  mutual
    stmt_f : (t : Stmt) (n : ℕ) {h : Home} {locals own : List Part} {b : ScopeStack} {r : RustState} {s : State} → Inner h locals own b r s
        → Agrees order (λ r. Inner h locals own b r (after_s t s)) (analyze_stmt_function order t locals r) (walk_s t n (within h own) s)
    stmt_f (simple l es) n {r = r} i = only_check (exprs_f i es (suc n)) r i
    stmt_f (assign l e t) n i = after_check (value_f i e (suc n)) (target_f t (suc n + len_e e) i)
    stmt_f (block l c b) n i = after_check (value_f i c (suc n)) (stmts_f b (suc n + len_e c) i)
    stmt_f (choice l c b k e) n {locals = locals} i =
        after_check (value_f i c (suc n))
        (in_turn (λ r. followed (analyze_stmts_function order k locals r) (λ r. analyze_stmts_function order e locals r)) (stmts_f b (suc n + len_e c) i) (λ r i.
        in_turn (λ r. analyze_stmts_function order e locals r) (stmts_f k (suc n + len_e c + len_ss b) i) (λ r i.
        stmts_f e (suc n + len_e c + len_ss b + len_ss k) i)))
    stmt_f (for l e b) n i = after_check (value_f i e (suc n)) (stmts_f b (suc n + len_e e) (inner_for i l.name))
    stmt_f (def l b) n {r = r} {s = s} i =
        let w = view_new l.name i.stack in
        let own = l.params ++ collect_locals b in
        changed (λ st. record { scopes = st; assigned = r.assigned })
        (left w (stmts_f b (suc n) (inner_enter in_def tt own own l.params (naming l.name s) (λ x. refl) w))) (inner_name i l.name)
    stmt_f (class l ms ats) n {h} {r = r} {s = s} i =
        unwalked h i.home (walk_ms ms (suc n) l (naming l.name s))
        (inner_name i l.name (define l.name r.scopes) (view_define l.name i.stack))

    stmts_f : (ts : Stmts) (n : ℕ) {h : Home} {locals own : List Part} {b : ScopeStack} {r : RustState} {s : State} → Inner h locals own b r s
        → Agrees order (λ r. Inner h locals own b r (after_ss ts s)) (analyze_stmts_function order ts locals r) (walk_ss ts n (within h own) s)
    stmts_f snil n i = goes_on i
    stmts_f (scons t ts) n {locals = locals} i = in_turn (λ r. analyze_stmts_function order ts locals r) (stmt_f t n i) (λ r i. stmts_f ts (n + len_s t) i)

  methods : (ms : Methods) (n : ℕ) (c : Line) (s : State) {b st : ScopeStack} → View b st s.view
      → Agrees order (λ st. View b st s.view) (analyze_methods order ms c st) (walk_ms ms n c s)
  methods mnil n c s w = goes_on w
  methods (mcons l b ms) n c s w =
      after_check (finds_unless (not (lacks_self l.params)) (selfless n l c))
      (in_turn (λ st. analyze_methods order ms c st)
      (left w (stmts_f b (suc n) (inner_enter in_method tt l.params [] l.params s (λ x. and-not_self (mem x l.params)) w)))
      (λ st w. methods ms (suc n + len_ss b) c s w))

  mutual
    stmt_m : (t : Stmt) (n : ℕ) (s : State) {b st : ScopeStack} → View b st s.view
        → Agrees order (λ st. View b st (after_s t s).view) (analyze_stmt_module order t st) (walk_s t n module_env s)
    stmt_m (simple l es) n s {st = st} w = only_check (exprs_m s w es (suc n)) st w
    stmt_m (assign l e t) n s w = after_check (value_m s w e (suc n)) (target_m t (suc n + len_e e) s w)
    stmt_m (block l c b) n s w = after_check (value_m s w c (suc n)) (stmts_m b (suc n + len_e c) s w)
    stmt_m (choice l c b k e) n s w =
        after_check (value_m s w c (suc n))
        (in_turn (λ st. followed (analyze_stmts_module order k st) (λ st. analyze_stmts_module order e st)) (stmts_m b (suc n + len_e c) s w) (λ st w.
        in_turn (λ st. analyze_stmts_module order e st) (stmts_m k (suc n + len_e c + len_ss b) (after_ss b s) w) (λ st w.
        stmts_m e (suc n + len_e c + len_ss b + len_ss k) (after_ss k (after_ss b s)) w)))
    stmt_m (for l e b) n s w = after_check (value_m s w e (suc n)) (stmts_m b (suc n + len_e e) (assigning l.name s) (view_define l.name w))
    stmt_m (def l b) n s w =
        let v = view_define l.name w in
        let own = l.params ++ collect_locals b in
        left v (stmts_f b (suc n) (inner_enter in_def tt own own l.params (naming l.name s) (λ x. refl) v))
    stmt_m (class l ms ats) n s w = methods ms (suc n) l (naming l.name s) (view_define l.name w)

    stmts_m : (ts : Stmts) (n : ℕ) (s : State) {b st : ScopeStack} → View b st s.view
        → Agrees order (λ st. View b st (after_ss ts s).view) (analyze_stmts_module order ts st) (walk_ss ts n module_env s)
    stmts_m snil n s w = goes_on w
    stmts_m (scons t ts) n s w = in_turn (λ st. analyze_stmts_module order ts st) (stmt_m t n s w) (λ st w. stmts_m ts (n + len_s t) (after_s t s) w)

  -- ---- the tree
  pub rust_finds : (t : Tree) → Finds order (walk t) (analyze_with_globals order t)
  rust_finds t = answered (stmts_m t.body (first_line t) (start_state t) (view_start t.globals))
