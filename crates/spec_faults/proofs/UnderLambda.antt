-- What else is faulty under a lambda, where the check of its captures passes: the Rust's walk of the body finds what the walk lists inside.
-- In the module nothing is left; in a def or method, the names that are not in view.
use Rattle.std.proofs.Common.{ℕ, suc, ◌+◌, ◌≡◌, refl, sym, ap, ◌∙◌, Bool, true, false, cond, not, ◌&&◌, ◌||◌, true≢false, List, [], ◌∷◌, ◌++◌}
use Rattle.std.proofs.Math.Bool.{and-not_self}
use Rattle.std.proofs.Math.Option.{none}
use Rattle.spec_text.specs.Bytes.{Bytes, Part, mem}
use Rattle.spec_text.specs.Tree.{Line, Expr, Exprs, var, node, access, tuple, call, lambda, enil, econs, len_e}
use Rattle.spec_faults.specs.Position.{Placed, in_module, Use, value, callee}
use Rattle.spec_faults.specs.Faults.{Fault, undefined_here, unless}
use Rattle.spec_faults.specs.Rust.{ScopeStack, known, SemanticError, error, Checked, check, and_then, check_name, callee_or, collect_free_vars, collect_free_vars_all, check_captured, Order, Rearranges, analyze_expr_module, analyze_exprs_module, analyze_expr_function, analyze_exprs_function, error_of}
use Rattle.spec_faults.proofs.ListingWalk.{State, Env, with_params, inside, walk_e, walk_es}
use Rattle.spec_faults.proofs.Stack.{pushed, known_enter}
use Rattle.spec_faults.proofs.Finds.{Finds, nothing, finds_as, finds_both, finds_read}
use Rattle.spec_faults.proofs.FreeNames.{Fine, bound, fine_append, fine_one, fine_free, Looked, pass, fail, looked_through}
use Rattle.spec_faults.proofs.Captured.{placed, name_of, read_in, read_under}

-- ---- a check by its use
-- the Rust's check of an expression by its use: for a callee that is a name, `name` at the line of the call
abbrev by_use : Use → (Line → Checked) → Checked → Checked
by_use value name c = c
by_use (callee r) name c = name r.line

abbrev pub used : Expr → Use → (Bytes → Line → Checked) → Checked → Checked
used e u name c = callee_or e (λ x. by_use u (name x) c) c

pub used_value : (e : Expr) (c : Checked) → callee_or e (λ x. c) c ≡ c
used_value (var l) c = refl
used_value (node l es) c = refl
used_value (access l es) c = refl
used_value (tuple l es) c = refl
used_value (call l f es) c = refl
used_value (lambda l e) c = refl

-- a callee that is a name, in the module and in a function
abbrev pub name_m : ScopeStack → Bytes → Line → Checked
name_m st x l = check (known st x) (error 9 x [] l)

abbrev pub name_f : List Part → List Part → ScopeStack → Bytes → Line → Checked
name_f locals assigned st x l = check_name locals assigned st x (error 12 x [] l) (error 9 x [] l)

-- ---- reads inside
-- in the module nothing else is faulty: each free name is known
abbrev under_env : List Part → Env
under_env qs = record { home = in_module; locals = []; params = qs }

known_m : {order : Order} (x : Part) (ps qs : List Part) (st : ScopeStack) (e : SemanticError)
    → Fine (known st) (cond (mem x.bytes ps) [] (x ∷ [])) → Finds order (cond (mem x.bytes qs) [] []) (check (known (pushed ps st) x.bytes) e)
known_m {order} x ps qs st e f =
    finds_as (ap (λ t. check t e) (sym (known_enter x.bytes ps st ∙ fine_one (known st) ps x f))) (go (mem x.bytes qs))
  where
    go : (b : Bool) → Finds order (cond b [] []) none
    go true = nothing
    go false = nothing

-- inside, where its name passes g, a read is faulty unless the Rust knows its name
abbrev pub Inside : (Bytes → Bool) → Env → State → ScopeStack → Type 0
Inside g v s st = (u : Use) (r : Placed) → g (name_of r) ≡ true → read_in inside u r v s ≡ unless (known st (name_of r)) (undefined_here u r)

pub inside_under : (ps : List Part) (g : Bytes → Bool) (v : Env) (s : State) (st : ScopeStack) → Inside g v s st
    → Inside (bound ps g) (with_params ps v) s (pushed ps st)
inside_under ps g v s st c u r h =
    read_under inside u r ps v s (known st (name_of r)) (undefined_here u r) (λ e. c u r (sym (ap (λ t. t || g (name_of r)) e) ∙ h))
    ∙ ap (λ t. unless t (undefined_here u r)) (sym (known_enter (name_of r) ps st))

-- In a function the locals of a lambda's body are its parameters, and all of them are assigned: a name there is faulty unless it is known,
-- and an inner lambda captures nothing unbound.
known_f : {order : Order} (u : Use) (r : Placed) (ps : List Part) (g : Bytes → Bool) (v : Env) (s : State) (st : ScopeStack) (e : SemanticError)
    → Inside (bound ps g) v s (pushed ps st) → Fine g (cond (mem (name_of r) ps) [] (r.line.name ∷ []))
    → Finds order (read_in inside u r v s) (check_name ps ps (pushed ps st) (name_of r) e (error_of (undefined_here u r)))
known_f u r ps g v s st e c f =
    finds_as (go (mem (name_of r) ps) (known (pushed ps st) (name_of r)) (known_enter (name_of r) ps st))
    (finds_read (known (pushed ps st) (name_of r)) (undefined_here u r) (c u r (fine_one g ps r.line.name f)))
  where
    go : (b t : Bool) → t ≡ (b || known st (name_of r)) → check t (error_of (undefined_here u r)) ≡ cond b (check b e) (check t (error_of (undefined_here u r)))
    go true t h = rw h
    go false t h = refl

-- ---- bodies
-- the check of an inner lambda passes
skip : (order : Order) → Rearranges order → (l : Line) (i : ℕ) (g : Bytes → Bool) (xs : List Part) {F : List Fault} {c : Checked} → Fine g xs → Finds order F c
    → Finds order F (and_then (check_captured i l g (order l xs)) c)
skip order same_names l i g xs {F} {c} f h = go (looked_through order same_names i l g xs)
  where
    go : {d : Checked} → Looked i l g xs d → Finds order F (and_then d c)
    go (pass f) = h
    go (fail y m n) = absurd (true≢false (sym (f y m) ∙ n))

module _ (order : Order) (same_names : Rearranges order) (s : State) where
  mutual
    pub under_m : (e : Expr) (n : ℕ) (u : Use) (ps qs : List Part) (st : ScopeStack) → Fine (known st) (collect_free_vars e ps)
        → Finds order (walk_e e n u inside (under_env qs) s) (used e u (name_m (pushed ps st)) (analyze_expr_module order e (pushed ps st)))
    under_m (var l) n value ps qs st f = known_m l.name ps qs st (error 8 l.name.bytes [] l) f
    under_m (var l) n (callee r) ps qs st f = known_m l.name ps qs st (error 9 l.name.bytes [] r.line) f
    under_m (node l es) n u ps qs st f = under_ms es (suc n) ps qs st f
    under_m (access l es) n u ps qs st f = under_ms es (suc n) ps qs st f
    under_m (tuple l es) n u ps qs st f = under_ms es (suc n) ps qs st f
    under_m (call l h es) n u ps qs st f =
        let p = fine_append (known st) (collect_free_vars h ps) (collect_free_vars_all es ps) f in
        finds_both (under_m h (suc n) (callee (placed n l)) ps qs st p.0) (under_ms es (suc n + len_e h) ps qs st p.1)
    under_m (lambda l e) n u ps qs st f =
        let xs = collect_free_vars e l.params in
        let q : Fine (known (pushed ps st)) xs = λ x m. known_enter x ps st ∙ fine_free (known st) ps xs f x m in
        skip order same_names l 10 (known (pushed ps st)) xs q
        (finds_as (used_value e (analyze_expr_module order e (pushed l.params (pushed ps st))))
        (under_m e (suc n) value l.params (l.params ++ qs) (pushed ps st) q))

    under_ms : (es : Exprs) (n : ℕ) (ps qs : List Part) (st : ScopeStack) → Fine (known st) (collect_free_vars_all es ps)
        → Finds order (walk_es es n inside (under_env qs) s) (analyze_exprs_module order es (pushed ps st))
    under_ms enil n ps qs st f = nothing
    under_ms (econs e es) n ps qs st f =
        let p = fine_append (known st) (collect_free_vars e ps) (collect_free_vars_all es ps) f in
        finds_both (finds_as (used_value e (analyze_expr_module order e (pushed ps st))) (under_m e n value ps qs st p.0))
        (under_ms es (n + len_e e) ps qs st p.1)

  mutual
    pub under_f : (e : Expr) (n : ℕ) (u : Use) (ps : List Part) (g : Bytes → Bool) (st : ScopeStack) (v : Env) → Inside (bound ps g) v s (pushed ps st)
        → Fine g (collect_free_vars e ps)
        → Finds order (walk_e e n u inside v s) (used e u (name_f ps ps (pushed ps st)) (analyze_expr_function order e (pushed ps st) ps ps))
    under_f (var l) n value ps g st v c f = known_f value (placed n l) ps g v s st _ c f
    under_f (var l) n (callee r) ps g st v c f = known_f (callee r) (placed n l) ps g v s st _ c f
    under_f (node l es) n u ps g st v c f = under_fs es (suc n) ps g st v c f
    under_f (access l es) n u ps g st v c f = under_fs es (suc n) ps g st v c f
    under_f (tuple l es) n u ps g st v c f = under_fs es (suc n) ps g st v c f
    under_f (call l h es) n u ps g st v c f =
        let p = fine_append g (collect_free_vars h ps) (collect_free_vars_all es ps) f in
        finds_both (under_f h (suc n) (callee (placed n l)) ps g st v c p.0) (under_fs es (suc n + len_e h) ps g st v c p.1)
    under_f (lambda l e) n u ps g st v c f =
        let xs = collect_free_vars e l.params in
        let q = fine_free g ps xs f in
        let unbound : Bytes → Bool = λ x. not (mem x ps && not (mem x ps)) in
        skip order same_names l 13 unbound xs (λ x m. ap not (and-not_self (mem x ps)))
        (finds_as (used_value e (analyze_expr_function order e (pushed l.params (pushed ps st)) l.params l.params))
        (under_f e (suc n) value l.params (bound ps g) (pushed ps st) (with_params l.params v)
        (inside_under l.params (bound ps g) v s (pushed ps st) c) q))

    under_fs : (es : Exprs) (n : ℕ) (ps : List Part) (g : Bytes → Bool) (st : ScopeStack) (v : Env) → Inside (bound ps g) v s (pushed ps st)
        → Fine g (collect_free_vars_all es ps) → Finds order (walk_es es n inside v s) (analyze_exprs_function order es (pushed ps st) ps ps)
    under_fs enil n ps g st v c f = nothing
    under_fs (econs e es) n ps g st v c f =
        let p = fine_append g (collect_free_vars e ps) (collect_free_vars_all es ps) f in
        finds_both (finds_as (used_value e (analyze_expr_function order e (pushed ps st) ps ps)) (under_f e n value ps g st v c p.0))
        (under_fs es (n + len_e e) ps g st v c p.1)
