-- A name is bound, earlier, in the block of a lambda between a visited line and its home exactly when it is a parameter of such a lambda.
-- By induction over the tree each lambda between is a visited line before, and no home's block is a lambda's: what is bound in a lambda's
-- block is bound by the line of that number, and that is the lambda.
use Rattle.std.proofs.Common.{ℕ, suc, ◌≤◌, ◌<◌, arith, le_refl, le_trans, ◌≡◌, refl, sym, ap, ◌∙◌, subst, ◌↔◌, ◌⊎◌, inl, inr, ⊎_elim, List, [], ◌∷◌, ◌++◌}
use Rattle.std.proofs.lemmas.Bool.{false≢true}
use Rattle.spec_text.specs.Bytes.{Part, In, here, there}
use Rattle.spec_text.specs.Tree.{Line, Expr, Exprs, Attrs, Stmt, Stmts, Methods, Tree, var, node, access, tuple, call, lambda, enil, econs, anil, acons, simple, assign, block, choice, for, def, class, snil, scons, mnil, mcons, first_line}
use Rattle.spec_faults.specs.Builtins.{builtin_names}
use Rattle.spec_faults.specs.Position.{Placed, Home, in_module, in_def, in_method, Where, numbers, at_module, under_lambda, under_block, Use, value, Role, is_read, is_target, is_refused, is_def, is_class, is_lambda, is_other, is_for, is_method, Visited, stands, under_class, lines_e, lines_es, lines_t, lines_ts, lines_as, lines_s, lines_ss, lines_ms, visited}
use Rattle.spec_faults.specs.Bindings.{by_param, given, Binding, bind, params, bound_by, bound_at, bound_in, given_to, bindings}
use Rattle.spec_faults.specs.Rule.{Bound, LambdaParam}
use Rattle.spec_faults.proofs.Ascending.{ascend_in, ascend_only, visited_ascend}
use Rattle.spec_faults.proofs.Lists.{in_left, in_right, in_either, in_map, map_in}

-- ---- a binding and the line that makes it
in_bound : {b : Binding} {v : Visited} {vs : List Visited} → In v vs → In b (bound_at v) → In b (bound_in vs)
in_bound here i = in_left _ i
in_bound (there {b = u} j) i = in_right (bound_at u) (in_bound j i)

bound_in_lem : {b : Binding} (vs : List Visited) → In b (bound_in vs) → (v : Visited) × In v vs × In b (bound_at v)
bound_in_lem [] i = elim i [ ]
bound_in_lem (v ∷ vs) i = ⊎_elim (λ j. (v, here, j)) (λ j. let p = bound_in_lem vs j in (p.0, there p.1, p.2)) (in_either (bound_at v) i)

-- it is in the block of the line's home, or a parameter of the line
home_or_param : (r : Role) (n : ℕ) (l : Line) (k : ℕ) {b : Binding} → In b (bound_by r n l k) → (b.block ≡ k) ⊎ In b (params n l)
home_or_param (is_read u) n l k i = elim i [ ]
home_or_param is_target n l k here = inl refl
home_or_param is_target n l k (there i) = elim i [ ]
home_or_param is_refused n l k i = elim i [ ]
home_or_param is_def n l k here = inl refl
home_or_param is_def n l k (there i) = inr i
home_or_param is_class n l k here = inl refl
home_or_param is_class n l k (there i) = elim i [ ]
home_or_param is_lambda n l k i = inr i
home_or_param is_other n l k i = elim i [ ]
home_or_param (is_for m) n l k here = inl refl
home_or_param (is_for m) n l k (there i) = elim i [ ]
home_or_param (is_method c) n l k i = inr i

module _ (t : Tree) where
  -- a visited lambda
  abbrev Lambda : Placed → Type 0
  Lambda q = (w : Where) × In (stands q.number q.line is_lambda w) (visited t)

  -- a place at line n: each lambda between it and its home is visited and stands earlier, and the home's block is not a lambda's
  record Sited (n : ℕ) (w : Where) : Type 0 where
    lambdas : (q : Placed) → In q w.lambdas → (q.number < n) × Lambda q
    block : (q : Placed) → Lambda q → w.block ≡ q.number → ⊥

  same_line : {u v : Visited} → In u (visited t) → In v (visited t) → u.number ≡ v.number → u ≡ v
  same_line i j e = ascend_only (visited_ascend t) i j e

  at_start : Sited (first_line t) at_module
  at_start =
      record {
        lambdas = λ q i. elim i [ ];
        block = λ q s e. let h : first_line t ≤ q.number = ascend_in (visited_ascend t) s.1 in omega arith;
      }

  later : {n m : ℕ} {w : Where} → n ≤ m → Sited n w → Sited m w
  later h s = record { lambdas = λ q i. let l = s.lambdas q i in (le_trans l.0 h, l.1); block = s.block }

  -- the body of a visited lambda, and of a visited def or method
  in_lambda_lem : {n : ℕ} {l : Line} {w : Where} → In (stands n l is_lambda w) (visited t) → Sited (suc n) w → Sited (suc n) (under_lambda n l w)
  in_lambda_lem {n} {l} {w} v s = record { lambdas = go; block = s.block }
    where
      go : (q : Placed) → In q (under_lambda n l w).lambdas → (q.number < suc n) × Lambda q
      go q here = (le_refl (suc n), (w, v))
      go q (there i) = s.lambdas q i

  in_block : {n : ℕ} {l : Line} {r : Role} {w : Where} {h : Home} → In (stands n l r w) (visited t) → (r ≡ is_lambda → ⊥) → Sited (suc n) (under_block h n w)
  in_block v d = record { lambdas = λ q i. elim i [ ]; block = λ q s e. d (ap (λ (u : Visited). u.role) (same_line v s.1 e)) }

  -- ---- the lines of a part, if all are visited, are sited: nothing, a line and what follows it, two parts
  abbrev AllSited : List Visited → Type 0
  AllSited vs = ((v : Visited) → In v vs → In v (visited t)) → (v : Visited) → In v vs → Sited v.number v.at

  nothing : AllSited []
  nothing h v i = elim i [ ]

  first : {v : Visited} {vs : List Visited} → Sited v.number v.at → (In v (visited t) → AllSited vs) → AllSited (v ∷ vs)
  first s f h v here = s
  first {v = u} s f h v (there i) = f (h u here) (λ w j. h w (there j)) v i

  both : (a : List Visited) {b : List Visited} → AllSited a → AllSited b → AllSited (a ++ b)
  both a {b} f g h v i = ⊎_elim (f (λ w j. h w (in_left b j)) v) (g (λ w j. h w (in_right a j)) v) (in_either a i)

  in_class_lem : (h : Home) {vs : List Visited} → AllSited vs → AllSited (under_class h vs)
  in_class_lem in_module f = f
  in_class_lem in_def f = nothing
  in_class_lem in_method f = nothing

  mutual
    sited_e : (e : Expr) (n : ℕ) (u : Use) (w : Where) → Sited n w → AllSited (lines_e e n u w)
    sited_e (var l) n u w s = first s (λ v. nothing)
    sited_e (node l es) n u w s = first s (λ v. sited_es es _ w (later (omega arith) s))
    sited_e (access l es) n u w s = first s (λ v. sited_es es _ w (later (omega arith) s))
    sited_e (tuple l es) n u w s = first s (λ v. sited_es es _ w (later (omega arith) s))
    sited_e (call l f es) n u w s = first s (λ v. both _ (sited_e f _ _ w (later (omega arith) s)) (sited_es es _ w (later (omega arith) s)))
    sited_e (lambda l e) n u w s = first s (λ v. sited_e e _ value _ (in_lambda_lem v (later (omega arith) s)))

    sited_es : (es : Exprs) (n : ℕ) (w : Where) → Sited n w → AllSited (lines_es es n w)
    sited_es enil n w s = nothing
    sited_es (econs e es) n w s = both _ (sited_e e n value w s) (sited_es es _ w (later (omega arith) s))

  mutual
    sited_t : (e : Expr) (n : ℕ) (w : Where) → Sited n w → AllSited (lines_t e n w)
    sited_t (var l) n w s = first s (λ v. nothing)
    sited_t (node l es) n w s = first s (λ v. nothing)
    sited_t (access l es) n w s = first s (λ v. sited_es es _ w (later (omega arith) s))
    sited_t (tuple l es) n w s = first s (λ v. sited_ts es _ w (later (omega arith) s))
    sited_t (call l f es) n w s = first s (λ v. nothing)
    sited_t (lambda l e) n w s = first s (λ v. nothing)

    sited_ts : (es : Exprs) (n : ℕ) (w : Where) → Sited n w → AllSited (lines_ts es n w)
    sited_ts enil n w s = nothing
    sited_ts (econs e es) n w s = both _ (sited_t e n w s) (sited_ts es _ w (later (omega arith) s))

  sited_as : (ats : Attrs) (n : ℕ) (w : Where) → Sited n w → AllSited (lines_as ats n w)
  sited_as anil n w s = nothing
  sited_as (acons l e ats) n w s = first s (λ v. sited_as ats _ w (later (omega arith) s))

  mutual
    sited_s : (st : Stmt) (n : ℕ) (w : Where) → Sited n w → AllSited (lines_s st n w)
    sited_s (simple l es) n w s = first s (λ v. sited_es es _ w (later (omega arith) s))
    sited_s (assign l e t) n w s = first s (λ v. both _ (sited_e e _ value w (later (omega arith) s)) (sited_t t _ w (later (omega arith) s)))
    sited_s (block l c b) n w s = first s (λ v. both _ (sited_e c _ value w (later (omega arith) s)) (sited_ss b _ w (later (omega arith) s)))
    sited_s (choice l c b k e) n w s =
        first s (λ v. both _ (sited_e c _ value w (later (omega arith) s))
        (both _ (sited_ss b _ w (later (omega arith) s)) (both _ (sited_ss k _ w (later (omega arith) s)) (sited_ss e _ w (later (omega arith) s)))))
    sited_s (for l e b) n w s = first s (λ v. both _ (sited_e e _ value w (later (omega arith) s)) (sited_ss b _ w (later (omega arith) s)))
    sited_s (def l b) n w s = first s (λ v. sited_ss b _ _ (in_block v (λ e. false≢true cc)))
    sited_s (class l ms ats) n w s =
        first s (λ v. in_class_lem w.home (both _ (sited_ms ms _ l w (later (omega arith) s)) (sited_as ats _ w (later (omega arith) s))))

    sited_ss : (ss : Stmts) (n : ℕ) (w : Where) → Sited n w → AllSited (lines_ss ss n w)
    sited_ss snil n w s = nothing
    sited_ss (scons st ss) n w s = both _ (sited_s st n w s) (sited_ss ss _ w (later (omega arith) s))

    sited_ms : (ms : Methods) (n : ℕ) (c : Line) (w : Where) → Sited n w → AllSited (lines_ms ms n c w)
    sited_ms mnil n c w s = nothing
    sited_ms (mcons l b ms) n c w s =
        first s (λ v. both _ (sited_ss b _ _ (in_block v (λ e. false≢true cc))) (sited_ms ms _ c w (later (omega arith) s)))

  visited_sited : (v : Visited) → In v (visited t) → Sited v.number v.at
  visited_sited v i = sited_ss t.body (first_line t) at_module at_start (λ u j. j) v i

  -- ---- what is bound in the block of a lambda is one of its parameters
  -- Not given, for that is in the module; not in the block of a line's home; so a parameter, and of the line of that number.
  abbrev NameOf : Placed → Binding → Type 0
  NameOf q b = (p : Part) × In p q.line.params × (p ≡ b.name)

  param_of : (q : Placed) → Lambda q → {b : Binding} → In b (bindings t) → b.block ≡ q.number → NameOf q b
  param_of q s {b} i e = ⊎_elim given_to_lem bound_by_lem (in_either (given_to t) i)
    where
      given_to_lem : In b (given_to t) → NameOf q b
      given_to_lem j = absurd (at_start.block q s (ap (λ (c : Binding). c.block) (map_in (bind given 1 1) (builtin_names ++ t.globals) j).2 ∙ e))

      by_line : (v : Visited) → In v (visited t) → In b (params v.number v.line) → NameOf q b
      by_line v j k =
          let p = map_in (bind by_param v.number (suc v.number)) v.line.params k in
          let d : v ≡ stands q.number q.line is_lambda s.0 = same_line j s.1 (ap (λ (c : Binding). c.block) p.2 ∙ e) in
          (p.0, subst (λ (u : Visited). In p.0 u.line.params) d p.1, ap (λ (c : Binding). c.name) p.2)

      bound_by_lem : In b (bound_in (visited t)) → NameOf q b
      bound_by_lem j =
          let l = bound_in_lem (visited t) j in
          let v = l.0 in
          ⊎_elim (λ d. absurd ((visited_sited v l.1).block q s (sym d ∙ e))) (by_line v l.1) (home_or_param v.role v.number v.line v.at.block l.2)

-- ---- a visited line's name is bound there exactly when it is such a parameter
pub lambda_param_lem : (t : Tree) (v : Visited) → In v (visited t) → Bound t v (numbers v.at.lambdas) ↔ LambdaParam v
lambda_param_lem t v i = (to, from)
  where
    between : (q : Placed) → In q v.at.lambdas → (q.number < v.number) × Lambda t q
    between = (visited_sited t v i).lambdas

    to : Bound t v (numbers v.at.lambdas) → LambdaParam v
    to f =
        let b = f.bound in
        let m = map_in (λ (q : Placed). q.number) v.at.lambdas b.block in
        let p = param_of t m.0 (between m.0 m.1).1 b.among (sym m.2) in
        record { lambda = m.0; param = p.0; between = m.1; of_it = p.1; name = ap (λ (y : Part). y.bytes) p.2 ∙ b.name }

    from : LambdaParam v → Bound t v (numbers v.at.lambdas)
    from p =
        let q = p.lambda in
        let s = between q p.between in
        let by = bind by_param q.number (suc q.number) in
        record {
          bound = record {
            binding = by p.param;
            among = in_right (given_to t) (in_bound s.1.1 (in_map by p.of_it));
            name = p.name;
            block = in_map (λ (q : Placed). q.number) p.between;
          };
          earlier = s.0;
        }
