-- What the walk in the text's order carries at a line is what stands earlier there (`At`), and so the faults by position of an expression are
-- those that the walk gives. Expressions change nothing but the parameters of the lambdas around.
use Rattle.std.proofs.Common.{ℕ, suc, ◌+◌, ◌≤◌, ◌<◌, arith, ◌≡◌, refl, sym, ap, ap₂, ◌∙◌, Bool, false, ◌&&◌, ◌||◌, List, [], ◌∷◌, ◌++◌, append_assoc, append-nil, map, eqb, le-leb}
use Rattle.std.proofs.Math.Bool.{or-false}
use Rattle.spec_text.specs.Bytes.{Bytes, Part, same, mem, any}
use Rattle.spec_text.specs.Tree.{Line, Expr, Exprs, Attrs, var, node, access, tuple, call, lambda, enil, econs, anil, acons, len_e, len_es}
use Rattle.spec_faults.specs.Position.{Home, in_module, in_def, in_method, Where, numbers, path, under_lambda, Use, value, callee, Visited, under_class, lines_e, lines_es, lines_as}
use Rattle.spec_faults.specs.Bindings.{by_param, Binding, bind, params}
use Rattle.spec_faults.specs.Faults.{earlier, bound, lambda_param, own, assigned, Fault, judge_read, fault_of, judge}
use Rattle.spec_faults.proofs.Lists.{mem_append, any_append, Each}
use Rattle.spec_faults.proofs.Bound.{binds_e, binds_es, range_params, range_e, range_es}
use Rattle.spec_faults.proofs.ListingWalk.{State, Env, with_params, in_classes}
use Rattle.spec_faults.proofs.TextWalk.{raw_e, raw_es}
use Rattle.spec_faults.proofs.Earlier.{bound_append, bound_cons, quiet, params_any, param_first}
use Rattle.spec_faults.proofs.Covers.{Owns, owns_first, owns_rest, owns_in}

-- ---- faults of lines, one after the other
judge_append : (B : List Binding) (a b : List Visited) → judge B (a ++ b) ≡ judge B a ++ judge B b
judge_append B [] b = refl
judge_append B (x ∷ a) b = ap (λ t. fault_of B x ++ t) (judge_append B a b) ∙ sym (append_assoc (fault_of B x) (judge B a) (judge B b))

pub judge_two : (B : List Binding) (a b : List Visited) (F G : List Fault) → judge B a ≡ F → judge B b ≡ G → judge B (a ++ b) ≡ F ++ G
judge_two B a b F G p q = judge_append B a b ∙ ap₂ ◌++◌ p q

pub judge_attrs : (B : List Binding) (ats : Attrs) (n : ℕ) (w : Where) → judge B (lines_as ats n w) ≡ []
judge_attrs B anil n w = refl
judge_attrs B (acons l e ats) n w = judge_attrs B ats (suc n + len_e e) w

pub judge_class : (B : List Binding) (h : Home) (a b : List Visited) (F : List Fault) → (h ≡ in_module → judge B a ≡ F) → judge B b ≡ [] → judge B (under_class h (a ++ b)) ≡ in_classes h F
judge_class B in_module a b F p q = judge_two B a b F [] (p refl) q ∙ append-nil F
judge_class B in_def a b F p q = refl
judge_class B in_method a b F p q = refl

module _ (B : List Binding) where
  -- ---- what the walk carries at line r, and what stands earlier there
  pub record At (r : ℕ) (w : Where) (v : Env) (s : State) : Type 0 where
    pub below : Each (λ j. j < r) (path w)
    pub hom : v.home ≡ w.home
    pub ows : (x : Bytes) → mem x v.locals ≡ own w.home x w.block B
    pub par : (x : Bytes) → mem x v.params ≡ bound x (numbers w.lambdas) r B
    pub view : (x : Bytes) → mem x s.view ≡ bound x (path w) r B
    pub asg : (x : Bytes) → mem x s.assigned ≡ assigned x w.block r B

  -- ---- expressions: nothing changes but the parameters of lambdas
  read_ok : (n : ℕ) (l : Line) (u : Use) (w : Where) (v : Env) (s : State) → At n w v s → judge B (lines_e (var l) n u w) ≡ raw_e (var l) n u w.lambdas v s
  read_ok n l u w v s a =
      let x : Bytes = l.name.bytes in
      rw (a.hom, a.par x, a.ows x, a.asg x, a.view x)
      (append-nil _
      ∙ ap (judge_read w.home w.lambdas u (record { number = n; line = l }) (lambda_param x n w B) (own w.home x w.block B) (assigned x w.block n B))
      (bound_append B x (numbers w.lambdas) (path w) n)
      ∙ param_first w.home w.lambdas u (record { number = n; line = l }) (lambda_param x n w B) (own w.home x w.block B) (assigned x w.block n B) (bound x (path w) n B))

  -- the bindings of a block n, at a line r of it, where its own are the parameters and what comes later
  pub block_params : (n r : ℕ) (x : Bytes) (g : Binding → Bool) (ps : List Part) (D : List Binding)
      → ((f : Binding → Bool) → any (λ b. eqb n b.block && f b) B ≡ any (λ b. eqb n b.block && f b) (map (bind by_param n (suc n)) ps ++ D))
      → n < r → ((p : Part) → g (bind by_param n (suc n) p) ≡ same x p.bytes) → any (λ b. eqb n b.block && (earlier r b && g b)) D ≡ false
      → any (λ b. eqb n b.block && (earlier r b && g b)) B ≡ mem x ps
  block_params n r x g ps D o l e q =
      o (λ b. earlier r b && g b) ∙ any_append _ (map (bind by_param n (suc n)) ps) D
      ∙ ap₂ ◌||◌ (params_any n x (λ b. earlier r b && g b) ps (λ p. rw (le-leb (suc n) r l) (e p))) q ∙ or-false _

  mutual
    pub main_e : (e : Expr) (n : ℕ) (u : Use) (w : Where) (v : Env) (s : State) → Owns B n (n + len_e e) (binds_e e n) → ((r : ℕ) → n ≤ r → r < n + len_e e → At r w v s)
        → judge B (lines_e e n u w) ≡ raw_e e n u w.lambdas v s
    main_e (var l) n u w v s o a = read_ok n l u w v s (a n (omega arith) (omega arith))
    main_e (node l es) n u w v s o a = main_es es (suc n) w v s (owns_in B n (suc n) _ _ (binds_es es (suc n)) (omega arith) (omega arith) o) (λ r p q. a r (omega arith) (omega arith))
    main_e (access l es) n u w v s o a = main_es es (suc n) w v s (owns_in B n (suc n) _ _ (binds_es es (suc n)) (omega arith) (omega arith) o) (λ r p q. a r (omega arith) (omega arith))
    main_e (tuple l es) n u w v s o a = main_es es (suc n) w v s (owns_in B n (suc n) _ _ (binds_es es (suc n)) (omega arith) (omega arith) o) (λ r p q. a r (omega arith) (omega arith))
    main_e (call l f es) n u w v s o a =
        let i : ℕ = suc n + len_e f in
        let m : ℕ = n + len_e (call l f es) in
        judge_two B (lines_e f (suc n) (callee (record { number = n; line = l })) w) (lines_es es i w) _ _
        (main_e f (suc n) (callee (record { number = n; line = l })) w v s
        (owns_first B m n (suc n) i m (i + len_es es) (i + len_es es) (binds_e f (suc n)) (binds_es es i) (λ t x y e. omega arith) (omega arith) (omega arith) (range_es es i m) o)
        (λ r p q. a r (omega arith) (omega arith)))
        (main_es es i w v s
        (owns_rest B m (suc n) n i (i + len_es es) m i (binds_e f (suc n)) (binds_es es i) (λ t x y e. omega arith) (omega arith) (omega arith) (range_e f (suc n) m) o)
        (λ r p q. a r (omega arith) (omega arith)))
    main_e (lambda l e) n u w v s o a =
        main_e e (suc n) value (under_lambda n l w) (with_params l.params v) s
        (owns_rest B (n + len_e (lambda l e)) n n (suc n) (suc n + len_e e) (n + len_e (lambda l e)) (suc (suc n)) (params n l) (binds_e e (suc n)) (λ t x y e. omega arith) (omega arith) (omega arith)
        (range_params (n + len_e (lambda l e)) n (suc n) (suc (suc n)) l.params (omega arith) (omega arith)) o)
        (λ r p q. let h = a r (omega arith) (omega arith) in
        record {
          below = h.below;
          hom = h.hom;
          ows = h.ows;
          par = λ x. mem_append x l.params v.params
              ∙ ap₂ ◌||◌ (sym (block_params n r x (λ b. same x b.name.bytes) l.params (binds_e e (suc n)) (o n (omega arith) (omega arith)) (omega arith) (λ p. refl)
              (quiet (suc n) (suc n) _ _ n (binds_e e (suc n)) (λ i. omega arith) (λ i j. omega arith) (range_e e (suc n) (suc n)) (λ b. earlier r b && same x b.name.bytes)))) (h.par x)
              ∙ sym (bound_cons B x n (numbers w.lambdas) r);
          view = h.view;
          asg = h.asg;
        })

    pub main_es : (es : Exprs) (n : ℕ) (w : Where) (v : Env) (s : State) → Owns B n (n + len_es es) (binds_es es n) → ((r : ℕ) → n ≤ r → r < n + len_es es → At r w v s)
        → judge B (lines_es es n w) ≡ raw_es es n w.lambdas v s
    main_es enil n w v s o a = refl
    main_es (econs e es) n w v s o a =
        let i : ℕ = n + len_e e in
        let m : ℕ = n + len_es (econs e es) in
        judge_two B (lines_e e n value w) (lines_es es i w) _ _
        (main_e e n value w v s
        (owns_first B m n n i m (i + len_es es) (i + len_es es) (binds_e e n) (binds_es es i) (λ t x y e. omega arith) (omega arith) (omega arith) (range_es es i m) o)
        (λ r p q. a r (omega arith) (omega arith)))
        (main_es es i w v s
        (owns_rest B m n n i (i + len_es es) m i (binds_e e n) (binds_es es i) (λ t x y e. omega arith) (omega arith) (omega arith) (range_e e n m) o)
        (λ r p q. a r (omega arith) (omega arith)))
