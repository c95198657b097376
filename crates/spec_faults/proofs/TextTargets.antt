-- From one line to a later one by the bindings of the part between: they bind nothing in the blocks around, or one name at the line's block.
-- So the faults by position of values and targets are those of the walk in the text's order, and `At` holds after them.
use Rattle.std.proofs.Common.{ℕ, suc, ◌+◌, ◌≤◌, ◌<◌, arith, ◌≡◌, refl, sym, ap, ◌∙◌, true, false, ◌&&◌, ◌||◌, List, [], ◌∷◌, ◌++◌, eqb, le-leb}
use Rattle.std.proofs.Math.Bool.{or_comm, or-false, and-false, and-true}
use Rattle.spec_text.specs.Bytes.{Bytes, Part, same, mem}
use Rattle.spec_text.specs.Tree.{Expr, Exprs, var, node, access, tuple, call, lambda, enil, econs, len_e, len_es}
use Rattle.spec_faults.specs.Position.{Where, numbers, path, value, Visited, lines_e, lines_es, lines_t, lines_ts}
use Rattle.spec_faults.specs.Bindings.{How, by_target, Binding, bind, counts}
use Rattle.spec_faults.specs.Faults.{among, bound, assigned, Fault, judge}
use Rattle.spec_faults.proofs.Lists.{eqb_same, Each, each_append, each_map}
use Rattle.spec_faults.proofs.Bound.{binds_e, binds_es, binds_t, binds_ts, Range, wide, range_e, range_es, range_t, range_ts}
use Rattle.spec_faults.proofs.ListingWalk.{State, assigning, naming, after_t, after_ts, Env}
use Rattle.spec_faults.proofs.TextWalk.{raw_e, raw_es, raw_t, raw_ts}
use Rattle.spec_faults.proofs.Earlier.{bound_nil, Still, still_blocks, still_later, still_none, in_path, in_block}
use Rattle.spec_faults.proofs.Covers.{Adds, Covers, owns_first, owns_in, first, rest}
use Rattle.spec_faults.proofs.TextExprs.{judge_two, At, main_e, main_es}

module _ (B : List Binding) where
  -- ---- from line n to line r, by the bindings of a part
  no_lambdas_lem : (w : Where) → w.lambdas ≡ [] → (x : Bytes) (n r : ℕ) → bound x (numbers w.lambdas) n B ≡ bound x (numbers w.lambdas) r B
  no_lambdas_lem w z x n r = rw z (bound_nil B x n ∙ sym (bound_nil B x r))

  below_up : (n r : ℕ) (ks : List ℕ) → n ≤ r → Each (λ j. j < n) ks → Each (λ j. j < r) ks
  below_up n r ks l = each_map (λ j. j < n) (λ j. j < r) (λ j p. omega arith) ks

  -- where nothing of it stands earlier in a block around
  pub still : (n m r : ℕ) (w : Where) (v : Env) (s : State) (D : List Binding) → n ≤ r → r ≤ m → w.lambdas ≡ [] → Adds B n m D → Each (Still n r) D → At B n w v s → At B r w v s
  still n m r w v s D p q z o t a =
      record {
        below = below_up n r (path w) p a.below;
        hom = a.hom;
        ows = a.ows;
        par = λ x. a.par x ∙ no_lambdas_lem w z x n r;
        view = λ x. a.view x
            ∙ sym (o r p q (λ b. among b.block (path w) && same x b.name.bytes)
            ∙ ap (λ y. bound x (path w) n B || y) (still_none n r _ D (in_path n (path w) x a.below) t) ∙ or-false _);
        asg = λ x. a.asg x
            ∙ sym (o r p q (λ b. eqb w.block b.block && (same x b.name.bytes && counts b.how))
            ∙ ap (λ y. assigned x w.block n B || y) (still_none n r _ D (in_block n w.block (λ b. same x b.name.bytes && counts b.how) a.below.0) t) ∙ or-false _);
      }

  -- where one binding in the block around stands earlier, and nothing else: y, bound at f
  module _ (h : How) (y : Part) (f n m r : ℕ) (w : Where) (v : Env) (s : State) (D : List Binding) (pf : f ≤ r) (p : n ≤ r) (q : r ≤ m) (z : w.lambdas ≡ [])
      (o : Adds B n m (bind h w.block f y ∷ D)) (t : Each (Still n r) D) (a : At B n w v s) where
    bound_asg : (x : Bytes) → assigned x w.block r B ≡ (assigned x w.block n B || same x y.bytes && counts h)
    bound_asg x =
        o r p q (λ b. eqb w.block b.block && (same x b.name.bytes && counts b.how))
        ∙ rw (
          le-leb f r pf,
          eqb_same w.block,
          still_none n r _ D (in_block n w.block (λ b. same x b.name.bytes && counts b.how) a.below.0) t,
          or-false,
        )

    bound_at : (s' : State) → s'.view ≡ y ∷ s.view → ((x : Bytes) → mem x s'.assigned ≡ assigned x w.block r B) → At B r w v s'
    bound_at s' e g =
        record {
          below = below_up n r (path w) p a.below;
          hom = a.hom;
          ows = a.ows;
          par = λ x. a.par x ∙ no_lambdas_lem w z x n r;
          view = λ x. ap (mem x) e ∙ ap (λ u. same x y.bytes || u) (a.view x) ∙ or_comm (same x y.bytes) (bound x (path w) n B)
              ∙ sym (o r p q (λ b. among b.block (path w) && same x b.name.bytes)
              ∙ rw (le-leb f r pf, eqb_same w.block, still_none n r _ D (in_path n (path w) x a.below) t, or-false));
          asg = g;
        }

    pub assigned_at : counts h ≡ true → At B r w v (assigning y s)
    assigned_at c =
        bound_at (assigning y s) refl
        (λ x. ap (λ u. same x y.bytes || u) (a.asg x) ∙ or_comm (same x y.bytes) (assigned x w.block n B) ∙ sym (bound_asg x ∙ rw (c, and-true)))

    pub named_at : counts h ≡ false → At B r w v (naming y s)
    named_at c = bound_at (naming y s) refl (λ x. a.asg x ∙ sym (bound_asg x ∙ rw (c, and-false, or-false)))

  -- from line n on the part gives the faults F, and at line m the walk carries s
  pub record Step (ls : List Visited) (F : List Fault) (m : ℕ) (w : Where) (v : Env) (s : State) : Type 0 where
    pub faults : judge B ls ≡ F
    pub next : At B m w v s

  -- an expression at the line after n, before the bindings c that come later
  pub record Value (e : Expr) (n i m : ℕ) (c : List Binding) (w : Where) (v : Env) (s : State) : Type 0 where
    pub faults : judge B (lines_e e (suc n) value w) ≡ raw_e e (suc n) value w.lambdas v s
    pub next : At B i w v s
    pub rest_of : Covers B i m c

  pub value_step : (e : Expr) (n m : ℕ) (w : Where) (v : Env) (s : State) (c : List Binding) → suc n + len_e e ≤ m → w.lambdas ≡ [] → Range w.block (suc n + len_e e) m (suc m) c
      → Covers B n m (binds_e e (suc n) ++ c) → At B n w v s → Value e n (suc n + len_e e) m c w v s
  value_step e n m w v s c p z rc o a =
      let k : ℕ = w.block in
      let l : w.block < n = a.below.0 in
      let i : ℕ = suc n + len_e e in
      let at : (r : ℕ) → n ≤ r → r ≤ i → At B r w v s = λ r x y. still n m r w v s (binds_e e (suc n) ++ c) x (omega arith) z o.adds
      (each_append (Still n r) (binds_e e (suc n)) c (still_blocks (suc n) i i r (binds_e e (suc n)) (range_e e (suc n)) n (omega arith)) (still_later k i m (suc m) r n c y rc)) a in
      record {
        faults = main_e B e (suc n) value w v s (owns_first B k n (suc n) i m m (suc m) (binds_e e (suc n)) c (λ t x y e. omega arith) (omega arith) p rc o.owns) (λ r x y. at r (omega arith) (omega arith));
        next = at i (omega arith) (omega arith);
        rest_of = rest B k n i m (binds_e e (suc n)) c l (omega arith) p (wide k (suc n) i i n i (suc i) (binds_e e (suc n)) (omega arith) (omega arith) (omega arith) (range_e e (suc n) k)) rc o;
      }

  -- expressions at the line after n, and nothing else
  pub values_step : (es : Exprs) (n m : ℕ) (w : Where) (v : Env) (s : State) → suc n + len_es es ≤ m → w.lambdas ≡ [] → Covers B n m (binds_es es (suc n)) → At B n w v s
      → Step (lines_es es (suc n) w) (raw_es es (suc n) w.lambdas v s) m w v s
  values_step es n m w v s p z o a =
      let at : (r : ℕ) → n ≤ r → r ≤ m → At B r w v s = λ r x y. still n m r w v s (binds_es es (suc n)) x y z o.adds (still_blocks (suc n) _ _ r (binds_es es (suc n)) (range_es es (suc n)) n (omega arith)) a in
      record {
        faults = main_es B es (suc n) w v s (owns_in B n (suc n) _ m (binds_es es (suc n)) (omega arith) p o.owns) (λ r x y. at r (omega arith) (omega arith));
        next = at m (omega arith) (omega arith);
      }

  -- a line that binds nothing: what follows it stands later
  line_step : (n m : ℕ) (w : Where) (v : Env) (s : State) (D : List Binding) → suc n ≤ m → w.lambdas ≡ [] → Range w.block (suc n) m (suc m) D → Covers B n m D → At B n w v s
      → Covers B (suc n) m D × At B (suc n) w v s
  line_step n m w v s D p z r o a =
      let l : w.block < n = a.below.0 in
      (rest B w.block n (suc n) m [] D l (omega arith) p tt r o, still n m (suc n) w v s D (omega arith) p z o.adds (still_later w.block (suc n) m (suc m) (suc n) n D (omega arith) r) a)

  pub none_step : (n m : ℕ) (w : Where) (v : Env) (s : State) → n ≤ m → w.lambdas ≡ [] → Covers B n m [] → At B n w v s → At B m w v s
  none_step n m w v s p z o a = still n m m w v s [] p (omega arith) z o.adds tt a

  -- ---- targets
  mutual
    pub main_t : (t : Expr) (n m : ℕ) (w : Where) (v : Env) (s : State) → n + len_e t ≤ m → w.lambdas ≡ [] → Covers B n m (binds_t t n w.block) → At B n w v s
        → Step (lines_t t n w) (raw_t t n w.lambdas v s) m w v (after_t t s)
    main_t (var l) n m w v s p z o a =
        record { faults = refl; next = assigned_at by_target l.name (suc n) n m m w v s [] (omega arith) (omega arith) (omega arith) z o.adds tt a refl }
    main_t (node l es) n m w v s p z o a = record { faults = refl; next = none_step n m w v s (omega arith) z o a }
    main_t (access l es) n m w v s p z o a =
        let t = values_step es n m w v s (omega arith) z o a in
        record { faults = t.faults; next = t.next }
    main_t (tuple l es) n m w v s p z o a =
        let k : ℕ = w.block in
        let h = line_step n m w v s (binds_ts es (suc n) k) (omega arith) z (wide k (suc n) _ _ (suc n) m (suc m) (binds_ts es (suc n) k) (omega arith) (omega arith) (omega arith) (range_ts es (suc n) k)) o a in
        let t = main_ts es (suc n) m w v s (omega arith) z h.0 h.1 in
        record { faults = t.faults; next = t.next }
    main_t (call l f es) n m w v s p z o a = record { faults = refl; next = none_step n m w v s (omega arith) z o a }
    main_t (lambda l e) n m w v s p z o a = record { faults = refl; next = none_step n m w v s (omega arith) z o a }

    main_ts : (es : Exprs) (n m : ℕ) (w : Where) (v : Env) (s : State) → n + len_es es ≤ m → w.lambdas ≡ [] → Covers B n m (binds_ts es n w.block) → At B n w v s
        → Step (lines_ts es n w) (raw_ts es n w.lambdas v s) m w v (after_ts es s)
    main_ts enil n m w v s p z o a = record { faults = refl; next = none_step n m w v s (omega arith) z o a }
    main_ts (econs e es) n m w v s p z o a =
        let k : ℕ = w.block in
        let l : w.block < n = a.below.0 in
        let i : ℕ = n + len_e e in
        let ra = range_t e n k in
        let rc = wide k i (i + len_es es) (suc (i + len_es es)) i m (suc m) (binds_ts es i k) (omega arith) (omega arith) (omega arith) (range_ts es i k) in
        let t = main_t e n i w v s (omega arith) z (first B k n i m (binds_t e n k) (binds_ts es i k) l (omega arith) (omega arith) ra rc o) a in
        let u = main_ts es i m w v (after_t e s) (omega arith) z (rest B k n i m (binds_t e n k) (binds_ts es i k) l (omega arith) (omega arith) ra rc o) t.next in
        record { faults = judge_two B (lines_t e n w) (lines_ts es i w) _ _ t.faults u.faults; next = u.next }
