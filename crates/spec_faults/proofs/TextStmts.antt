-- The faults by position of statements and methods are those of the walk in the text's order, and `At` holds after them; into a def or
-- method it holds with the parameters and, in a def, with its own names. By induction over the statements.
use Rattle.std.proofs.Common.{ℕ, suc, ◌+◌, ◌≤◌, ◌<◌, arith, ◌≡◌, refl, sym, ap, ap₂, ◌∙◌, subst, Bool, false, ◌&&◌, ◌||◌, List, [], ◌∷◌, ◌++◌, map, eqb, ne_eqb}
use Rattle.std.proofs.Math.Bool.{and-false, and-true}
use Rattle.std.proofs.lemmas.Bool.{lt-leb}
use Rattle.spec_text.specs.Bytes.{Bytes, Part, same, mem, any}
use Rattle.spec_text.specs.Tree.{Line, Stmt, Stmts, Methods, simple, assign, block, choice, for, def, class, snil, scons, mnil, mcons, len_e, len_s, len_ss, len_ms}
use Rattle.spec_faults.specs.Position.{Home, in_module, in_def, in_method, Where, path, under_block, value, lines_e, lines_t, lines_as, lines_s, lines_ss, lines_ms}
use Rattle.spec_faults.specs.Bindings.{How, by_def, by_class, by_param, by_for, Binding, bind, params, counts}
use Rattle.spec_faults.specs.Faults.{earlier, own, judge}
use Rattle.spec_faults.specs.Rust.{collect_locals}
use Rattle.spec_faults.proofs.Lists.{mem_append, any_same, Each, each_append, each_map, any_quiet}
use Rattle.spec_faults.proofs.Bound.{binds_e, binds_t, in_classes_b, binds_s, binds_ss, binds_ms, In, Range, wide, range_class, range_block, range_params, range_e, range_t, range_s, range_ss, range_ms}
use Rattle.spec_faults.proofs.ListingWalk.{State, assigning, naming, entered, after_s, after_ss, Env, def_env, method_env, in_classes, self_fault}
use Rattle.spec_faults.proofs.TextWalk.{raw_s, raw_ss, raw_ms}
use Rattle.spec_faults.proofs.Earlier.{turn, bound_nil, bound_cons, Still, still_blocks, still_later, params_any}
use Rattle.spec_faults.proofs.OwnNames.{own_two, locals_ss}
use Rattle.spec_faults.proofs.Covers.{Owns, Covers, owns_first, owns_rest, first, rest, body}
use Rattle.spec_faults.proofs.TextExprs.{judge_two, judge_attrs, judge_class, At, block_params, main_e}
use Rattle.spec_faults.proofs.TextTargets.{still, assigned_at, named_at, Step, value_step, values_step, none_step, main_t}

module _ (B : List Binding) where
  -- ---- into a def or method at line n: its parameters, and bindings D that stand later
  enter : (h : Home) (n m g : ℕ) (ps loc : List Part) (w : Where) (v : Env) (s : State) (D : List Binding)
      → ((f : Binding → Bool) → any (λ b. eqb n b.block && f b) B ≡ any (λ b. eqb n b.block && f b) (map (bind by_param n (suc n)) ps ++ D)) → Range n (suc n) m g D
      → ((x : Bytes) → mem x loc ≡ own h x n B) → At B (suc n) w v s → At B (suc n) (under_block h n w) (record { home = h; locals = loc; params = [] }) (entered ps s)
  enter h n m g ps loc w v s D o r e a =
      let later : (f : Binding → Bool) → any (λ b. eqb n b.block && (earlier (suc n) b && f b)) D ≡ false = λ f. any_quiet _ D (each_map (In n (suc n) m g) _ (λ b i. rw (lt-leb b.from (suc n) i.low) (and-false (eqb n b.block))) D r) in
      record {
        below = (omega arith, a.below);
        hom = refl;
        ows = e;
        par = λ x. sym (bound_nil B x (suc n));
        view = λ x. mem_append x ps s.view
            ∙ ap₂ ◌||◌ (sym (block_params B n (suc n) x (λ b. same x b.name.bytes) ps D o (omega arith) (λ p. refl) (later (λ b. same x b.name.bytes)))) (a.view x)
            ∙ sym (bound_cons B x n (path w) (suc n));
        asg = λ x. sym (any_same _ (λ (b : Binding). eqb n b.block && (earlier (suc n) b && (same x b.name.bytes && counts b.how)))
            (λ b. turn (earlier (suc n) b) (eqb n b.block) (same x b.name.bytes && counts b.how)) B
            ∙ block_params B n (suc n) x (λ b. same x b.name.bytes && counts b.how) ps D o (omega arith) (λ p. and-true (same x p.bytes)) (later (λ b. same x b.name.bytes && counts b.how)));
      }

  -- a def's own names
  def_own : (n : ℕ) (l : Line) (b : Stmts)
      → ((f : Binding → Bool) → any (λ c. eqb n c.block && f c) B ≡ any (λ c. eqb n c.block && f c) (params n l ++ binds_ss b (suc n) n in_def))
      → (x : Bytes) → mem x (l.params ++ collect_locals b) ≡ own in_def x n B
  def_own n l b o x =
      sym (o (λ c. same x c.name.bytes)
      ∙ own_two n x (params n l) (binds_ss b (suc n) n in_def) l.params (collect_locals b) (params_any n x (λ c. same x c.name.bytes) l.params (λ p. refl)) (locals_ss b (suc n) n in_def x (omega arith)))

  -- a block's own bindings, where another block's stand before them
  block_owns : (k n m : ℕ) (h : How) (f : ℕ) (y : Part) (D : List Binding) → k < n → n < m → Owns B n m (bind h k f y ∷ D)
      → (g : Binding → Bool) → any (λ b. eqb n b.block && g b) B ≡ any (λ b. eqb n b.block && g b) D
  block_owns k n m h f y D l p o g = o n (omega arith) p g ∙ rw (ne_eqb n k (λ e. omega arith))

  mutual
    main_s : (t : Stmt) (n m : ℕ) (w : Where) (v : Env) (s : State) → n + len_s t ≤ m → w.lambdas ≡ [] → Covers B n m (binds_s t n w.block w.home) → At B n w v s
        → Step B (lines_s t n w) (raw_s t n w.lambdas v s) m w v (after_s t s)
    main_s (simple l es) n m w v s p z o a =
        let t = values_step B es n m w v s (omega arith) z o a in
        record { faults = t.faults; next = t.next }
    main_s (assign l e y) n m w v s p z o a =
        let k : ℕ = w.block in
        let i : ℕ = suc n + len_e e in
        let t = value_step B e n m w v s (binds_t y i k) (omega arith) z (wide k i (i + len_e y) (suc (i + len_e y)) i m (suc m) (binds_t y i k) (omega arith) (omega arith) (omega arith) (range_t y i k)) o a in
        let u = main_t B y i m w v s (omega arith) z t.rest_of t.next in
        record { faults = judge_two B (lines_e e (suc n) value w) (lines_t y i w) _ _ t.faults u.faults; next = u.next }
    main_s (block l c b) n m w v s p z o a =
        let k : ℕ = w.block in
        let i : ℕ = suc n + len_e c in
        let t = value_step B c n m w v s (binds_ss b i k w.home) (omega arith) z (wide k i (i + len_ss b) (suc (i + len_ss b)) i m (suc m) (binds_ss b i k w.home) (omega arith) (omega arith) (omega arith) (range_ss b i k w.home)) o a in
        let u = main_ss b i m w v s (omega arith) z t.rest_of t.next in
        record { faults = judge_two B (lines_e c (suc n) value w) (lines_ss b i w) _ _ t.faults u.faults; next = u.next }
    main_s (choice l c b d e) n m w v s p z o a =
        let k : ℕ = w.block in
        let h : Home = w.home in
        let n1 : ℕ = suc n + len_e c in
        let n2 : ℕ = suc n + len_e c + len_ss b in
        let n3 : ℕ = suc n + len_e c + len_ss b + len_ss d in
        let lk : w.block < n = a.below.0 in
        let r3 = wide k n3 (n3 + len_ss e) (suc (n3 + len_ss e)) n3 m (suc m) (binds_ss e n3 k h) (omega arith) (omega arith) (omega arith) (range_ss e n3 k h) in
        let r2 = each_append (In k n2 m (suc m)) (binds_ss d n2 k h) (binds_ss e n3 k h)
        (wide k n2 (n2 + len_ss d) (suc (n2 + len_ss d)) n2 m (suc m) (binds_ss d n2 k h) (omega arith) (omega arith) (omega arith) (range_ss d n2 k h))
        (wide k n3 m (suc m) n2 m (suc m) (binds_ss e n3 k h) (omega arith) (omega arith) (omega arith) r3) in
        let r1 = each_append (In k n1 m (suc m)) (binds_ss b n1 k h) (binds_ss d n2 k h ++ binds_ss e n3 k h)
        (wide k n1 (n1 + len_ss b) (suc (n1 + len_ss b)) n1 m (suc m) (binds_ss b n1 k h) (omega arith) (omega arith) (omega arith) (range_ss b n1 k h))
        (wide k n2 m (suc m) n1 m (suc m) (binds_ss d n2 k h ++ binds_ss e n3 k h) (omega arith) (omega arith) (omega arith) r2) in
        let t = value_step B c n m w v s (binds_ss b n1 k h ++ (binds_ss d n2 k h ++ binds_ss e n3 k h)) (omega arith) z r1 o a in
        let o2 = rest B k n1 n2 m (binds_ss b n1 k h) (binds_ss d n2 k h ++ binds_ss e n3 k h) (omega arith) (omega arith) (omega arith) (range_ss b n1 k h) r2 t.rest_of in
        let tb = main_ss b n1 n2 w v s (omega arith) z (first B k n1 n2 m (binds_ss b n1 k h) (binds_ss d n2 k h ++ binds_ss e n3 k h) (omega arith) (omega arith) (omega arith) (range_ss b n1 k h) r2 t.rest_of) t.next in
        let td = main_ss d n2 n3 w v (after_ss b s) (omega arith) z (first B k n2 n3 m (binds_ss d n2 k h) (binds_ss e n3 k h) (omega arith) (omega arith) (omega arith) (range_ss d n2 k h) r3 o2) tb.next in
        let te = main_ss e n3 m w v (after_ss d (after_ss b s)) (omega arith) z (rest B k n2 n3 m (binds_ss d n2 k h) (binds_ss e n3 k h) (omega arith) (omega arith) (omega arith) (range_ss d n2 k h) r3 o2) td.next in
        record {
          faults = judge_two B (lines_e c (suc n) value w) _ _ _ t.faults
              (judge_two B (lines_ss b n1 w) _ _ _ tb.faults (judge_two B (lines_ss d n2 w) (lines_ss e n3 w) _ _ td.faults te.faults));
          next = te.next;
        }
    main_s (for l e b) n m w v s p z o a =
        let k : ℕ = w.block in
        let h : Home = w.home in
        let i : ℕ = suc n + len_e e in
        let lk : w.block < n = a.below.0 in
        let y : Binding = bind by_for k i l.name in
        let rb = wide k i (i + len_ss b) (suc (i + len_ss b)) i m (suc m) (binds_ss b i k h) (omega arith) (omega arith) (omega arith) (range_ss b i k h) in
        let yr : (q : ℕ) → Range k n q (suc i) (y ∷ []) = λ q. (record { low = omega arith; high = omega arith; block = λ j x u. x }, tt) in
        let re = each_append (In k n i (suc i)) (y ∷ []) (binds_e e (suc n)) (yr i) (wide k (suc n) i i n i (suc i) (binds_e e (suc n)) (omega arith) (omega arith) (omega arith) (range_e e (suc n) k)) in
        let quiet_e : (r : ℕ) → Each (Still n r) (binds_e e (suc n)) = λ r. still_blocks (suc n) i i r (binds_e e (suc n)) (range_e e (suc n)) n (omega arith) in
        let later_b : (r : ℕ) → r ≤ i → Each (Still n r) (binds_ss b i k h) = λ r x. still_later k i m (suc m) r n (binds_ss b i k h) x rb in
        let ye : (r : ℕ) → r < i → Each (Still n r) (y ∷ []) = λ r x. still_later k r m (suc i) r n (y ∷ []) (omega arith) (record { low = omega arith; high = omega arith; block = λ j x u. x }, tt) in
        let oe = owns_rest B k n (suc n) (suc n) i i (suc i) (y ∷ []) (binds_e e (suc n)) (λ t x u f. omega arith) (omega arith) (omega arith) (yr (suc n))
        (owns_first B k n (suc n) i m m (suc m) (y ∷ binds_e e (suc n)) (binds_ss b i k h) (λ t x u f. omega arith) (omega arith) (omega arith) rb o.owns) in
        let at : (r : ℕ) → suc n ≤ r → r < i → At B r w v s = λ r x u. still B n m r w v s (y ∷ (binds_e e (suc n) ++ binds_ss b i k h)) (omega arith) (omega arith) z o.adds
        (each_append (Still n r) (y ∷ []) (binds_e e (suc n) ++ binds_ss b i k h) (ye r u) (each_append (Still n r) (binds_e e (suc n)) (binds_ss b i k h) (quiet_e r) (later_b r (omega arith)))) a in
        let ai = assigned_at B by_for l.name i n m i w v s (binds_e e (suc n) ++ binds_ss b i k h) (omega arith) (omega arith) (omega arith) z o.adds
        (each_append (Still n i) (binds_e e (suc n)) (binds_ss b i k h) (quiet_e i) (later_b i (omega arith))) a refl in
        let u = main_ss b i m w v (assigning l.name s) (omega arith) z (rest B k n i m (y ∷ binds_e e (suc n)) (binds_ss b i k h) lk (omega arith) (omega arith) re rb o) ai in
        record { faults = judge_two B (lines_e e (suc n) value w) (lines_ss b i w) _ _ (main_e B e (suc n) value w v s oe at) u.faults; next = u.next }
    main_s (def l b) n m w v s p z o a =
        let k : ℕ = w.block in
        let lk : w.block < n = a.below.0 in
        let i : ℕ = n + suc (len_ss b) in
        let D : List Binding = params n l ++ binds_ss b (suc n) n in_def in
        let q : (j : ℕ) → Range j n i (suc i) D = λ j. range_block j n (len_ss b) l.params (binds_ss b (suc n) n in_def) (range_ss b (suc n) n in_def) in
        let at : (r : ℕ) → n < r → r ≤ m → At B r w v (naming l.name s) = λ r x y. named_at B by_def l.name (suc n) n m r w v s D x (omega arith) y z o.adds (still_blocks n i (suc i) r D q n (omega arith)) a refl in
        let ow = block_owns k n m by_def (suc n) l.name D lk (omega arith) o.owns in
        let u = main_ss b (suc n) m (under_block in_def n w) (def_env l b) (entered l.params (naming l.name s)) (omega arith) refl
        (body B k n m _ _ (bind by_def k (suc n) l.name ∷ params n l) (binds_ss b (suc n) n in_def) lk (omega arith)
        (record { low = omega arith; high = omega arith; block = λ j x u. x }, range_params k n (suc n) (suc (suc n)) l.params (omega arith) (omega arith)) (range_ss b (suc n) n in_def) o)
        (enter in_def n _ _ l.params (l.params ++ collect_locals b) w v (naming l.name s) (binds_ss b (suc n) n in_def) ow (range_ss b (suc n) n in_def) (def_own n l b ow) (at (suc n) (omega arith) (omega arith))) in
        record { faults = u.faults; next = at m (omega arith) (omega arith) }
    main_s (class l ms ats) n m w v s p z o a =
        let k : ℕ = w.block in
        let lk : w.block < n = a.below.0 in
        let i : ℕ = suc n + len_ms ms in
        let D : List Binding = binds_ms ms (suc n) in
        let y : Binding = bind by_class k (suc n) l.name in
        let q : (j : ℕ) → Range j (suc n) i (suc i) (in_classes_b w.home D) = λ j. range_class w.home j (suc n) i (suc i) D (range_ms ms (suc n) j) in
        let at : (r : ℕ) → n < r → r ≤ m → At B r w v (naming l.name s) = λ r x u. named_at B by_class l.name (suc n) n m r w v s (in_classes_b w.home D) x (omega arith) u z o.adds (still_blocks (suc n) i (suc i) r (in_classes_b w.home D) q n (omega arith)) a refl in
        let os : w.home ≡ in_module → Covers B (suc n) m D = λ e. rest B k n (suc n) m (y ∷ []) D lk (omega arith) (omega arith) (record { low = omega arith; high = omega arith; block = λ j x u. x }, tt)
        (wide k (suc n) i (suc i) (suc n) m (suc m) D (omega arith) (omega arith) (omega arith) (range_ms ms (suc n) k)) (subst (λ h. Covers B n m (y ∷ in_classes_b h D)) e o) in
        record {
          faults = judge_class B w.home (lines_ms ms (suc n) l w) (lines_as ats i w) (raw_ms ms (suc n) l (naming l.name s))
              (λ e. main_ms ms (suc n) m l w v (naming l.name s) (omega arith) z (os e) (at (suc n) (omega arith) (omega arith))) (judge_attrs B ats i w)
              ∙ ap (λ h. in_classes h (raw_ms ms (suc n) l (naming l.name s))) (sym a.hom);
          next = at m (omega arith) (omega arith);
        }

    pub main_ss : (ts : Stmts) (n m : ℕ) (w : Where) (v : Env) (s : State) → n + len_ss ts ≤ m → w.lambdas ≡ [] → Covers B n m (binds_ss ts n w.block w.home) → At B n w v s
        → Step B (lines_ss ts n w) (raw_ss ts n w.lambdas v s) m w v (after_ss ts s)
    main_ss snil n m w v s p z o a = record { faults = refl; next = none_step B n m w v s (omega arith) z o a }
    main_ss (scons t ts) n m w v s p z o a =
        let k : ℕ = w.block in
        let h : Home = w.home in
        let l : w.block < n = a.below.0 in
        let i : ℕ = n + len_s t in
        let ra = range_s t n k h in
        let rc = wide k i (i + len_ss ts) (suc (i + len_ss ts)) i m (suc m) (binds_ss ts i k h) (omega arith) (omega arith) (omega arith) (range_ss ts i k h) in
        let u = main_s t n i w v s (omega arith) z (first B k n i m (binds_s t n k h) (binds_ss ts i k h) l (omega arith) (omega arith) ra rc o) a in
        let x = main_ss ts i m w v (after_s t s) (omega arith) z (rest B k n i m (binds_s t n k h) (binds_ss ts i k h) l (omega arith) (omega arith) ra rc o) u.next in
        record { faults = judge_two B (lines_s t n w) (lines_ss ts i w) _ _ u.faults x.faults; next = x.next }

    main_ms : (ms : Methods) (n m : ℕ) (c : Line) (w : Where) (v : Env) (s : State) → n + len_ms ms ≤ m → w.lambdas ≡ [] → Covers B n m (binds_ms ms n) → At B n w v s
        → judge B (lines_ms ms n c w) ≡ raw_ms ms n c s
    main_ms mnil n m c w v s p z o a = refl
    main_ms (mcons l b ms) n m c w v s p z o a =
        let k : ℕ = w.block in
        let lk : w.block < n = a.below.0 in
        let i : ℕ = suc n + len_ss b in
        let Db : List Binding = binds_ss b (suc n) n in_method in
        let D : List Binding = params n l ++ Db in
        let M : List Binding = binds_ms ms i in
        let q : (j : ℕ) → Range j n (n + suc (len_ss b)) (suc (n + suc (len_ss b))) D = λ j. range_block j n (len_ss b) l.params Db (range_ss b (suc n) n in_method) in
        let qa : Range k n i (suc i) D = wide k n (n + suc (len_ss b)) (suc (n + suc (len_ss b))) n i (suc i) D (omega arith) (omega arith) (omega arith) (q k) in
        let qm : Range k i m (suc m) M = wide k i (i + len_ms ms) (suc (i + len_ms ms)) i m (suc m) M (omega arith) (omega arith) (omega arith) (range_ms ms i k) in
        let ob = first B k n i m D M lk (omega arith) (omega arith) qa qm o in
        let at : (r : ℕ) → n ≤ r → r ≤ i → At B r w v s = λ r x u. still B n i r w v s D x u z ob.adds (still_blocks n (n + suc (len_ss b)) (suc (n + suc (len_ss b))) r D q n (omega arith)) a in
        let t = main_ss b (suc n) i (under_block in_method n w) method_env (entered l.params s) (omega arith) refl
        (body B k n i _ _ (params n l) Db lk (omega arith) (range_params k n (suc n) (suc (suc n)) l.params (omega arith) (omega arith)) (range_ss b (suc n) n in_method) ob)
        (enter in_method n _ _ l.params [] w v s Db (λ f. ob.owns n (omega arith) (omega arith) f) (range_ss b (suc n) n in_method) (λ x. refl) (at (suc n) (omega arith) (omega arith))) in
        ap (λ y. self_fault n l c ++ y)
        (judge_two B (lines_ss b (suc n) (under_block in_method n w)) (lines_ms ms i c w) _ _ t.faults
        (main_ms ms i m c w v s (omega arith) z (rest B k n i m D M lk (omega arith) (omega arith) qa qm o) (at i (omega arith) (omega arith))))
