-- A def's own names, those that a binding binds in its block, are the locals that the Rust gathers (collect-locals).
-- By induction over the body: of a part's bindings, only those of its targets, fors, defs and classes are in the block around it.
use Rattle.std.proofs.Common.{ℕ, suc, ◌+◌, ◌<◌, arith, ◌≡◌, refl, sym, ap₂, ◌∙◌, Bool, false, ◌&&◌, ◌||◌, List, [], ◌∷◌, ◌++◌, eqb}
use Rattle.spec_text.specs.Bytes.{Bytes, Part, same, mem, any}
use Rattle.spec_text.specs.Tree.{Expr, Exprs, Stmt, Stmts, var, node, access, tuple, call, lambda, enil, econs, simple, assign, block, choice, for, def, class, snil, scons, len_e, len_s, len_ss}
use Rattle.spec_faults.specs.Position.{Home, in_module, in_def, in_method}
use Rattle.spec_faults.specs.Bindings.{by_def, by_class, by_for, by_target, Binding, bind, params}
use Rattle.spec_faults.specs.Rust.{collect_locals, collect_locals_of, collect_locals_from_target, collect_locals_from_targets}
use Rattle.spec_faults.proofs.Lists.{eqb_same, mem_append, any_append}
use Rattle.spec_faults.proofs.Bound.{binds_e, binds_es, binds_t, binds_ts, in_classes_b, binds_s, binds_ss, binds_ms, Range, range_block, range_e, range_es, range_ss, range_ms}
use Rattle.spec_faults.proofs.Earlier.{quiet}

-- a binding binds the name x in the block k
abbrev own_in : ℕ → Bytes → List Binding → Bool
own_in k x D = any (λ (b : Binding). eqb k b.block && same x b.name.bytes) D

pub own_two : (k : ℕ) (x : Bytes) (a c : List Binding) (p q : List Part) → own_in k x a ≡ mem x p → own_in k x c ≡ mem x q → own_in k x (a ++ c) ≡ mem x (p ++ q)
own_two k x a c p q e f = any_append _ a c ∙ ap₂ ◌||◌ e f ∙ sym (mem_append x p q)

own_none : (k n m h : ℕ) (x : Bytes) (D : List Binding) → k < n → ((j : ℕ) → Range j n m h D) → own_in k x D ≡ false
own_none k n m h x D l r = quiet (suc k) n m h k D (λ e. omega arith) (λ p q. omega arith) (r (suc k)) (λ b. same x b.name.bytes)

mutual
  locals_t : (t : Expr) (n k : ℕ) (x : Bytes) → k < n → own_in k x (binds_t t n k) ≡ mem x (collect_locals_from_target t)
  locals_t (var l) n k x p = own_two k x (bind by_target k (suc n) l.name ∷ []) [] (l.name ∷ []) [] (rw eqb_same) refl
  locals_t (node l es) n k x p = refl
  locals_t (access l es) n k x p = own_none k (suc n) _ _ x (binds_es es (suc n)) (omega arith) (range_es es (suc n))
  locals_t (tuple l es) n k x p = locals_ts es (suc n) k x (omega arith)
  locals_t (call l f es) n k x p = refl
  locals_t (lambda l e) n k x p = refl

  locals_ts : (es : Exprs) (n k : ℕ) (x : Bytes) → k < n → own_in k x (binds_ts es n k) ≡ mem x (collect_locals_from_targets es)
  locals_ts enil n k x p = refl
  locals_ts (econs e es) n k x p = own_two k x (binds_t e n k) (binds_ts es (n + len_e e) k) (collect_locals_from_target e) (collect_locals_from_targets es) (locals_t e n k x p) (locals_ts es (n + len_e e) k x (omega arith))

own_class : (h : Home) (k : ℕ) (x : Bytes) (D : List Binding) → own_in k x D ≡ false → own_in k x (in_classes_b h D) ≡ false
own_class in_module k x D e = e
own_class in_def k x D e = refl
own_class in_method k x D e = refl

mutual
  locals_s : (s : Stmt) (n k : ℕ) (h : Home) (x : Bytes) → k < n → own_in k x (binds_s s n k h) ≡ mem x (collect_locals_of s)
  locals_s (simple l es) n k h x p = own_none k (suc n) _ _ x (binds_es es (suc n)) (omega arith) (range_es es (suc n))
  locals_s (assign l e t) n k h x p =
      own_two k x (binds_e e (suc n)) (binds_t t (suc n + len_e e) k) [] (collect_locals_from_target t) (own_none k (suc n) _ _ x (binds_e e (suc n)) (omega arith) (range_e e (suc n))) (locals_t t (suc n + len_e e) k x (omega arith))
  locals_s (block l c b) n k h x p =
      own_two k x (binds_e c (suc n)) (binds_ss b (suc n + len_e c) k h) [] (collect_locals b) (own_none k (suc n) _ _ x (binds_e c (suc n)) (omega arith) (range_e c (suc n))) (locals_ss b (suc n + len_e c) k h x (omega arith))
  locals_s (choice l c b d e) n k h x p =
      own_two k x (binds_e c (suc n)) _ [] (collect_locals b ++ (collect_locals d ++ collect_locals e)) (own_none k (suc n) _ _ x (binds_e c (suc n)) (omega arith) (range_e c (suc n)))
      (own_two k x (binds_ss b (suc n + len_e c) k h) _ (collect_locals b) (collect_locals d ++ collect_locals e) (locals_ss b (suc n + len_e c) k h x (omega arith))
      (own_two k x (binds_ss d (suc n + len_e c + len_ss b) k h) (binds_ss e (suc n + len_e c + len_ss b + len_ss d) k h) (collect_locals d) (collect_locals e)
      (locals_ss d (suc n + len_e c + len_ss b) k h x (omega arith)) (locals_ss e (suc n + len_e c + len_ss b + len_ss d) k h x (omega arith))))
  locals_s (for l e b) n k h x p =
      own_two k x (bind by_for k (suc n + len_e e) l.name ∷ []) (binds_e e (suc n) ++ binds_ss b (suc n + len_e e) k h) (l.name ∷ []) (collect_locals b) (rw eqb_same)
      (own_two k x (binds_e e (suc n)) (binds_ss b (suc n + len_e e) k h) [] (collect_locals b) (own_none k (suc n) _ _ x (binds_e e (suc n)) (omega arith) (range_e e (suc n))) (locals_ss b (suc n + len_e e) k h x (omega arith)))
  locals_s (def l b) n k h x p =
      own_two k x (bind by_def k (suc n) l.name ∷ []) (params n l ++ binds_ss b (suc n) n in_def) (l.name ∷ []) [] (rw eqb_same)
      (own_none k n _ _ x (params n l ++ binds_ss b (suc n) n in_def) p (λ j. range_block j n (len_ss b) l.params (binds_ss b (suc n) n in_def) (range_ss b (suc n) n in_def)))
  locals_s (class l ms ats) n k h x p =
      own_two k x (bind by_class k (suc n) l.name ∷ []) (in_classes_b h (binds_ms ms (suc n))) (l.name ∷ []) [] (rw eqb_same)
      (own_class h k x (binds_ms ms (suc n)) (own_none k (suc n) _ _ x (binds_ms ms (suc n)) (omega arith) (range_ms ms (suc n))))

  pub locals_ss : (ss : Stmts) (n k : ℕ) (h : Home) (x : Bytes) → k < n → own_in k x (binds_ss ss n k h) ≡ mem x (collect_locals ss)
  locals_ss snil n k h x p = refl
  locals_ss (scons s ss) n k h x p = own_two k x (binds_s s n k h) (binds_ss ss (n + len_s s) k h) (collect_locals_of s) (collect_locals ss) (locals_s s n k h x p) (locals_ss ss (n + len_s s) k h x (omega arith))
