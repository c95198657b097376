-- The bindings of a part of the tree, part by part, and where they stand: each within the part's lines, in the block around it
-- or in a block whose line is in the part.
use Rattle.std.proofs.Common.{ℕ, suc, ◌+◌, ◌≤◌, ◌<◌, arith, ◌≡◌, refl, sym, ap, ap₂, ◌∙◌, ◌≢◌, List, [], ◌∷◌, ◌++◌, append_assoc, append-nil, map}
use Rattle.spec_text.specs.Bytes.{Part}
use Rattle.spec_text.specs.Tree.{Line, Expr, Exprs, Attrs, Stmt, Stmts, Methods, var, node, access, tuple, call, lambda, enil, econs, anil, acons, simple, assign, block, choice, for, def, class, snil, scons, mnil, mcons, len_e, len_es, len_s, len_ss, len_ms}
use Rattle.spec_faults.specs.Position.{Home, in_module, in_def, in_method, Where, Use, value, Visited, under_class, lines_e, lines_es, lines_t, lines_ts, lines_as, lines_s, lines_ss, lines_ms, under_lambda, under_block}
use Rattle.spec_faults.specs.Bindings.{How, by_def, by_class, by_param, by_for, by_target, Binding, bind, params, bound_at, bound_in}
use Rattle.spec_faults.proofs.Lists.{Each, each_append, each_map}

-- ---- the bindings of a part that begins at line n; k is the block around it
abbrev mutual
  pub binds_e : Expr → ℕ → List Binding
  binds_e (var l) n = []
  binds_e (node l es) n = binds_es es (suc n)
  binds_e (access l es) n = binds_es es (suc n)
  binds_e (tuple l es) n = binds_es es (suc n)
  binds_e (call l f es) n = binds_e f (suc n) ++ binds_es es (suc n + len_e f)
  binds_e (lambda l e) n = params n l ++ binds_e e (suc n)

  pub binds_es : Exprs → ℕ → List Binding
  binds_es enil n = []
  binds_es (econs e es) n = binds_e e n ++ binds_es es (n + len_e e)

abbrev mutual
  pub binds_t : Expr → ℕ → ℕ → List Binding
  binds_t (var l) n k = bind by_target k (suc n) l.name ∷ []
  binds_t (node l es) n k = []
  binds_t (access l es) n k = binds_es es (suc n)
  binds_t (tuple l es) n k = binds_ts es (suc n) k
  binds_t (call l f es) n k = []
  binds_t (lambda l e) n k = []

  pub binds_ts : Exprs → ℕ → ℕ → List Binding
  binds_ts enil n k = []
  binds_ts (econs e es) n k = binds_t e n k ++ binds_ts es (n + len_e e) k

abbrev pub in_classes_b : Home → List Binding → List Binding
in_classes_b in_module bs = bs
in_classes_b in_def bs = []
in_classes_b in_method bs = []

abbrev mutual
  pub binds_s : Stmt → ℕ → ℕ → Home → List Binding
  binds_s (simple l es) n k h = binds_es es (suc n)
  binds_s (assign l e t) n k h = binds_e e (suc n) ++ binds_t t (suc n + len_e e) k
  binds_s (block l c b) n k h = binds_e c (suc n) ++ binds_ss b (suc n + len_e c) k h
  binds_s (choice l c b d e) n k h =
      binds_e c (suc n) ++ (binds_ss b (suc n + len_e c) k h ++ (binds_ss d (suc n + len_e c + len_ss b) k h ++ binds_ss e (suc n + len_e c + len_ss b + len_ss d) k h))
  binds_s (for l e b) n k h = bind by_for k (suc n + len_e e) l.name ∷ (binds_e e (suc n) ++ binds_ss b (suc n + len_e e) k h)
  binds_s (def l b) n k h = bind by_def k (suc n) l.name ∷ (params n l ++ binds_ss b (suc n) n in_def)
  binds_s (class l ms ats) n k h = bind by_class k (suc n) l.name ∷ in_classes_b h (binds_ms ms (suc n))

  pub binds_ss : Stmts → ℕ → ℕ → Home → List Binding
  binds_ss snil n k h = []
  binds_ss (scons s ss) n k h = binds_s s n k h ++ binds_ss ss (n + len_s s) k h

  pub binds_ms : Methods → ℕ → List Binding
  binds_ms mnil n = []
  binds_ms (mcons l b ms) n = (params n l ++ binds_ss b (suc n) n in_method) ++ binds_ms ms (suc n + len_ss b)

-- ---- they are the bindings of the part's visited lines
bound_in-append : (a b : List Visited) → bound_in (a ++ b) ≡ bound_in a ++ bound_in b
bound_in-append [] b = refl
bound_in-append (v ∷ a) b = ap (λ t. bound_at v ++ t) (bound_in-append a b) ∙ sym (append_assoc (bound_at v) (bound_in a) (bound_in b))

bound_in-two : (a b : List Visited) (p q : List Binding) → bound_in a ≡ p → bound_in b ≡ q → bound_in (a ++ b) ≡ p ++ q
bound_in-two a b p q e f = bound_in-append a b ∙ ap₂ ◌++◌ e f

mutual
  bound_e : (e : Expr) (n : ℕ) (u : Use) (w : Where) → bound_in (lines_e e n u w) ≡ binds_e e n
  bound_e (var l) n u w = refl
  bound_e (node l es) n u w = bound_es es (suc n) w
  bound_e (access l es) n u w = bound_es es (suc n) w
  bound_e (tuple l es) n u w = bound_es es (suc n) w
  bound_e (call l f es) n u w = bound_in-two (lines_e f (suc n) _ w) (lines_es es (suc n + len_e f) w) _ _ (bound_e f (suc n) _ w) (bound_es es (suc n + len_e f) w)
  bound_e (lambda l e) n u w = ap (λ t. params n l ++ t) (bound_e e (suc n) value (under_lambda n l w))

  bound_es : (es : Exprs) (n : ℕ) (w : Where) → bound_in (lines_es es n w) ≡ binds_es es n
  bound_es enil n w = refl
  bound_es (econs e es) n w = bound_in-two (lines_e e n value w) (lines_es es (n + len_e e) w) _ _ (bound_e e n value w) (bound_es es (n + len_e e) w)

mutual
  bound_t : (t : Expr) (n : ℕ) (w : Where) → bound_in (lines_t t n w) ≡ binds_t t n w.block
  bound_t (var l) n w = refl
  bound_t (node l es) n w = refl
  bound_t (access l es) n w = bound_es es (suc n) w
  bound_t (tuple l es) n w = bound_ts es (suc n) w
  bound_t (call l f es) n w = refl
  bound_t (lambda l e) n w = refl

  bound_ts : (es : Exprs) (n : ℕ) (w : Where) → bound_in (lines_ts es n w) ≡ binds_ts es n w.block
  bound_ts enil n w = refl
  bound_ts (econs e es) n w = bound_in-two (lines_t e n w) (lines_ts es (n + len_e e) w) _ _ (bound_t e n w) (bound_ts es (n + len_e e) w)

bound_as : (ats : Attrs) (n : ℕ) (w : Where) → bound_in (lines_as ats n w) ≡ []
bound_as anil n w = refl
bound_as (acons l e ats) n w = bound_as ats (suc n + len_e e) w

bound_class : (h : Home) (a b : List Visited) (p : List Binding) → bound_in a ≡ p → bound_in b ≡ [] → bound_in (under_class h (a ++ b)) ≡ in_classes_b h p
bound_class in_module a b p e f = bound_in-two a b p [] e f ∙ append-nil p
bound_class in_def a b p e f = refl
bound_class in_method a b p e f = refl

mutual
  bound_s : (s : Stmt) (n : ℕ) (w : Where) → bound_in (lines_s s n w) ≡ binds_s s n w.block w.home
  bound_s (simple l es) n w = bound_es es (suc n) w
  bound_s (assign l e t) n w = bound_in-two (lines_e e (suc n) value w) (lines_t t (suc n + len_e e) w) _ _ (bound_e e (suc n) value w) (bound_t t (suc n + len_e e) w)
  bound_s (block l c b) n w = bound_in-two (lines_e c (suc n) value w) (lines_ss b (suc n + len_e c) w) _ _ (bound_e c (suc n) value w) (bound_ss b (suc n + len_e c) w)
  bound_s (choice l c b d e) n w =
      bound_in-two (lines_e c (suc n) value w) _ _ _ (bound_e c (suc n) value w)
      (bound_in-two (lines_ss b (suc n + len_e c) w) _ _ _ (bound_ss b (suc n + len_e c) w)
      (bound_in-two (lines_ss d (suc n + len_e c + len_ss b) w) _ _ _ (bound_ss d (suc n + len_e c + len_ss b) w) (bound_ss e (suc n + len_e c + len_ss b + len_ss d) w)))
  bound_s (for l e b) n w =
      ap (λ t. bind by_for w.block (suc n + len_e e) l.name ∷ t)
      (bound_in-two (lines_e e (suc n) value w) (lines_ss b (suc n + len_e e) w) _ _ (bound_e e (suc n) value w) (bound_ss b (suc n + len_e e) w))
  bound_s (def l b) n w = ap (λ t. bind by_def w.block (suc n) l.name ∷ (params n l ++ t)) (bound_ss b (suc n) (under_block in_def n w))
  bound_s (class l ms ats) n w =
      ap (λ t. bind by_class w.block (suc n) l.name ∷ t)
      (bound_class w.home (lines_ms ms (suc n) l w) (lines_as ats (suc n + len_ms ms) w) _ (bound_ms ms (suc n) l w) (bound_as ats (suc n + len_ms ms) w))

  pub bound_ss : (ss : Stmts) (n : ℕ) (w : Where) → bound_in (lines_ss ss n w) ≡ binds_ss ss n w.block w.home
  bound_ss snil n w = refl
  bound_ss (scons s ss) n w = bound_in-two (lines_s s n w) (lines_ss ss (n + len_s s) w) _ _ (bound_s s n w) (bound_ss ss (n + len_s s) w)

  bound_ms : (ms : Methods) (n : ℕ) (c : Line) (w : Where) → bound_in (lines_ms ms n c w) ≡ binds_ms ms n
  bound_ms mnil n c w = refl
  bound_ms (mcons l b ms) n c w =
      ap (λ t. params n l ++ t)
      (bound_in-two (lines_ss b (suc n) (under_block in_method n w)) (lines_ms ms (suc n + len_ss b) c w) _ _ (bound_ss b (suc n) (under_block in_method n w)) (bound_ms ms (suc n + len_ss b) c w))
      ∙ sym (append_assoc (params n l) (binds_ss b (suc n) n in_method) (binds_ms ms (suc n + len_ss b)))

-- ---- where they stand
-- a binding among the lines from n up to m: it stands after n and before h; its block is k, or has its line there
pub record In (k n m h : ℕ) (b : Binding) : Type 0 where
  pub low : n < b.from
  pub high : b.from < h
  pub block : (j : ℕ) → j ≢ k → (n ≤ j → j < m → ⊥) → j ≢ b.block

abbrev pub Range : ℕ → ℕ → ℕ → ℕ → List Binding → Type 0
Range k n m h bs = Each (In k n m h) bs

pub wide : (k n m h n' m' h' : ℕ) (bs : List Binding) → n' ≤ n → m ≤ m' → h ≤ h' → Range k n m h bs → Range k n' m' h' bs
wide k n m h n' m' h' bs p q r =
    each_map (In k n m h) (In k n' m' h') (λ b i.
    record {
      low = let l : n < b.from = i.low in omega arith;
      high = let l : b.from < h = i.high in omega arith;
      block = λ j d o. i.block j d (λ g f. o (omega arith) (omega arith));
    }) bs

range_two : (k n m h a ma ha c mc hc : ℕ) (p q : List Binding) → n ≤ a → ma ≤ m → ha ≤ h → n ≤ c → mc ≤ m → hc ≤ h
    → Range k a ma ha p → Range k c mc hc q → Range k n m h (p ++ q)
range_two k n m h a ma ha c mc hc p q i1 i2 i3 i4 i5 i6 r s =
    each_append (In k n m h) p q (wide k a ma ha n m h p i1 i2 i3 r) (wide k c mc hc n m h q i4 i5 i6 s)

-- parameters stand in their own block, the line n
pub range_params : (k n m h : ℕ) (ps : List Part) → n < m → suc n < h → Range k n m h (map (bind by_param n (suc n)) ps)
range_params k n m h [] p q = tt
range_params k n m h (x ∷ ps) p q = (record { low = omega arith; high = q; block = λ j d o e. o (omega arith) (omega arith) }, range_params k n m h ps p q)

-- a name bound in the block around
range_one : (w : How) (k n m h f : ℕ) (x : Part) → n < f → f < h → In k n m h (bind w k f x)
range_one w k n m h f x p q = record { low = p; high = q; block = λ j d o. d }

mutual
  pub range_e : (e : Expr) (n k : ℕ) → Range k n (n + len_e e) (n + len_e e) (binds_e e n)
  range_e (var l) n k = tt
  range_e (node l es) n k = wide k (suc n) _ _ n _ _ (binds_es es (suc n)) (omega arith) (omega arith) (omega arith) (range_es es (suc n) k)
  range_e (access l es) n k = wide k (suc n) _ _ n _ _ (binds_es es (suc n)) (omega arith) (omega arith) (omega arith) (range_es es (suc n) k)
  range_e (tuple l es) n k = wide k (suc n) _ _ n _ _ (binds_es es (suc n)) (omega arith) (omega arith) (omega arith) (range_es es (suc n) k)
  range_e (call l f es) n k =
      range_two k n _ _ (suc n) _ _ (suc n + len_e f) _ _ (binds_e f (suc n)) (binds_es es (suc n + len_e f))
      (omega arith) (omega arith) (omega arith) (omega arith) (omega arith) (omega arith) (range_e f (suc n) k) (range_es es (suc n + len_e f) k)
  range_e (lambda l e) n k =
      range_two k n _ _ n (n + len_e (lambda l e)) (n + len_e (lambda l e)) (suc n) _ _ (params n l) (binds_e e (suc n))
      (omega arith) (omega arith) (omega arith) (omega arith) (omega arith) (omega arith) (range_params k n _ _ l.params (omega arith) (omega arith)) (range_e e (suc n) k)

  pub range_es : (es : Exprs) (n k : ℕ) → Range k n (n + len_es es) (n + len_es es) (binds_es es n)
  range_es enil n k = tt
  range_es (econs e es) n k =
      range_two k n _ _ n _ _ (n + len_e e) _ _ (binds_e e n) (binds_es es (n + len_e e))
      (omega arith) (omega arith) (omega arith) (omega arith) (omega arith) (omega arith) (range_e e n k) (range_es es (n + len_e e) k)

mutual
  pub range_t : (t : Expr) (n k : ℕ) → Range k n (n + len_e t) (suc (n + len_e t)) (binds_t t n k)
  range_t (var l) n k = (range_one by_target k n _ _ (suc n) l.name (omega arith) (omega arith), tt)
  range_t (node l es) n k = tt
  range_t (access l es) n k = wide k (suc n) _ _ n _ _ (binds_es es (suc n)) (omega arith) (omega arith) (omega arith) (range_es es (suc n) k)
  range_t (tuple l es) n k = wide k (suc n) _ _ n _ _ (binds_ts es (suc n) k) (omega arith) (omega arith) (omega arith) (range_ts es (suc n) k)
  range_t (call l f es) n k = tt
  range_t (lambda l e) n k = tt

  pub range_ts : (es : Exprs) (n k : ℕ) → Range k n (n + len_es es) (suc (n + len_es es)) (binds_ts es n k)
  range_ts enil n k = tt
  range_ts (econs e es) n k =
      range_two k n _ _ n _ _ (n + len_e e) _ _ (binds_t e n k) (binds_ts es (n + len_e e) k)
      (omega arith) (omega arith) (omega arith) (omega arith) (omega arith) (omega arith) (range_t e n k) (range_ts es (n + len_e e) k)

pub range_class : (h : Home) (k n m g : ℕ) (bs : List Binding) → Range k n m g bs → Range k n m g (in_classes_b h bs)
range_class in_module k n m g bs r = r
range_class in_def k n m g bs r = tt
range_class in_method k n m g bs r = tt

-- a block's parameters and body, seen from around it: their blocks all have their line in it
pub range_block : (k n i : ℕ) (ps : List Part) (bs : List Binding) → Range n (suc n) (suc n + i) (suc (suc n + i)) bs
    → Range k n (n + suc i) (suc (n + suc i)) (map (bind by_param n (suc n)) ps ++ bs)
range_block k n i ps bs r =
    each_append (In k n (n + suc i) (suc (n + suc i))) (map (bind by_param n (suc n)) ps) bs (range_params k n _ _ ps (omega arith) (omega arith))
    (each_map (In n (suc n) (suc n + i) (suc (suc n + i))) (In k n (n + suc i) (suc (n + suc i))) (λ b a.
    record {
      low = let l : suc n < b.from = a.low in omega arith;
      high = let l : b.from < suc (suc n + i) = a.high in omega arith;
      block = λ j d o. a.block j (λ e. o (omega arith) (omega arith)) (λ p q. o (omega arith) (omega arith));
    }) bs r)

mutual
  pub range_s : (s : Stmt) (n k : ℕ) (h : Home) → Range k n (n + len_s s) (suc (n + len_s s)) (binds_s s n k h)
  range_s (simple l es) n k h = wide k (suc n) _ _ n _ _ (binds_es es (suc n)) (omega arith) (omega arith) (omega arith) (range_es es (suc n) k)
  range_s (assign l e t) n k h =
      range_two k n _ _ (suc n) _ _ (suc n + len_e e) _ _ (binds_e e (suc n)) (binds_t t (suc n + len_e e) k)
      (omega arith) (omega arith) (omega arith) (omega arith) (omega arith) (omega arith) (range_e e (suc n) k) (range_t t (suc n + len_e e) k)
  range_s (block l c b) n k h =
      range_two k n _ _ (suc n) _ _ (suc n + len_e c) _ _ (binds_e c (suc n)) (binds_ss b (suc n + len_e c) k h)
      (omega arith) (omega arith) (omega arith) (omega arith) (omega arith) (omega arith) (range_e c (suc n) k) (range_ss b (suc n + len_e c) k h)
  range_s (choice l c b d e) n k h =
      let n1 : ℕ = suc n + len_e c in
      let n2 : ℕ = suc n + len_e c + len_ss b in
      let n3 : ℕ = suc n + len_e c + len_ss b + len_ss d in
      let m : ℕ = n + len_s (choice l c b d e) in
      let r2 = range_two k n2 m (suc m) n2 (n2 + len_ss d) (suc (n2 + len_ss d)) n3 (n3 + len_ss e) (suc (n3 + len_ss e)) (binds_ss d n2 k h) (binds_ss e n3 k h)
      (omega arith) (omega arith) (omega arith) (omega arith) (omega arith) (omega arith) (range_ss d n2 k h) (range_ss e n3 k h) in
      let r1 = range_two k n1 m (suc m) n1 (n1 + len_ss b) (suc (n1 + len_ss b)) n2 m (suc m) (binds_ss b n1 k h) (binds_ss d n2 k h ++ binds_ss e n3 k h)
      (omega arith) (omega arith) (omega arith) (omega arith) (omega arith) (omega arith) (range_ss b n1 k h) r2 in
      range_two k n m (suc m) (suc n) (suc n + len_e c) (suc n + len_e c) n1 m (suc m) (binds_e c (suc n)) (binds_ss b n1 k h ++ (binds_ss d n2 k h ++ binds_ss e n3 k h))
      (omega arith) (omega arith) (omega arith) (omega arith) (omega arith) (omega arith) (range_e c (suc n) k) r1
  range_s (for l e b) n k h = (
    range_one by_for k n _ _ (suc n + len_e e) l.name (omega arith) (omega arith),
    range_two k n _ _ (suc n) _ _ (suc n + len_e e) _ _ (binds_e e (suc n)) (binds_ss b (suc n + len_e e) k h)
        (omega arith) (omega arith) (omega arith) (omega arith) (omega arith) (omega arith) (range_e e (suc n) k) (range_ss b (suc n + len_e e) k h),
  )
  range_s (def l b) n k h = (
    range_one by_def k n _ _ (suc n) l.name (omega arith) (omega arith),
    range_block k n (len_ss b) l.params (binds_ss b (suc n) n in_def) (range_ss b (suc n) n in_def),
  )
  range_s (class l ms ats) n k h = (
    range_one by_class k n _ _ (suc n) l.name (omega arith) (omega arith),
    range_class h k n (n + len_s (class l ms ats)) (suc (n + len_s (class l ms ats))) (binds_ms ms (suc n))
        (wide k (suc n) _ _ n _ _ (binds_ms ms (suc n)) (omega arith) (omega arith) (omega arith) (range_ms ms (suc n) k)),
  )

  pub range_ss : (ss : Stmts) (n k : ℕ) (h : Home) → Range k n (n + len_ss ss) (suc (n + len_ss ss)) (binds_ss ss n k h)
  range_ss snil n k h = tt
  range_ss (scons s ss) n k h =
      range_two k n _ _ n _ _ (n + len_s s) _ _ (binds_s s n k h) (binds_ss ss (n + len_s s) k h)
      (omega arith) (omega arith) (omega arith) (omega arith) (omega arith) (omega arith) (range_s s n k h) (range_ss ss (n + len_s s) k h)

  pub range_ms : (ms : Methods) (n k : ℕ) → Range k n (n + len_ms ms) (suc (n + len_ms ms)) (binds_ms ms n)
  range_ms mnil n k = tt
  range_ms (mcons l b ms) n k =
      range_two k n _ _ n (n + suc (len_ss b)) (suc (n + suc (len_ss b))) (suc n + len_ss b) _ _ (params n l ++ binds_ss b (suc n) n in_method) (binds_ms ms (suc n + len_ss b))
      (omega arith) (omega arith) (omega arith) (omega arith) (omega arith) (omega arith)
      (range_block k n (len_ss b) l.params (binds_ss b (suc n) n in_method) (range_ss b (suc n) n in_method))
      (range_ms ms (suc n + len_ss b) k)
