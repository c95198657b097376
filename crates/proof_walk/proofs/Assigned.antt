-- Which names are assigned along the rows of a def's body, as the walk of the tree has them and as the def's notes have them: the same.
-- The idea: from row to row of a part, the notes of the def add just those of the part to what was assigned before it (`Assigns`); a
-- note counts after the part's first row and up to the row after its last, or never. So a part splits into its parts.
use Rattle.std.proofs.Common.{ℕ, suc, ◌+◌, ◌≤◌, ◌<◌, arith, ◌≡◌, refl, sym, ap, ap₂, ◌∙◌, false, ◌&&◌, ◌||◌, List, [], ◌∷◌, ◌++◌, map, ◌⊎◌, inl, inr, leb, le-leb}
use Rattle.std.proofs.Math.Bool.{or_assoc, or_comm, or-false}
use Rattle.std.proofs.lemmas.Bool.{lt-leb}
use Rattle.spec_text.specs.Bytes.{Bytes, Part, same, mem}
use Rattle.spec_text.specs.Tree.{Line, Expr, Exprs, Stmt, Stmts, var, node, access, tuple, call, lambda, enil, econs, simple, assign, block, choice, for, def, class, snil, scons, len_e, len_es, len_s, len_ss}
use Rattle.spec_faults.specs.Rust.{collect_locals, collect_locals_of, collect_locals_from_target, collect_locals_from_targets}
use Rattle.spec_faults.proofs.Lists.{mem_append, any_append, All, none, also, all_append, all_map}
use Rattle.spec_faults.proofs.ListingWalk.{State, assigning, after_t, after_ts, after_s, after_ss}
use Rattle.work_marks.specs.MarksModel.{never}
use Rattle.proof_walk.proofs.Noted.{Later}
use Rattle.proof_walk.specs.Notes.{Note, note, notes_t, notes_ts, notes_s, notes_ss, notes_d, note_of, assigned_by}

-- ---- a def's own names are the locals that the Rust gathers
note_of_two : (x : Bytes) (D E : List Note) (p q : List Part) → note_of D x ≡ mem x p → note_of E x ≡ mem x q → note_of (D ++ E) x ≡ mem x (p ++ q)
note_of_two x D E p q d e = any_append _ D E ∙ ap₂ ◌||◌ d e ∙ sym (mem_append x p q)

module _ (x : Bytes) where
  mutual
    locals_t_lem : (t : Expr) (i : ℕ) → note_of (notes_t t i) x ≡ mem x (collect_locals_from_target t)
    locals_t_lem (var l) i = refl
    locals_t_lem (node l es) i = refl
    locals_t_lem (access l es) i = refl
    locals_t_lem (tuple l es) i = locals_ts_lem es (suc i)
    locals_t_lem (call l f es) i = refl
    locals_t_lem (lambda l e) i = refl

    locals_ts_lem : (es : Exprs) (i : ℕ) → note_of (notes_ts es i) x ≡ mem x (collect_locals_from_targets es)
    locals_ts_lem enil i = refl
    locals_ts_lem (econs e es) i = note_of_two x (notes_t e i) (notes_ts es (i + len_e e)) (collect_locals_from_target e) (collect_locals_from_targets es) (locals_t_lem e i) (locals_ts_lem es (i + len_e e))

  mutual
    locals_s_lem : (s : Stmt) (i : ℕ) → note_of (notes_s s i) x ≡ mem x (collect_locals_of s)
    locals_s_lem (simple l es) i = refl
    locals_s_lem (assign l e t) i = locals_t_lem t (suc i + len_e e)
    locals_s_lem (block l c b) i = locals_ss_lem b (suc i + len_e c)
    locals_s_lem (choice l c b k e) i =
        note_of_two x (notes_ss b (suc i + len_e c)) _ (collect_locals b) (collect_locals k ++ collect_locals e) (locals_ss_lem b (suc i + len_e c))
        (note_of_two x (notes_ss k (suc i + len_e c + len_ss b)) _ (collect_locals k) (collect_locals e) (locals_ss_lem k (suc i + len_e c + len_ss b))
        (locals_ss_lem e (suc i + len_e c + len_ss b + len_ss k)))
    locals_s_lem (for l e b) i = ap (λ t. same x l.name.bytes || t) (locals_ss_lem b (suc i + len_e e))
    locals_s_lem (def l b) i = refl
    locals_s_lem (class l ms ats) i = refl

    locals_ss_lem : (ss : Stmts) (i : ℕ) → note_of (notes_ss ss i) x ≡ mem x (collect_locals ss)
    locals_ss_lem snil i = refl
    locals_ss_lem (scons s ss) i = note_of_two x (notes_s s i) (notes_ss ss (i + len_s s)) (collect_locals_of s) (collect_locals ss) (locals_s_lem s i) (locals_ss_lem ss (i + len_s s))

  locals_params : (from : ℕ) (ps : List Part) → note_of (map (note from) ps) x ≡ mem x ps
  locals_params from [] = refl
  locals_params from (p ∷ ps) = ap (λ t. same x p.bytes || t) (locals_params from ps)

  pub locals : (l : Line) (b : Stmts) (i : ℕ) → note_of (notes_d l b i) x ≡ mem x (l.params ++ collect_locals b)
  locals l b i = note_of_two x (map (note (suc i)) l.params) (notes_ss b (suc i)) l.params (collect_locals b) (locals_params (suc i) l.params) (locals_ss_lem b (suc i))

-- ---- where notes count: after row i and up to row m, or never
pub record Within (i m : ℕ) (n : Note) : Type 0 where
  pub low : i < n.from
  pub high : (n.from ≤ m) ⊎ (n.from ≡ never)

abbrev pub Range : ℕ → ℕ → List Note → Type 0
Range i m D = All (Within i m) D

counts : {k m : ℕ} (f : ℕ) (x : Part) → k < f → f ≤ m → Within k m (note f x)
counts f x p q = record { low = p; high = inl q }

unassigned : {k m : ℕ} (x : Part) → k < never → Within k m (note never x)
unassigned x p = record { low = p; high = inr refl }

-- of a part that begins at row i, not before row k, and ends at row m or before
mutual
  range_t_lem : (t : Expr) (k i m : ℕ) → k ≤ i → i + len_e t ≤ m → Range k m (notes_t t i)
  range_t_lem (var l) k i m p q = also (counts (suc i) l.name (omega arith) (omega arith)) none
  range_t_lem (node l es) k i m p q = none
  range_t_lem (access l es) k i m p q = none
  range_t_lem (tuple l es) k i m p q = range_ts_lem es k (suc i) m (omega arith) (omega arith)
  range_t_lem (call l f es) k i m p q = none
  range_t_lem (lambda l e) k i m p q = none

  range_ts_lem : (es : Exprs) (k i m : ℕ) → k ≤ i → i + len_es es ≤ m → Range k m (notes_ts es i)
  range_ts_lem enil k i m p q = none
  range_ts_lem (econs e es) k i m p q =
      all_append (range_t_lem e k i m p (omega arith)) (range_ts_lem es k (i + len_e e) m (omega arith) (omega arith))

mutual
  range_s_lem : (s : Stmt) (k i m : ℕ) → k ≤ i → i + len_s s ≤ m → m < never → Range k m (notes_s s i)
  range_s_lem (simple l es) k i m p q n = none
  range_s_lem (assign l e t) k i m p q n = range_t_lem t k (suc i + len_e e) m (omega arith) (omega arith)
  range_s_lem (block l c b) k i m p q n = range_ss_lem b k (suc i + len_e c) m (omega arith) (omega arith) n
  range_s_lem (choice l c b d e) k i m p q n =
      all_append (range_ss_lem b k (suc i + len_e c) m (omega arith) (omega arith) n)
      (all_append (range_ss_lem d k (suc i + len_e c + len_ss b) m (omega arith) (omega arith) n)
      (range_ss_lem e k (suc i + len_e c + len_ss b + len_ss d) m (omega arith) (omega arith) n))
  range_s_lem (for l e b) k i m p q n = also (counts (suc i + len_e e) l.name (omega arith) (omega arith)) (range_ss_lem b k (suc i + len_e e) m (omega arith) (omega arith) n)
  range_s_lem (def l b) k i m p q n = also (unassigned l.name (omega arith)) none
  range_s_lem (class l ms ats) k i m p q n = also (unassigned l.name (omega arith)) none

  range_ss_lem : (ss : Stmts) (k i m : ℕ) → k ≤ i → i + len_ss ss ≤ m → m < never → Range k m (notes_ss ss i)
  range_ss_lem snil k i m p q n = none
  range_ss_lem (scons s ss) k i m p q n =
      all_append (range_s_lem s k i m p (omega arith) n) (range_ss_lem ss k (i + len_s s) m (omega arith) (omega arith) n)

-- none of them counts yet at row r
not_yet : {k m : ℕ} {D : List Note} → Range k m D → (x : Bytes) (r : ℕ) → r ≤ k → assigned_by D x r ≡ false
not_yet none x r l = refl
not_yet {k} (also {a = n} w g) x r l =
    let lo : k < n.from = w.low in
    ap₂ (λ t u. t && same x n.name.bytes || u) (lt-leb n.from r (omega arith)) (not_yet g x r l)

-- those that count at all count at row m, as they do at a later row r
all_there : {k m : ℕ} {D : List Note} → Range k m D → (x : Bytes) (r : ℕ) → m ≤ r → r < never → assigned_by D x r ≡ assigned_by D x m
all_there none x r l s = refl
all_there {m = m} (also {a = n} w g) x r l s = ap₂ (λ t u. t && same x n.name.bytes || u) (go w.high) (all_there g x r l s)
  where
    go : (n.from ≤ m) ⊎ (n.from ≡ never) → leb n.from r ≡ leb n.from m
    go (inl h) = le-leb n.from r (omega arith) ∙ sym (le-leb n.from m h)
    go (inr h) = lt-leb n.from r (omega arith) ∙ sym (lt-leb n.from m (omega arith))

-- ---- from row i to row m, the notes ns add those of D to the names a
pub record Assigns (ns : List Note) (a : List Part) (D : List Note) (i m : ℕ) : Type 0 where
  pub early : m < never
  pub by : (x : Bytes) (r : ℕ) → i ≤ r → r ≤ m → assigned_by ns x r ≡ (mem x a || assigned_by D x r)

module _ {ns : List Note} {a : List Part} {D : List Note} {i m : ℕ} (g : Assigns ns a D i m) where
  -- up to the first of them nothing changes
  pub still : {k j : ℕ} → Range k j D → (x : Bytes) (r : ℕ) → i ≤ r → r ≤ m → r ≤ k → mem x a ≡ assigned_by ns x r
  still c x r p q l = sym (g.by x r p q ∙ ap (λ t. mem x a || t) (not_yet c x r l) ∙ or-false (mem x a))

  -- a part of the rows
  pub cut : (j k : ℕ) → i ≤ j → k ≤ m → Assigns ns a D j k
  cut j k p q = record { early = omega arith; by = λ x r s t. g.by x r (omega arith) (omega arith) }

module _ {ns : List Note} {a : List Part} {i m : ℕ} (D E : List Note) (g : Assigns ns a (D ++ E) i m) where
  split : (x : Bytes) (r : ℕ) → i ≤ r → r ≤ m → assigned_by ns x r ≡ (mem x a || assigned_by D x r || assigned_by E x r)
  split x r p q = g.by x r p q ∙ ap (λ t. mem x a || t) (any_append _ D E) ∙ sym (or_assoc (mem x a) (assigned_by D x r) (assigned_by E x r))

  -- a part up to row j, and one from there on
  first : (j : ℕ) {k : ℕ} → j ≤ m → Range j k E → Assigns ns a D i j
  first j q c = record { early = omega arith; by = λ x r s t. split x r s (omega arith) ∙ ap (λ u. mem x a || assigned_by D x r || u) (not_yet c x r t) ∙ or-false (mem x a || assigned_by D x r) }

  rest : (j : ℕ) {k : ℕ} (a' : List Part) → i ≤ j → Range k j D → ((x : Bytes) → mem x a' ≡ (mem x a || assigned_by D x j)) → Assigns ns a' E j m
  rest j a' p c e = record {
    early = g.early;
    by = λ x r s t.
        split x r (omega arith) t ∙ ap (λ u. mem x a || u || assigned_by E x r) (all_there c x r s (omega arith)) ∙ ap (λ u. u || assigned_by E x r) (sym (e x));
  }

-- ---- what is assigned after a part, at a row m after it
module _ (x : Bytes) where
  after_two : (a b c : List Part) (D E : List Note) (m : ℕ) → mem x b ≡ (mem x a || assigned_by D x m) → mem x c ≡ (mem x b || assigned_by E x m)
      → mem x c ≡ (mem x a || assigned_by (D ++ E) x m)
  after_two a b c D E m p q =
      q ∙ ap (λ t. t || assigned_by E x m) p ∙ or_assoc (mem x a) (assigned_by D x m) (assigned_by E x m) ∙ ap (λ t. mem x a || t) (sym (any_append _ D E))

  -- a name, and what comes after it
  after_name : (y : Part) (a : List Part) (E : List Note) (f m : ℕ) → f ≤ m → (mem x (y ∷ a) || assigned_by E x m) ≡ (mem x a || assigned_by (note f y ∷ E) x m)
  after_name y a E f m l =
      ap (λ t. t || assigned_by E x m) (or_comm (same x y.bytes) (mem x a)) ∙ or_assoc (mem x a) (same x y.bytes) (assigned_by E x m)
      ∙ ap (λ t. mem x a || (t && same x y.bytes || assigned_by E x m)) (sym (le-leb f m l))

  after_never : (y : Part) (a : List Part) (m : ℕ) → m < never → mem x a ≡ (mem x a || assigned_by (note never y ∷ []) x m)
  after_never y a m l = sym (ap (λ t. mem x a || (t && same x y.bytes || false)) (lt-leb never m l) ∙ or-false (mem x a))

  mutual
    after_t_lem : (t : Expr) (i m : ℕ) (st : State) → i + len_e t ≤ m → mem x (after_t t st).assigned ≡ (mem x st.assigned || assigned_by (notes_t t i) x m)
    after_t_lem (var l) i m st p = sym (or-false (mem x (l.name ∷ st.assigned))) ∙ after_name l.name st.assigned [] (suc i) m (omega arith)
    after_t_lem (node l es) i m st p = sym (or-false (mem x st.assigned))
    after_t_lem (access l es) i m st p = sym (or-false (mem x st.assigned))
    after_t_lem (tuple l es) i m st p = after_ts_lem es (suc i) m st (omega arith)
    after_t_lem (call l f es) i m st p = sym (or-false (mem x st.assigned))
    after_t_lem (lambda l e) i m st p = sym (or-false (mem x st.assigned))

    after_ts_lem : (es : Exprs) (i m : ℕ) (st : State) → i + len_es es ≤ m → mem x (after_ts es st).assigned ≡ (mem x st.assigned || assigned_by (notes_ts es i) x m)
    after_ts_lem enil i m st p = sym (or-false (mem x st.assigned))
    after_ts_lem (econs e es) i m st p =
        after_two st.assigned (after_t e st).assigned (after_ts es (after_t e st)).assigned (notes_t e i) (notes_ts es (i + len_e e)) m (after_t_lem e i m st (omega arith))
        (after_ts_lem es (i + len_e e) m (after_t e st) (omega arith))

  mutual
    after_s_lem : (s : Stmt) (i m : ℕ) (st : State) → i + len_s s ≤ m → m < never → mem x (after_s s st).assigned ≡ (mem x st.assigned || assigned_by (notes_s s i) x m)
    after_s_lem (simple l es) i m st p q = sym (or-false (mem x st.assigned))
    after_s_lem (assign l e t) i m st p q = after_t_lem t (suc i + len_e e) m st (omega arith)
    after_s_lem (block l c b) i m st p q = after_ss_lem b (suc i + len_e c) m st (omega arith) q
    after_s_lem (choice l c b k e) i m st p q =
        let bs : State = after_ss b st in
        let ks : State = after_ss k bs in
        let es : State = after_ss e ks in
        let e_n : List Note = notes_ss e (suc i + len_e c + len_ss b + len_ss k) in
        let k_n : List Note = notes_ss k (suc i + len_e c + len_ss b) in
        after_two st.assigned bs.assigned es.assigned (notes_ss b (suc i + len_e c)) (k_n ++ e_n) m (after_ss_lem b (suc i + len_e c) m st (omega arith) q)
        (after_two bs.assigned ks.assigned es.assigned k_n e_n m (after_ss_lem k (suc i + len_e c + len_ss b) m bs (omega arith) q)
        (after_ss_lem e (suc i + len_e c + len_ss b + len_ss k) m ks (omega arith) q))
    after_s_lem (for l e b) i m st p q =
        after_ss_lem b (suc i + len_e e) m (assigning l.name st) (omega arith) q ∙ after_name l.name st.assigned (notes_ss b (suc i + len_e e)) (suc i + len_e e) m (omega arith)
    after_s_lem (def l b) i m st p q = after_never l.name st.assigned m q
    after_s_lem (class l ms ats) i m st p q = after_never l.name st.assigned m q

    after_ss_lem : (ss : Stmts) (i m : ℕ) (st : State) → i + len_ss ss ≤ m → m < never → mem x (after_ss ss st).assigned ≡ (mem x st.assigned || assigned_by (notes_ss ss i) x m)
    after_ss_lem snil i m st p q = sym (or-false (mem x st.assigned))
    after_ss_lem (scons s ss) i m st p q =
        after_two st.assigned (after_s s st).assigned (after_ss ss (after_s s st)).assigned (notes_s s i) (notes_ss ss (i + len_s s)) m (after_s_lem s i m st (omega arith) q)
        (after_ss_lem ss (i + len_s s) m (after_s s st) (omega arith) q)

-- ---- a part and its parts
module _ {ns : List Note} {i : ℕ} where
  -- a statement, and those after it
  module _ (s : Stmt) (ss : Stmts) where
    pub stmts_first : {a : List Part} → Assigns ns a (notes_ss (scons s ss) i) i (i + len_ss (scons s ss)) → Assigns ns a (notes_s s i) i (i + len_s s)
    stmts_first g =
        first (notes_s s i) (notes_ss ss (i + len_s s)) g (i + len_s s) (omega arith)
        (range_ss_lem ss (i + len_s s) (i + len_s s) (i + len_s s + len_ss ss) (omega arith) (omega arith) (omega arith))

    pub stmts_rest : (st : State) → Assigns ns st.assigned (notes_ss (scons s ss) i) i (i + len_ss (scons s ss))
        → Assigns ns (after_s s st).assigned (notes_ss ss (i + len_s s)) (i + len_s s) (i + len_s s + len_ss ss)
    stmts_rest st g =
        cut (rest (notes_s s i) (notes_ss ss (i + len_s s)) g (i + len_s s) (after_s s st).assigned (omega arith) (range_s_lem s i i (i + len_s s) (omega arith) (omega arith) (omega arith))
        (λ x. after_s_lem x s i (i + len_s s) st (omega arith) (omega arith))) (i + len_s s) (i + len_s s + len_ss ss) (omega arith) (omega arith)

  module _ (e : Expr) (es : Exprs) where
    pub targets_first : {a : List Part} → Assigns ns a (notes_ts (econs e es) i) i (i + len_es (econs e es)) → Assigns ns a (notes_t e i) i (i + len_e e)
    targets_first g =
        first (notes_t e i) (notes_ts es (i + len_e e)) g (i + len_e e) (omega arith) (range_ts_lem es (i + len_e e) (i + len_e e) (i + len_e e + len_es es) (omega arith) (omega arith))

    pub targets_rest : (st : State) → Assigns ns st.assigned (notes_ts (econs e es) i) i (i + len_es (econs e es))
        → Assigns ns (after_t e st).assigned (notes_ts es (i + len_e e)) (i + len_e e) (i + len_e e + len_es es)
    targets_rest st g =
        cut (rest (notes_t e i) (notes_ts es (i + len_e e)) g (i + len_e e) (after_t e st).assigned (omega arith) (range_t_lem e i i (i + len_e e) (omega arith) (omega arith))
        (λ x. after_t_lem x e i (i + len_e e) st (omega arith))) (i + len_e e) (i + len_e e + len_es es) (omega arith) (omega arith)

  pub tuple_parts : (l : Line) (es : Exprs) {a : List Part} → Assigns ns a (notes_t (tuple l es) i) i (i + len_e (tuple l es)) → Assigns ns a (notes_ts es (suc i)) (suc i) (suc i + len_es es)
  tuple_parts l es g = cut g (suc i) (suc i + len_es es) (omega arith) (omega arith)

  -- the parts of a statement, and the rows before the first of them
  module _ (l : Line) (e t : Expr) {a : List Part} (g : Assigns ns a (notes_s (assign l e t) i) i (i + len_s (assign l e t))) where
    pub assign_still : (x : Bytes) (r : ℕ) → suc i ≤ r → r < suc i + len_e e → mem x a ≡ assigned_by ns x r
    assign_still x r s u = still g (range_t_lem t (suc i + len_e e) (suc i + len_e e) (suc i + len_e e + len_e t) (omega arith) (omega arith)) x r (omega arith) (omega arith) (omega arith)

    pub assign_target : Assigns ns a (notes_t t (suc i + len_e e)) (suc i + len_e e) (suc i + len_e e + len_e t)
    assign_target = cut g (suc i + len_e e) (suc i + len_e e + len_e t) (omega arith) (omega arith)

  module _ (l : Line) (c : Expr) (b : Stmts) {a : List Part} (g : Assigns ns a (notes_s (block l c b) i) i (i + len_s (block l c b))) where
    pub block_still : (x : Bytes) (r : ℕ) → suc i ≤ r → r < suc i + len_e c → mem x a ≡ assigned_by ns x r
    block_still x r s u =
        still g (range_ss_lem b (suc i + len_e c) (suc i + len_e c) (suc i + len_e c + len_ss b) (omega arith) (omega arith) (omega arith)) x r (omega arith) (omega arith) (omega arith)

    pub block_body : Assigns ns a (notes_ss b (suc i + len_e c)) (suc i + len_e c) (suc i + len_e c + len_ss b)
    block_body = cut g (suc i + len_e c) (suc i + len_e c + len_ss b) (omega arith) (omega arith)

  module _ (l : Line) (c : Expr) (b k e : Stmts) (st : State) (g : Assigns ns st.assigned (notes_s (choice l c b k e) i) i (i + len_s (choice l c b k e))) where
    -- the rows at which the three parts begin, and the row after them
    abbrev i₁ : ℕ
    i₁ = suc i + len_e c

    abbrev i₂ : ℕ
    i₂ = suc i + len_e c + len_ss b

    abbrev i₃ : ℕ
    i₃ = suc i + len_e c + len_ss b + len_ss k

    abbrev i₄ : ℕ
    i₄ = suc i + len_e c + len_ss b + len_ss k + len_ss e

    rest_range : (j : ℕ) → j ≤ i₂ → Range j i₄ (notes_ss k i₂ ++ notes_ss e i₃)
    rest_range j q = all_append (range_ss_lem k j i₂ i₄ q (omega arith) (omega arith)) (range_ss_lem e j i₃ i₄ (omega arith) (omega arith) (omega arith))

    pub choice_still : (x : Bytes) (r : ℕ) → suc i ≤ r → r < suc i + len_e c → mem x st.assigned ≡ assigned_by ns x r
    choice_still x r s u =
        still g (all_append (range_ss_lem b i₁ i₁ i₄ (omega arith) (omega arith) (omega arith)) (rest_range i₁ (omega arith))) x r (omega arith) (omega arith) (omega arith)

    pub choice_body : Assigns ns st.assigned (notes_ss b (suc i + len_e c)) (suc i + len_e c) (suc i + len_e c + len_ss b)
    choice_body = first (notes_ss b i₁) (notes_ss k i₂ ++ notes_ss e i₃) (cut g i₁ i₄ (omega arith) (omega arith)) i₂ (omega arith) (rest_range i₂ (omega arith))

    choice_rest : Assigns ns (after_ss b st).assigned (notes_ss k i₂ ++ notes_ss e i₃) i₂ i₄
    choice_rest =
        rest (notes_ss b i₁) (notes_ss k i₂ ++ notes_ss e i₃) (cut g i i₄ (omega arith) (omega arith)) i₂ (after_ss b st).assigned (omega arith)
        (range_ss_lem b i i₁ i₂ (omega arith) (omega arith) (omega arith)) (λ x. after_ss_lem x b i₁ i₂ st (omega arith) (omega arith))

    pub choice_elifs : Assigns ns (after_ss b st).assigned (notes_ss k (suc i + len_e c + len_ss b)) (suc i + len_e c + len_ss b) (suc i + len_e c + len_ss b + len_ss k)
    choice_elifs = first (notes_ss k i₂) (notes_ss e i₃) choice_rest i₃ (omega arith) (range_ss_lem e i₃ i₃ i₄ (omega arith) (omega arith) (omega arith))

    pub choice_else : Assigns ns (after_ss k (after_ss b st)).assigned (notes_ss e (suc i + len_e c + len_ss b + len_ss k)) (suc i + len_e c + len_ss b + len_ss k) (suc i + len_e c + len_ss b + len_ss k + len_ss e)
    choice_else =
        rest (notes_ss k i₂) (notes_ss e i₃) choice_rest i₃ (after_ss k (after_ss b st)).assigned (omega arith) (range_ss_lem k i i₂ i₃ (omega arith) (omega arith) (omega arith))
        (λ x. after_ss_lem x k i₂ i₃ (after_ss b st) (omega arith) (omega arith))

  -- the name of a `for` is assigned at the row after its expression
  module _ (l : Line) (e : Expr) (b : Stmts) {a : List Part} (g : Assigns ns a (notes_s (for l e b) i) i (i + len_s (for l e b))) where
    pub for_still : (x : Bytes) (r : ℕ) → suc i ≤ r → r < suc i + len_e e → mem x a ≡ assigned_by ns x r
    for_still x r s u =
        still g (also (counts (suc i + len_e e) l.name u (omega arith)) (range_ss_lem b r (suc i + len_e e) (suc i + len_e e + len_ss b) (omega arith) (omega arith) (omega arith))) x r (omega arith) (omega arith) (omega arith)

    pub for_body : Assigns ns (l.name ∷ a) (notes_ss b (suc i + len_e e)) (suc i + len_e e) (suc i + len_e e + len_ss b)
    for_body = record {
      early = omega arith;
      by = λ x r s u. g.by x r (omega arith) (omega arith) ∙ sym (after_name x l.name a (notes_ss b (suc i + len_e e)) (suc i + len_e e) r s);
    }

-- where a part has no notes
pub none_still : {ns : List Note} {a : List Part} {i m : ℕ} → Assigns ns a [] i m → (x : Bytes) (r : ℕ) → i ≤ r → r ≤ m → mem x a ≡ assigned_by ns x r
none_still {a = a} g x r p q = sym (g.by x r p q ∙ or-false (mem x a))

-- ---- a def at row i: in its body, its parameters are assigned
pub def_body : (l : Line) (b : Stmts) (i m : ℕ) → m < never → Assigns (notes_d l b i) l.params (notes_ss b (suc i)) (suc i) m
def_body l b i m e = record { early = e; by = λ x r p q. any_append _ (map (note (suc i)) l.params) (notes_ss b (suc i)) ∙ ap (λ t. t || assigned_by (notes_ss b (suc i)) x r) (go x r p l.params) }
  where
    go : (x : Bytes) (r : ℕ) → suc i ≤ r → (ps : List Part) → assigned_by (map (note (suc i)) ps) x r ≡ mem x ps
    go x r p [] = refl
    go x r p (y ∷ ps) = ap₂ (λ t u. t && same x y.bytes || u) (le-leb (suc i) r p) (go x r p ps)

-- each note has a row after the def's, and none after `never`
pub later_d : (l : Line) (b : Stmts) (i : ℕ) → suc i + len_ss b < never → All (Later i) (notes_d l b i)
later_d l b i p = all_append (params l.params) (all_map (λ n g. record { low = g.low; high = high n g.high }) (range_ss_lem b i (suc i) (suc i + len_ss b) (omega arith) (omega arith) p))
  where
    high : (n : Note) → (n.from ≤ suc i + len_ss b) ⊎ (n.from ≡ never) → n.from ≤ never
    high n (inl q) = omega arith
    high n (inr e) = omega arith

    params : (ps : List Part) → All (Later i) (map (note (suc i)) ps)
    params [] = none
    params (y ∷ ps) = also {a = note (suc i) y} (record { low = omega arith; high = omega arith }) (params ps)
