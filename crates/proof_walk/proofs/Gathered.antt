-- The loops over what a def's rows bind, which note it or forget it: of a tree's rows they do so for the notes of the tree, in their order. By
-- recursion over statements and targets: the loop comes past each part, with its notes done. Stamps alone are written, so the rows are
-- there all along.
use Rattle.std.proofs.Common.{ℕ, suc, ◌+◌, ◌≤◌, ◌<◌, add-one, arith, ◌≡◌, refl, sym, ap, ap₂, ◌∙◌, subst, Bool, true, false, cond, not, ◌&&◌, ◌||◌, List, [], ◌∷◌, ◌++◌, ◌⊎◌, inl, inr, eqb, leb, leb-true}
use Rattle.std.proofs.lemmas.Bool.{false≢true}
use Rattle.spec_text.specs.Bytes.{Bytes}
use Rattle.spec_text.specs.Tree.{Line, Expr, Exprs, Stmt, Stmts, var, node, access, tuple, call, lambda, enil, econs, simple, assign, block, choice, for, def, class, snil, scons, len_e, len_es, len_s, len_ss}
use Rattle.work_rows.specs.Layout.{kind_at, number_at, after_row}
use Rattle.work_rows.specs.Rows.{Row, row, rows_e, rows_es, rows_s, rows_ss}
use Rattle.work_rows.proofs.Lengths.{sized_e, sized_s, sized_ss}
use Rattle.work_rows.proofs.Loops.{rows_end}
use Rattle.walk_own_names.specs.OwnNamesModel.{row_binds, next_binding, all_bindings}
use Rattle.work_marks.specs.MarksModel.{never}
use Rattle.walk_own_names.proofs.Ways.{row_def, row_class, row_for, row_var, row_none, next_past, next_child, next_after, bindings_more}
use Rattle.read_row.specs.Worded.{Some, WordedE, WordedEs, WordedS, WordedSs}
use Rattle.proof_walk.specs.Table.{Table, Here}
use Rattle.proof_walk.specs.Notes.{Note, note, notes_t, notes_ts, notes_s, notes_ss}
use Rattle.proof_walk.proofs.PartRows.{here_tail, here_left, here_past, row_kind, row_after, row_number, row_after_e, table_kept}
use Rattle.proof_walk.proofs.WordTests.{node_test, access_test, simple_test, block_test}
use Rattle.proof_walk.proofs.Noted.{Restamped, do_all, do_all-two, restamped_all}

-- ---- kinds
-- a row that binds nothing, and nothing below it is looked at
abbrev quiet : ℕ → Bool
quiet k = not (eqb k 5 || eqb k 13) && (not (eqb k 10) && (not (eqb k 17) && (not (leb 6 k && leb k 10) && not (eqb k 24))))

-- what holds where no test of the kind does
quiet_has : (k : ℕ) → quiet k ≡ true → (P : Bool → Bool → Bool → Bool → Bool → Type 0) → P false false false false false
    → P (eqb k 5 || eqb k 13) (eqb k 10) (eqb k 17) (leb 6 k && leb k 10) (eqb k 24)
quiet_has k q P h = go (eqb k 5 || eqb k 13) (eqb k 10) (eqb k 17) (leb 6 k && leb k 10) (eqb k 24) q
  where
    go : (c d e f g : Bool) → (not c && (not d && (not e && (not f && not g)))) ≡ true → P c d e f g
    go true d e f g p = absurd (false≢true p)
    go false true e f g p = absurd (false≢true p)
    go false false true f g p = absurd (false≢true p)
    go false false false true g p = absurd (false≢true p)
    go false false false false true p = absurd (false≢true p)
    go false false false false false p = h

module _ (op : ℕ → ℕ → List ℕ → List ℕ) (i : ℕ) (w : List ℕ) (q : quiet (kind_at w i) ≡ true) where
  quiet_row : row_binds op i w ≡ w
  unfolding row_binds
  quiet_row =
      quiet_has (kind_at w i) q
      (λ c d e f g. cond c (op (number_at w i) never w) (cond d (op (number_at w i) (after_row w (i + 1)) w) (cond e (op (number_at w i) (i + 1) w) w)) ≡ w) refl

  quiet_next : next_binding w i ≡ after_row w i
  unfolding next_binding
  quiet_next = quiet_has (kind_at w i) q (λ c d e f g. cond f (after_row w (i + 1)) (cond g (i + 1) (after_row w i)) ≡ after_row w i) refl

-- ---- the loop
module _ (text : Bytes) (rows : List Row) (num : Bytes → ℕ) (op : ℕ → ℕ → List ℕ → List ℕ) (one : (a from : ℕ) (w : List ℕ) → Restamped w (op a from w)) (stop : ℕ) where
  -- from row i it comes to row j, with these notes done
  record Comes (w : List ℕ) (i j : ℕ) (ns : List Note) : Type 0 where
    pub same : all_bindings op i stop w ≡ all_bindings op j stop (do_all num op ns w)

  comes_two : {w : List ℕ} {i j k m : ℕ} {ms ns : List Note} → Comes w i j ms → Comes (do_all num op ms w) j k ns → k ≡ m → Comes w i m (ms ++ ns)
  comes_two {w} {i} {j} {k} {m} {ms} {ns} p q e =
      record { same = p.same ∙ (q.same ∙ (ap (all_bindings op k stop) (sym (do_all-two num op ms ns w)) ∙ ap (λ r. all_bindings op r stop (do_all num op (ms ++ ns) w)) e)) }

  comes_none : {w : List ℕ} (i : ℕ) → Comes w i (i + 0) []
  comes_none {w} i = record { same = let e : i ≡ i + 0 = omega arith in ap (λ r. all_bindings op r stop w) e }

  -- a row that binds nothing, and one that binds a name
  comes_row : {w : List ℕ} {i j : ℕ} → i < stop → next_binding w i ≡ j → row_binds op i w ≡ w → Comes w i j []
  comes_row {w} {i} {j} l p q = record { same = sym (bindings_more op i stop j w w l (sym p) (sym q)) }

  comes_note : {w : List ℕ} {i j : ℕ} (n : Note) → i < stop → next_binding w i ≡ j → row_binds op i w ≡ op (num n.name.bytes) n.from w → Comes w i j (n ∷ [])
  comes_note {w} {i} {j} n l p q = record { same = sym (bindings_more op i stop j w (op (num n.name.bytes) n.from w) l (sym p) (sym q)) }

  kept_table : {w : List ℕ} (ns : List Note) → Table text rows num w → Table text rows num (do_all num op ns w)
  kept_table {w} ns t = table_kept (restamped_all num op one ns w).others.kept t

  -- ---- a line's row
  module _ {w : List ℕ} (t : Table text rows num w) {i n : ℕ} {l : Line} {part : List Row} (h : Here rows i (row l n ∷ part)) where
    -- nothing below it is looked at
    comes_quiet : quiet l.word ≡ true → i + suc n ≤ stop → Comes w i (i + suc n) []
    comes_quiet q s =
        let k : quiet (kind_at w i) ≡ true = ap quiet (row_kind t h) ∙ q in
        comes_row (omega arith) (quiet_next op i w k ∙ row_after t h) (quiet_row op i w k)

    comes_name : (k from : ℕ) → kind_at w i ≡ k → (k < 6) ⊎ (10 < k) → (k ≡ 24 → ⊥) → row_binds op i w ≡ op (number_at w i) from w → Some l.name
        → i + suc n ≤ stop → Comes w i (i + suc n) (note from l.name ∷ [])
    comes_name k from e o d f s m =
        comes_note (note from l.name) (omega arith)
        (next_after w i (subst (λ k. (k < 6) ⊎ (10 < k)) (sym e) o) (λ c. d (sym e ∙ c)) ∙ row_after t h) (f ∙ ap (λ a. op a from w) (row_number t h s))

    -- its expression is passed over
    past_expr : (e : Expr) → Here rows (suc i) (rows_e e) → after_row w (i + 1) ≡ suc i + len_e e
    past_expr e g = ap (after_row w) (add-one i) ∙ row_after_e t e g

    comes_past : (e : Expr) → 6 ≤ l.word → l.word ≤ 9 → Here rows (suc i) (rows_e e) → i < stop → Comes w i (suc i + len_e e) []
    comes_past e lo hi g m =
        let k : kind_at w i ≡ l.word = row_kind t h in
        comes_row m (next_past w i (omega arith) (omega arith) ∙ past_expr e g)
        (row_none op i w (λ c. omega arith) (λ c. omega arith) (λ c. omega arith) (λ c. omega arith))

    comes_for : (e : Expr) → l.word ≡ 10 → Some l.name → Here rows (suc i) (rows_e e) → i < stop → Comes w i (suc i + len_e e) (note (suc i + len_e e) l.name ∷ [])
    comes_for e c s g m =
        let k : kind_at w i ≡ 10 = row_kind t h ∙ c in
        comes_note (note (suc i + len_e e) l.name) m (next_past w i (omega arith) (omega arith) ∙ past_expr e g)
        (row_for op i w k ∙ ap₂ (λ a f. op a f w) (row_number t h s) (past_expr e g))

  -- ---- targets
  mutual
    gather_t : (e : Expr) {w : List ℕ} (i : ℕ) → Table text rows num w → WordedE e → Here rows i (rows_e e) → i + len_e e ≤ stop → Comes w i (i + len_e e) (notes_t e i)
    gather_t (var l) {w} i t d h m =
        let k : kind_at w i ≡ 17 = row_kind t h ∙ d.0 in
        comes_name t h 17 (suc i) k (inr (omega arith)) (λ c. omega arith) (row_var op i w k ∙ ap (λ f. op (number_at w i) f w) (add-one i)) d.1 m
    gather_t (node l es) i t d h m = comes_quiet t h (node_test quiet refl d.0) m
    gather_t (access l es) i t d h m = comes_quiet t h (access_test quiet refl d.0) m
    gather_t (tuple l es) {w} i t d h m =
        let k : kind_at w i ≡ 24 = row_kind t h ∙ d.0 in
        comes_two (comes_row (omega arith) (next_child w i k ∙ add-one i) (row_none op i w (λ c. omega arith) (λ c. omega arith) (λ c. omega arith) (λ c. omega arith)))
        (gather_ts es (suc i) t d.1 (here_tail h) (omega arith)) (omega arith)
    gather_t (call l f es) i t d h m = comes_quiet t h (rw d.0) m
    gather_t (lambda l e) i t d h m = comes_quiet t h (rw d.0) m

    gather_ts : (es : Exprs) {w : List ℕ} (i : ℕ) → Table text rows num w → WordedEs es → Here rows i (rows_es es) → i + len_es es ≤ stop → Comes w i (i + len_es es) (notes_ts es i)
    gather_ts enil i t d h m = comes_none i
    gather_ts (econs e es) i t d h m =
        comes_two (gather_t e i t d.0 (here_left (rows_e e) (rows_es es) h) (omega arith))
        (gather_ts es (i + len_e e) (kept_table (notes_t e i) t) d.1 (here_past (sized_e e) (rows_es es) h) (omega arith)) (omega arith)

  -- ---- statements
  mutual
    gather_s : (s : Stmt) {w : List ℕ} (i : ℕ) → Table text rows num w → WordedS s → Here rows i (rows_s s) → i + len_s s ≤ stop → Comes w i (i + len_s s) (notes_s s i)
    gather_s (simple l es) i t d h m = comes_quiet t h (simple_test quiet refl d.0) m
    gather_s (assign l e g) i t d h m =
        comes_two (comes_past t h e (omega (arith, d.0)) (omega (arith, d.0)) (here_left (rows_e e) (rows_e g) (here_tail h)) (omega arith))
        (gather_t g (suc i + len_e e) t d.1.1 (here_past (sized_e e) (rows_e g) (here_tail h)) (omega arith)) (omega arith)
    gather_s (block l c s) i t d h m =
        comes_two (comes_past t h c (leb-true 6 _ (block_test (leb 6) refl d.0)) (leb-true _ 9 (block_test (λ k. leb k 9) refl d.0)) (here_left (rows_e c) (rows_ss s) (here_tail h)) (omega arith))
        (gather_ss s (suc i + len_e c) t d.1.1 (here_past (sized_e c) (rows_ss s) (here_tail h)) (omega arith)) (omega arith)
    gather_s (choice l c s k e) i t d h m =
        let rest : Here rows (suc i + len_e c) (rows_ss s ++ (rows_ss k ++ rows_ss e)) = here_past (sized_e c) (rows_ss s ++ (rows_ss k ++ rows_ss e)) (here_tail h) in
        let last : Here rows (suc i + len_e c + len_ss s) (rows_ss k ++ rows_ss e) = here_past (sized_ss s) (rows_ss k ++ rows_ss e) rest in
        let t' : Table text rows num (do_all num op (notes_ss s (suc i + len_e c)) _) = kept_table (notes_ss s (suc i + len_e c)) t in
        comes_two (comes_past t h c (omega (arith, d.0)) (omega (arith, d.0)) (here_left (rows_e c) (rows_ss s ++ (rows_ss k ++ rows_ss e)) (here_tail h)) (omega arith))
        (comes_two (gather_ss s (suc i + len_e c) t d.1.1.0 (here_left (rows_ss s) (rows_ss k ++ rows_ss e) rest) (omega arith))
        (comes_two (gather_ss k (suc i + len_e c + len_ss s) t' d.1.1.1.0 (here_left (rows_ss k) (rows_ss e) last) (omega arith))
        (gather_ss e (suc i + len_e c + len_ss s + len_ss k) (kept_table (notes_ss k (suc i + len_e c + len_ss s)) t') d.1.1.1.1 (here_past (sized_ss k) (rows_ss e) last) (omega arith))
        refl) refl) (omega arith)
    gather_s (for l e s) i t d h m =
        comes_two (comes_for t h e d.0 d.1.0 (here_left (rows_e e) (rows_ss s) (here_tail h)) (omega arith))
        (gather_ss s (suc i + len_e e) (kept_table (note (suc i + len_e e) l.name ∷ []) t) d.1.1.1 (here_past (sized_e e) (rows_ss s) (here_tail h)) (omega arith)) (omega arith)
    gather_s (def l s) {w} i t d h m =
        let k : kind_at w i ≡ 5 = row_kind t h ∙ d.0 in
        comes_name t h 5 never k (inl (omega arith)) (λ c. omega arith) (row_def op i w k) d.1.0 m
    gather_s (class l ms ats) {w} i t d h m =
        let k : kind_at w i ≡ 13 = row_kind t h ∙ d.0 in
        comes_name t h 13 never k (inr (omega arith)) (λ c. omega arith) (row_class op i w k) d.1.0 m

    gather_ss : (ss : Stmts) {w : List ℕ} (i : ℕ) → Table text rows num w → WordedSs ss → Here rows i (rows_ss ss) → i + len_ss ss ≤ stop → Comes w i (i + len_ss ss) (notes_ss ss i)
    gather_ss snil i t d h m = comes_none i
    gather_ss (scons s ss) i t d h m =
        comes_two (gather_s s i t d.0 (here_left (rows_s s) (rows_ss ss) h) (omega arith))
        (gather_ss ss (i + len_s s) (kept_table (notes_s s i) t) d.1 (here_past (sized_s s) (rows_ss ss) h) (omega arith)) (omega arith)

-- ---- a whole body
pub gathered : {text : Bytes} {rows : List Row} {num : Bytes → ℕ} {w : List ℕ} (op : ℕ → ℕ → List ℕ → List ℕ) → ((a from : ℕ) (w : List ℕ) → Restamped w (op a from w))
    → (ss : Stmts) (i : ℕ) → Table text rows num w → WordedSs ss → Here rows i (rows_ss ss) → all_bindings op i (i + len_ss ss) w ≡ do_all num op (notes_ss ss i) w
gathered {text} {rows} {num} {w} op one ss i t d h =
    (gather_ss text rows num op one (i + len_ss ss) ss i t d h (omega arith)).same ∙ rows_end next_binding (row_binds op) (i + len_ss ss) (i + len_ss ss) (do_all num op (notes_ss ss i) w) (omega arith)
