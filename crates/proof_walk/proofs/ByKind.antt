-- The walk of one line, by its kind: what a statement of each kind does, and which lines of a loop are statements. The tests of the
-- definitions, once each.
use Rattle.std.proofs.Common.{ℕ, zero, suc, ◌≤◌, ◌<◌, add-one, arith, ◌≡◌, refl, ap, ap₂, ◌∙◌, Bool, true, false, cond, not, ◌&&◌, List, eqb, ltb, ltb-true, lt-ltb}
use Rattle.std.proofs.lemmas.Bool.{false≢true, lt-leb}
use Rattle.spec_text.specs.Bytes.{Bytes, Part}
use Rattle.spec_text.specs.Tree.{Stmt, simple, assign, block, choice, for, def, class, len_s}
use Rattle.spec_faults.specs.Faults.{lacks_self}
use Rattle.work_rows.specs.Layout.{rows_most, kind_at, number_at, after_row}
use Rattle.work_rows.specs.Rows.{Row, rows_s}
use Rattle.work_marks.specs.MarksModel.{put_slot, put_link}
use Rattle.work_rows.specs.LoopsModel.{rows_to}
use Rattle.work_rows.proofs.Loops.{rows_end, rows_more}
use Rattle.walk_scopes.specs.declared.ScopeStack.{ScopeStack}
use Rattle.walk_scopes.specs.ScopesModel.{module', home_number, scope_at, top_of, defined}
use Rattle.read_row.specs.RowModel.{params_of}
use Rattle.read_row.specs.Worded.{WordedS}
use Rattle.walk_blocks.specs.BlocksModel.{opened}
use Rattle.walk_tree.specs.WalkModel.{Walk, walk, next_line, popped, is_block, next_target, target_at, stmt_at, block_at, method_at, head_at, walk_expr, walk_stmt, walk_line, assign_at, begun_block}
use Rattle.proof_walk.specs.Table.{Table, Here}
use Rattle.proof_walk.proofs.PartRows.{row_kind}
use Rattle.proof_walk.proofs.WordTests.{simple_test, block_test}

-- ---- words of statements are before those of expressions
pub stmt_kind : {text : Bytes} {rows : List Row} {num : Bytes → ℕ} {w : List ℕ} {r : ℕ} → Table text rows num w → (s : Stmt) → Here rows r (rows_s s) → WordedS s → kind_at w r < 16
stmt_kind t (simple l es) h d = omega (arith, row_kind t h, ltb-true l.word 16 (simple_test (λ k. ltb k 16) refl d.0))
stmt_kind t (assign l e g) h d = omega (arith, row_kind t h, d.0)
stmt_kind t (block l c b) h d = omega (arith, row_kind t h, ltb-true l.word 16 (block_test (λ k. ltb k 16) refl d.0))
stmt_kind t (choice l c b k e) h d = omega (arith, row_kind t h, d.0)
stmt_kind t (for l e b) h d = omega (arith, row_kind t h, d.0)
stmt_kind t (def l b) h d = omega (arith, row_kind t h, d.0)
stmt_kind t (class l ms ats) h d = omega (arith, row_kind t h, d.0)

-- ---- a statement has a line
pub some_stmt : (s : Stmt) → 0 < len_s s
some_stmt (simple l es) = omega arith
some_stmt (assign l e t) = omega arith
some_stmt (block l c b) = omega arith
some_stmt (choice l c b k e) = omega arith
some_stmt (for l e b) = omega arith
some_stmt (def l b) = omega arith
some_stmt (class l ms ats) = omega arith

-- ---- a statement, by the kind of its row
-- the kinds of lines that are only gone through
abbrev pub plain : ℕ → Bool
plain k = not (eqb k 5) && (not (eqb k 6) && (not (eqb k 10) && (not (eqb k 13) && (not (eqb k 14) && not (eqb k 15)))))

-- lines up to the row stop, with this stack
abbrev pub kids : Bytes → ℕ → ScopeStack → ℕ → ℕ → List ℕ → Walk
kids text k t stop r w = rows_to next_line (walk_line k text) r stop (walk t w)

pub kids_end : (text : Bytes) (k : ℕ) (t : ScopeStack) (stop r : ℕ) (w : List ℕ) → stop ≤ r → kids text k t stop r w ≡ walk t w
kids_end text k t stop r w l = rows_end next_line (walk_line k text) r stop (walk t w) l

-- e is the row after the statement, m the one after its first expression, a the number of its name
module _ (text : Bytes) (k : ℕ) (t : ScopeStack) (i : ℕ) (w : List ℕ) (few : i < 4_096) (e : ℕ) (after : after_row w i ≡ e) where
  pub at_plain : plain (kind_at w i) ≡ true → walk_stmt (suc k) text i (walk t w) ≡ kids text k t e (suc i) w
  unfolding walk_stmt stmt_at
  at_plain p =
      go (eqb (kind_at w i) 5) (eqb (kind_at w i) 6) (eqb (kind_at w i) 10) (eqb (kind_at w i) 13) (eqb (kind_at w i) 14) (eqb (kind_at w i) 15) refl refl refl refl refl refl p
    where
      go : (a b c d f g : Bool) → eqb (kind_at w i) 5 ≡ a → eqb (kind_at w i) 6 ≡ b → eqb (kind_at w i) 10 ≡ c → eqb (kind_at w i) 13 ≡ d → eqb (kind_at w i) 14 ≡ f → eqb (kind_at w i) 15 ≡ g
          → (not a && (not b && (not c && (not d && (not f && not g))))) ≡ true → walk_stmt (suc k) text i (walk t w) ≡ kids text k t e (suc i) w
      go true b c d f g p1 p2 p3 p4 p5 p6 q = absurd (false≢true q)
      go false true c d f g p1 p2 p3 p4 p5 p6 q = absurd (false≢true q)
      go false false true d f g p1 p2 p3 p4 p5 p6 q = absurd (false≢true q)
      go false false false true f g p1 p2 p3 p4 p5 p6 q = absurd (false≢true q)
      go false false false false true g p1 p2 p3 p4 p5 p6 q = absurd (false≢true q)
      go false false false false false true p1 p2 p3 p4 p5 p6 q = absurd (false≢true q)
      go false false false false false false p1 p2 p3 p4 p5 p6 q = rw (lt-leb rows_most i few, p1, p5, p2, p3, p4, p6, after, add-one i) refl

  pub at_assign : kind_at w i ≡ 6 → (m : ℕ) → after_row w (suc i) ≡ m
      → walk_stmt (suc k) text i (walk t w) ≡ walk t (rows_to next_target (target_at (walk_expr k text false (top_of t)) (top_of t)) m e (walk_expr k text false (top_of t) (suc i) w))
  unfolding walk_stmt stmt_at assign_at
  at_assign c m p = rw (lt-leb rows_most i few, c, after, add-one i, p) refl

  pub at_for : kind_at w i ≡ 10 → (m : ℕ) → after_row w (suc i) ≡ m → (a : ℕ) → number_at w i ≡ a
      → walk_stmt (suc k) text i (walk t w) ≡ kids text k t e m (defined (top_of t) (walk_expr k text false (top_of t) (suc i) w) a)
  unfolding walk_stmt stmt_at
  at_for c m p a q = rw (lt-leb rows_most i few, c, after, add-one i, p, q) refl

  pub at_class : kind_at w i ≡ 13 → (a : ℕ) → number_at w i ≡ a
      → walk_stmt (suc k) text i (walk t w) ≡ cond (eqb (home_number t.home) module') (kids text k t e (suc i) (defined (top_of t) w a)) (walk t (defined (top_of t) w a))
  unfolding walk_stmt stmt_at
  at_class c a q = rw (lt-leb rows_most i few, c, after, q, add-one i) refl

  -- a block with this head, whose scope is b
  at_block : is_block (kind_at w i) ≡ true → (v : List ℕ) → head_at text (top_of t) i w ≡ v → (b : ScopeStack) → scope_at v i ≡ b
      → walk_stmt (suc k) text i (walk t w) ≡ popped (kids text k b e (suc i) (opened text (top_of b) i e (put_link v i t.row)))
  unfolding walk_stmt stmt_at block_at begun_block
  at_block c v h b s = rw (lt-leb rows_most i few, c, after, add-one i, h, s) refl

  pub at_def : kind_at w i ≡ 5 → (a : ℕ) → number_at w i ≡ a → (b : ScopeStack) → scope_at (defined (top_of t) w a) i ≡ b
      → walk_stmt (suc k) text i (walk t w) ≡ popped (kids text k b e (suc i) (opened text (top_of b) i e (put_link (defined (top_of t) w a) i t.row)))
  unfolding head_at
  at_def c a q b s = at_block (ap is_block c) (defined (top_of t) w a) (rw (c, q) refl) b s

  pub at_method : kind_at w i ≡ 14 → (ps : List Part) → params_of text w i ≡ ps → (b : ScopeStack) → scope_at (cond (lacks_self ps) (put_slot w i 15) w) i ≡ b
      → walk_stmt (suc k) text i (walk t w) ≡ popped (kids text k b e (suc i) (opened text (top_of b) i e (put_link (cond (lacks_self ps) (put_slot w i 15) w) i t.row)))
  unfolding head_at method_at
  at_method c ps q b s = at_block (ap is_block c) (cond (lacks_self ps) (put_slot w i 15) w) (rw (c, q) refl) b s

pub at_attr : (text : Bytes) (k : ℕ) (t : ScopeStack) (i : ℕ) (w : List ℕ) → i < 4_096 → kind_at w i ≡ 15 → walk_stmt k text i (walk t w) ≡ walk t w
unfolding walk_stmt stmt_at
at_attr text zero t i w few c = refl
at_attr text (suc k) t i w few c = rw (lt-leb rows_most i few, c) refl

-- ---- a line of the loop
module _ (text : Bytes) (k : ℕ) (t : ScopeStack) (stop r : ℕ) (w : List ℕ) (l : r < stop) (e : ℕ) (after : after_row w r ≡ e) where
  -- z is what a statement leaves, with the same stack
  pub line_stmt : kind_at w r < 16 → (z : List ℕ) → walk_stmt k text r (walk t w) ≡ walk t z → kids text k t stop r w ≡ kids text k t stop e z
  line_stmt c z g =
      rows_more next_line (walk_line k text) (λ v i. omega arith) r stop (walk t w) l
      ∙ ap₂ (λ i (x : Walk). rows_to next_line (walk_line k text) i stop x) after
      (ap (λ b. cond b (walk_stmt k text r (walk t w)) (walk t (walk_expr k text false (top_of t) r w))) (lt-ltb (kind_at w r) 16 c) ∙ g)

  pub line_expr : ltb (kind_at w r) 16 ≡ false → kids text k t stop r w ≡ kids text k t stop e (walk_expr k text false (top_of t) r w)
  line_expr c =
      rows_more next_line (walk_line k text) (λ v i. omega arith) r stop (walk t w) l
      ∙ ap₂ (λ i (x : Walk). rows_to next_line (walk_line k text) i stop x) after
      (ap (λ b. cond b (walk_stmt k text r (walk t w)) (walk t (walk_expr k text false (top_of t) r w))) c)
