-- What is due on the agenda is what a reader reads: turns take it from the agenda, and write the rows of what is read after those before.
-- By induction over the levels left and the counts, reader by reader, as the definition of reading goes.
use Rattle.std.proofs.Common.{ℕ, zero, suc, ◌*◌, refl, sym, ap, ◌∙◌, List, [], ◌∷◌, ◌++◌, map, append_assoc, append-nil, length, get_or}
use Rattle.spec_text.specs.Tree.{Line, Expr, Stmt, Stmts, len_e, len_ss}
use Rattle.spec_text.specs.Lines.{StmtForm, ExprForm, Form, as_sort}
use Rattle.spec_text.specs.Reading.{Rest, Read, line, exprs, attrs, stmts, methods, expr_children, expr, stmt_children, elif_line, stmt, elif, methods_at, attrs_at, globals}
use Rattle.work_rows.specs.Rows.{Row, row, rows_e, rows_es, rows_as, rows_s, rows_ss, rows_ms, global_row}
use Rattle.read_words.specs.ChildrenModel.{children_in}
use Rattle.read_agenda.specs.AgendaModel.{Entry, run, close, due, due_below}
use Rattle.work_rows.proofs.Lengths.{nothing, both, sized_e, sized_es, sized_as, sized_ss, sized_ms}
use Rattle.read_agenda.proofs.Via.{at, via_same, via_close, Goes, goes_on, goes_from, goes_then, goes_refused, refuses_then}
use Rattle.read_agenda.proofs.Sorts.{expr_sorts, stmt_sorts, elif_sorts, method_sorts, attr_sorts, global_sorts}
use Rattle.read_agenda.proofs.Lined.{parsed_as, line_then, too_deep_lem}

-- ---- children
-- the next of the lines of sort s that are due, with d levels left; and all of them
abbrev One : ℕ → ℕ → {A : Type 0} → (A → List Row) → (Rest → Read A) → Type 0
One s d rows_of one =
    (n : ℕ) (more : List Entry) (rows : List Row) (r : Rest) → Goes (at (run s (suc n) d ∷ more) r rows) (λ a left. at (due s n d more) left (rows ++ rows_of a)) (one r)

abbrev pub Many : ℕ → ℕ → {A : Type 0} → (A → List Row) → (ℕ → Rest → Read A) → Type 0
Many s d rows_of many =
    (n : ℕ) (more : List Entry) (rows : List Row) (r : Rest) → Goes (at (due s n d more) r rows) (λ a left. at more left (rows ++ rows_of a)) (many n r)

exprs_go : {d : ℕ} {one : Rest → Read Expr} → One 6 d rows_e one → Many 6 d rows_es (exprs one)
exprs_go h zero more rows r = goes_on (via_same (sym (append-nil rows)))
exprs_go h (suc n) more rows r =
    goes_then (h n more rows r) (λ e r. goes_then (exprs_go h n more (rows ++ rows_e e) r) (λ es r. goes_on (via_same (append_assoc rows (rows_e e) (rows_es es)))))

pub stmts_go : {s d : ℕ} {one : Rest → Read Stmt} → One s d rows_s one → Many s d rows_ss (stmts one)
stmts_go h zero more rows r = goes_on (via_same (sym (append-nil rows)))
stmts_go h (suc n) more rows r =
    goes_then (h n more rows r) (λ s r. goes_then (stmts_go h n more (rows ++ rows_s s) r) (λ ss r. goes_on (via_same (append_assoc rows (rows_s s) (rows_ss ss)))))

-- ---- expressions
expr_go : (d : ℕ) → One 6 d rows_e (expr d)
expr_go zero n more rows r = goes_refused (too_deep_lem 6 expr_sorts n more rows r)
expr_go (suc d) n more rows r =
    line_then 6 expr_sorts n more rows r d _ (λ i l counts r t. elim i as (λ k.
    Goes (at (due_below (children_in (parsed_as (Form.expr k) l counts)) d (close (length rows) ∷ due 6 n (suc d) more)) r (rows ++ (row l 0 ∷ [])))
    (λ e left. at (due 6 n (suc d) more) left (rows ++ rows_e e))
    (expr_children (expr d) k (parsed_as (Form.expr k) l counts) r)) [
      | ExprForm.fixed k ↦ goes_then (exprs_go (expr_go d) k _ _ r) (λ es r. goes_on (via_close rows l (sized_es es) refl))
      | ExprForm.counted k ↦ goes_then (exprs_go (expr_go d) (k * get_or counts 0 0) _ _ r) (λ es r. goes_on (via_close rows l (sized_es es) refl))
      | ExprForm.access k ↦ goes_then (exprs_go (expr_go d) k _ _ r) (λ es r. goes_on (via_close rows l (sized_es es) refl))
      | ExprForm.var ↦ goes_on (via_close rows l nothing (sym (append-nil _)))
      | ExprForm.tuple ↦ goes_then (exprs_go (expr_go d) (get_or counts 0 0) _ _ r) (λ es r. goes_on (via_close rows l (sized_es es) refl))
      | ExprForm.call ↦
          goes_then (expr_go d (get_or counts 0 0) _ _ r) (λ f r. goes_then (exprs_go (expr_go d) (get_or counts 0 0) _ _ r) (λ es r.
          goes_on (via_close rows l (both (sized_e f) (sized_es es)) (simp append_assoc))))
      | ExprForm.lambda ↦ goes_then (expr_go d 0 _ _ r) (λ e r. goes_on (via_close rows l (sized_e e) refl))
    ])

-- ---- `method` and `attr` lines, with their children
methods_go : {d : ℕ} {body : ℕ → Rest → Read Stmts} → Many 5 d rows_ss body → Many 3 (suc d) rows_ms (methods (line (as_sort Form.method)) body)
methods_go h zero more rows r = goes_on (via_same (sym (append-nil rows)))
methods_go {d} h (suc n) more rows r =
    line_then 3 method_sorts n more rows r d _ (λ i l counts r t.
    goes_then (h (get_or counts 0 0) _ _ r) (λ b r. goes_from (via_close rows l (sized_ss b) refl) (goes_then (methods_go h n more _ r) (λ ms r.
    goes_on (via_same (append_assoc rows (row l (len_ss b) ∷ rows_ss b) (rows_ms ms)))))))

attrs_go : {d : ℕ} {value : Rest → Read Expr} → One 6 d rows_e value → Many 4 (suc d) rows_as (attrs (line (as_sort Form.attr)) value)
attrs_go h zero more rows r = goes_on (via_same (sym (append-nil rows)))
attrs_go {d} h (suc n) more rows r =
    line_then 4 attr_sorts n more rows r d _ (λ i l counts r t.
    goes_then (h 0 _ _ r) (λ e r. goes_from (via_close rows l (sized_e e) refl) (goes_then (attrs_go h n more _ r) (λ ats r.
    goes_on (via_same (append_assoc rows (row l (len_e e) ∷ rows_e e) (rows_as ats)))))))

-- ---- statements
-- a condition and statements: `while`, `elif`
block_go : (d : ℕ) (one : Rest → Read Stmt) → Many 5 d rows_ss (stmts one) → {more : List Entry} (rows : List Row) (l : Line) (counts : List ℕ) (r : Rest)
    → Goes (at (run 6 1 d ∷ due 5 (get_or counts 0 0) d (close (length rows) ∷ more)) r (rows ++ (row l 0 ∷ []))) (λ s left. at more left (rows ++ rows_s s))
    (elif_line (expr d) one (parsed_as Form.elif l counts) r)
block_go d one h rows l counts r =
    goes_then (expr_go d 0 _ _ r) (λ c r. goes_then (h (get_or counts 0 0) _ _ r) (λ b r.
    goes_on (via_close rows l (both (sized_e c) (sized_ss b)) (simp append_assoc))))

mutual
  pub stmt_go : (d : ℕ) → One 5 d rows_s (stmt d)
  stmt_go zero n more rows r = goes_refused (too_deep_lem 5 stmt_sorts n more rows r)
  stmt_go (suc d) n more rows r =
      let body : Many 5 d rows_ss (stmts (stmt d)) = stmts_go (λ n more rows r. stmt_go d n more rows r) in
      line_then 5 stmt_sorts n more rows r d _ (λ i l counts r t. elim i as (λ k.
      Goes (at (due_below (children_in (parsed_as (Form.stmt k) l counts)) d (close (length rows) ∷ due 5 n (suc d) more)) r (rows ++ (row l 0 ∷ [])))
      (λ s left. at (due 5 n (suc d) more) left (rows ++ rows_s s))
      (stmt_children (expr d) (stmt d) (elif d) (methods_at d) (attrs_at d) k (parsed_as (Form.stmt k) l counts) r)) [
        | StmtForm.plain k ↦ goes_then (exprs_go (expr_go d) k _ _ r) (λ es r. goes_on (via_close rows l (sized_es es) refl))
        | StmtForm.assign ↦
            goes_then (expr_go d 1 _ _ r) (λ e r. goes_then (expr_go d 0 _ _ r) (λ t r. goes_on (via_close rows l (both (sized_e e) (sized_e t)) (simp append_assoc))))
        | StmtForm.while ↦ block_go d (stmt d) body rows l counts r
        | StmtForm.if ↦
            goes_then (expr_go d 0 _ _ r) (λ c r.
            goes_then (body (get_or counts 0 0) _ _ r) (λ b r.
            goes_then (stmts_go (λ n more rows r. elif_go d n more rows r) (get_or counts 1 0) _ _ r) (λ k r.
            goes_then (body (get_or counts 2 0) _ _ r) (λ e r.
            goes_on (via_close rows l (both (sized_e c) (both (sized_ss b) (both (sized_ss k) (sized_ss e)))) (simp append_assoc))))))
        | StmtForm.for ↦
            goes_then (expr_go d 0 _ _ r) (λ c r. goes_then (body (get_or counts 0 0) _ _ r) (λ b r.
            goes_on (via_close rows l (both (sized_e c) (sized_ss b)) (simp append_assoc))))
        | StmtForm.def ↦
            goes_then (body (get_or counts 0 0) _ _ r) (λ b r. goes_on (via_close rows l (sized_ss b) refl))
        | StmtForm.class ↦
            goes_then (methods_at_go d (get_or counts 0 0) _ _ r) (λ ms r. goes_then (attrs_at_go d (get_or counts 1 0) _ _ r) (λ ats r.
            goes_on (via_close rows l (both (sized_ms ms) (sized_as ats)) (simp append_assoc))))
      ])

  elif_go : (d : ℕ) → One 2 d rows_s (elif d)
  elif_go zero n more rows r = goes_refused (too_deep_lem 2 elif_sorts n more rows r)
  elif_go (suc d) n more rows r =
      line_then 2 elif_sorts n more rows r d _ (λ i l counts r t. block_go d (stmt d) (stmts_go (λ n more rows r. stmt_go d n more rows r)) rows l counts r)

  methods_at_go : (d : ℕ) → Many 3 d rows_ms (methods_at d)
  methods_at_go zero zero more rows r = goes_on (via_same (sym (append-nil rows)))
  methods_at_go zero (suc n) more rows r = goes_refused (refuses_then _ (too_deep_lem 3 method_sorts n more rows r))
  methods_at_go (suc d) n more rows r = methods_go (stmts_go (λ n more rows r. stmt_go d n more rows r)) n more rows r

  attrs_at_go : (d : ℕ) → Many 4 d rows_as (attrs_at d)
  attrs_at_go zero zero more rows r = goes_on (via_same (sym (append-nil rows)))
  attrs_at_go zero (suc n) more rows r = goes_refused (refuses_then _ (too_deep_lem 4 attr_sorts n more rows r))
  attrs_at_go (suc d) n more rows r = attrs_go (expr_go d) n more rows r

-- ---- `global` lines: their rows are known from their names
pub globals_go : (d : ℕ) → Many 1 (suc d) (map global_row) globals
globals_go d zero more rows r = goes_on (via_same (sym (append-nil rows)))
globals_go d (suc n) more rows r =
    line_then 1 global_sorts n more rows r d _ (λ i l counts r t.
    goes_from (via_close rows l nothing (sym (append-nil _))) (goes_then (globals_go d n more _ r) (λ gs r.
    goes_on (via_same (append_assoc rows (row l 0 ∷ []) (map global_row gs) ∙ ap (λ (k : Line). rows ++ (row k 0 ∷ map global_row gs)) (t refl))))))
