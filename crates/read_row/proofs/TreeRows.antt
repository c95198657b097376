-- A text that is a tree: its rows stand in it one after the other, and each of its lines has the word of its place.
-- By induction over the levels left and the counts, reader by reader, as the definition of reading goes; what was read is put together
-- by `nothing`, `both` and `under`.
use Rattle.std.proofs.Common.{ℕ, zero, suc, ◌*◌, ◌≤◌, arith, ◌≡◌, refl, sym, subst, ◌∙◌, Bool, true, false, List, [], ◌∷◌, ◌++◌, map, ltb, length, length-append}
use Rattle.spec_text.specs.Bytes.{Bytes}
use Rattle.spec_text.specs.Tree.{snil, Expr, Exprs, Attrs, Stmt, Stmts, Methods, Tree, block, for}
use Rattle.spec_text.specs.Lines.{StmtForm, ExprForm, Form, Parsed, count_at, as_stmt, as_expr, as_sort}
use Rattle.spec_text.specs.Reading.{longest_text, shortest_work, deepest, Rest, Read, got, and_then, Due, exprs, attrs, stmts, methods, expr_children, expr, stmt_children, stmt, elif, methods_at, attrs_at, globals, Reading, tree, refusal, ended, read_tree, reading}
use Rattle.work_rows.specs.Rows.{Row, row, rows_e, rows_es, rows_as, rows_s, rows_ss, rows_ms, global_row, rows_t}
use Rattle.read_tree.specs.Laid.{start_of}
use Rattle.work_rows.proofs.Lengths.{Sized, sized_e, sized_es, sized_as, sized_ss, sized_ms, nothing as no_lines, both as one-after}
use Rattle.read_agenda.proofs.Sorts.{expr_sorts, stmt_sorts, elif_sorts, method_sorts, attr_sorts, global_sorts, tree_sorts}
use Rattle.read_agenda.proofs.Lined.{global_line_lem}
use Rattle.read_tree.proofs.CutText.{cut_skips}
use Rattle.read_row.specs.RowModel.{line_start}
use Rattle.read_row.specs.Worded.{WordedE, WordedEs, WordedAs, WordedS, WordedSs, WordedMs}
use Rattle.read_row.proofs.FormWords.{Lined, lined}
use Rattle.read_row.proofs.Runs.{cut_at, Runs, over, on, runs_then}
use Rattle.read_row.proofs.Gives.{Gives, gives, refuses, gives_then, too_deep_lem, Here, One, one_stands, line_gives, line_then}

-- rows were read, and what holds of them
record Took (text : Bytes) (r : Rest) (rows : List Row) (Holds : Type 0) (left : Rest) : Type 0 where
  here : Here text left
  runs : Runs text r.offset rows left.offset
  holds : Holds

-- so many of the rows are there
few : {a : List Row} {n : ℕ} → Sized a n → n ≤ length a
few h = omega (arith, h.count)

few_of : {a : List Row} {n : ℕ} (b : List Row) → Sized a n → n ≤ length (a ++ b)
few_of {a} b h = omega (arith, h.count, length-append a b)

module _ (text : Bytes) where
  nothing : {r : Rest} → Here text r → Took text r [] Unit r
  nothing h = record { here = h; runs = over; holds = tt }

  -- one after the other
  both : {r mid left : Rest} {a b : List Row} {P Q : Type 0} → Took text r a P mid → Took text mid b Q left → Took text r (a ++ b) (P × Q) left
  both x y = record { here = y.here; runs = runs_then x.runs y.runs; holds = (x.holds, y.holds) }

  -- below a line
  under : {f : Form} {r mid left : Rest} {p : Parsed} {a : List Row} {n : ℕ} {P : Type 0} → One text f r.offset p mid → n ≤ length a
      → Took text mid a P left → Took text r (row p.line n ∷ a) (Lined f p.line P) left
  under {left} {a} h l x =
      record {
        here = x.here;
        runs = on (one_stands h refl) l (subst (λ (o : ℕ). Runs text o a left.offset) (sym h.next) x.runs);
        holds = lined h.fits h.form x.holds;
      }

  abbrev OfE : Rest → Expr → Rest → Type 0
  OfE r e left = Took text r (rows_e e) (WordedE e) left

  abbrev OfEs : Rest → Exprs → Rest → Type 0
  OfEs r es left = Took text r (rows_es es) (WordedEs es) left

  abbrev OfAs : Rest → Attrs → Rest → Type 0
  OfAs r ats left = Took text r (rows_as ats) (WordedAs ats) left

  abbrev OfS : Rest → Stmt → Rest → Type 0
  OfS r s left = Took text r (rows_s s) (WordedS s) left

  abbrev OfSs : Rest → Stmts → Rest → Type 0
  OfSs r ss left = Took text r (rows_ss ss) (WordedSs ss) left

  abbrev OfMs : Rest → Methods → Rest → Type 0
  OfMs r ms left = Took text r (rows_ms ms) (WordedMs ms) left

  abbrev Reads : {A : Type 0} → (Rest → A → Rest → Type 0) → (Rest → Read A) → Type 0
  Reads P read = (r : Rest) → Here text r → Gives (P r) (read r)

  -- a line of the form f
  abbrev OfLine : Form → Rest → Due Form → Rest → Type 0
  OfLine f r d left = One text f r.offset d.parsed left

  -- ---- children
  exprs_give : {one : Rest → Read Expr} → Reads OfE one → (k : ℕ) → Reads OfEs (exprs one k)
  exprs_give h zero r g = gives (nothing g)
  exprs_give h (suc k) r g = gives_then (h r g) (λ e r a. gives_then (exprs_give h k r a.here) (λ es r b. gives (both a b)))

  stmts_give : {one : Rest → Read Stmt} → Reads OfS one → (k : ℕ) → Reads OfSs (stmts one k)
  stmts_give h zero r g = gives (nothing g)
  stmts_give h (suc k) r g = gives_then (h r g) (λ s r a. gives_then (stmts_give h k r a.here) (λ ss r b. gives (both a b)))

  attrs_give : {one : Rest → Read (Due Form)} {value : Rest → Read Expr} → Reads (OfLine Form.attr) one → Reads OfE value → (k : ℕ)
      → Reads OfAs (attrs one value k)
  attrs_give h v zero r g = gives (nothing g)
  attrs_give h v (suc k) r g =
      gives_then (h r g) (λ d r a. gives_then (v r a.here) (λ e r b. gives_then (attrs_give h v k r b.here) (λ ats r c.
      gives (under a (few_of (rows_as ats) (sized_e e)) (both b c)))))

  methods_give : {one : Rest → Read (Due Form)} {body : ℕ → Rest → Read Stmts} → Reads (OfLine Form.method) one → ((k : ℕ) → Reads OfSs (body k)) → (k : ℕ)
      → Reads OfMs (methods one body k)
  methods_give h v zero r g = gives (nothing g)
  methods_give h v (suc k) r g =
      gives_then (h r g) (λ d r a. gives_then (v (count_at 0 d.parsed) r a.here) (λ b r c. gives_then (methods_give h v k r c.here) (λ ms r f.
      gives (under a (few_of (rows_ms ms) (sized_ss b)) (both c f)))))

  -- ---- expressions
  expr_children_lem : {read : Rest → Read Expr} → Reads OfE read → (i : ExprForm) (p : Parsed) {r mid : Rest} → One text (Form.expr i) r.offset p mid
      → Gives (OfE r) (expr_children read i p mid)
  expr_children_lem v ExprForm.var p {mid} h = gives (under h (few no_lines) (nothing h.here))
  expr_children_lem v (ExprForm.fixed k) p {mid} h = gives_then (exprs_give v k mid h.here) (λ es r a. gives (under h (few (sized_es es)) a))
  expr_children_lem v (ExprForm.counted k) p {mid} h =
      gives_then (exprs_give v (k * count_at 0 p) mid h.here) (λ es r a. gives (under h (few (sized_es es)) a))
  expr_children_lem v (ExprForm.access k) p {mid} h = gives_then (exprs_give v k mid h.here) (λ es r a. gives (under h (few (sized_es es)) a))
  expr_children_lem v ExprForm.tuple p {mid} h = gives_then (exprs_give v (count_at 0 p) mid h.here) (λ es r a. gives (under h (few (sized_es es)) a))
  expr_children_lem v ExprForm.call p {mid} h =
      gives_then (v mid h.here) (λ f r a. gives_then (exprs_give v (count_at 0 p) r a.here) (λ es r b.
      gives (under h (few (one-after (sized_e f) (sized_es es))) (both a b))))
  expr_children_lem v ExprForm.lambda p {mid} h = gives_then (v mid h.here) (λ e r a. gives (under h (few (sized_e e)) a))

  expr_gives : (d : ℕ) → Reads OfE (expr d)
  expr_gives zero r g = too_deep_lem as_expr r
  expr_gives (suc d) r g = line_then text 6 expr_sorts r g _ (λ i p left h. expr_children_lem (expr_gives d) i p h)

  -- ---- statements
  -- an expression, and then statements
  value_then : {value : Rest → Read Expr} {read : Rest → Read Stmt} → Reads OfE value → Reads OfS read → (k : ℕ) (f : Expr → Stmts → Stmt) {Q : Stmt → Rest → Type 0} (r : Rest)
      → Here text r → ((c : Expr) (b : Stmts) (left : Rest) → Took text r (rows_e c ++ rows_ss b) (WordedE c × WordedSs b) left → Q (f c b) left)
      → Gives Q (and_then (value r) (λ c r. and_then (stmts read k r) (λ b r. got (f c b) r)))
  value_then v s k f r g h =
      gives_then (v r g) (λ c r a. gives_then (stmts_give s k r a.here) (λ b r t. gives (h c b r (both a t))))

  stmt_children_lem : {value : Rest → Read Expr} {read other : Rest → Read Stmt} {ms : ℕ → Rest → Read Methods} {ats : ℕ → Rest → Read Attrs}
      → Reads OfE value → Reads OfS read → Reads OfS other → ((k : ℕ) → Reads OfMs (ms k)) → ((k : ℕ) → Reads OfAs (ats k))
      → (i : StmtForm) (p : Parsed) {r mid : Rest} → One text (Form.stmt i) r.offset p mid → Gives (OfS r) (stmt_children value read other ms ats i p mid)
  stmt_children_lem v s o m a (StmtForm.plain k) p {mid} h = gives_then (exprs_give v k mid h.here) (λ es r x. gives (under h (few (sized_es es)) x))
  stmt_children_lem v s o m a StmtForm.assign p {mid} h =
      gives_then (v mid h.here) (λ e r x. gives_then (v r x.here) (λ t r y. gives (under h (few (one-after (sized_e e) (sized_e t))) (both x y))))
  stmt_children_lem v s o m a StmtForm.while p {mid} h =
      value_then v s (count_at 0 p) (block p.line) mid h.here (λ c b left x. under h (few (one-after (sized_e c) (sized_ss b))) x)
  stmt_children_lem v s o m a StmtForm.if p {mid} h =
      gives_then (v mid h.here) (λ c r x.
      gives_then (stmts_give s (count_at 0 p) r x.here) (λ b r y.
      gives_then (stmts_give o (count_at 1 p) r y.here) (λ k r z.
      gives_then (stmts_give s (count_at 2 p) r z.here) (λ e r u.
      gives (under h (few (one-after (sized_e c) (one-after (sized_ss b) (one-after (sized_ss k) (sized_ss e))))) (both x (both y (both z u))))))))
  stmt_children_lem v s o m a StmtForm.for p {mid} h =
      value_then v s (count_at 0 p) (for p.line) mid h.here (λ c b left x. under h (few (one-after (sized_e c) (sized_ss b))) x)
  stmt_children_lem v s o m a StmtForm.def p {mid} h = gives_then (stmts_give s (count_at 0 p) mid h.here) (λ b r x. gives (under h (few (sized_ss b)) x))
  stmt_children_lem v s o m a StmtForm.class p {mid} h =
      gives_then (m (count_at 0 p) mid h.here) (λ ms r x. gives_then (a (count_at 1 p) r x.here) (λ ats r y.
      gives (under h (few (one-after (sized_ms ms) (sized_as ats))) (both x y))))

  mutual
    stmt_gives : (d : ℕ) → Reads OfS (stmt d)
    stmt_gives zero r g = too_deep_lem as_stmt r
    stmt_gives (suc d) r g =
        line_then text 5 stmt_sorts r g _ (λ i p left h.
        stmt_children_lem (expr_gives d) (λ r g. stmt_gives d r g) (λ r g. elif_gives d r g) (λ k r g. methods_at_give d k r g) (λ k r g. attrs_at_give d k r g) i p h)

    elif_gives : (d : ℕ) → Reads OfS (elif d)
    elif_gives zero r g = too_deep_lem (as_sort Form.elif) r
    elif_gives (suc d) r g =
        line_then text 2 elif_sorts r g _ (λ i p left h.
        value_then (expr_gives d) (λ r g. stmt_gives d r g) (count_at 0 p) (block p.line) left h.here (λ c b left x.
        under h (few (one-after (sized_e c) (sized_ss b))) x))

    methods_at_give : (d k : ℕ) → Reads OfMs (methods_at d k)
    methods_at_give zero k r g = methods_give (λ r g. too_deep_lem (as_sort Form.method) r) (λ k r g. gives {a = snil} (nothing g)) k r g
    methods_at_give (suc d) k r g = methods_give (line_gives text 3 method_sorts) (stmts_give (λ r g. stmt_gives d r g)) k r g

    attrs_at_give : (d k : ℕ) → Reads OfAs (attrs_at d k)
    attrs_at_give zero k r g = attrs_give (λ r g. too_deep_lem (as_sort Form.attr) r) (expr_gives 0) k r g
    attrs_at_give (suc d) k r g = attrs_give (line_gives text 4 attr_sorts) (expr_gives d) k r g

  -- ---- `global` lines
  globals_give : (k : ℕ) → Reads (λ r gs left. Took text r (map global_row gs) Unit left) (globals k)
  globals_give zero r g = gives {a = []} (nothing g)
  globals_give (suc k) r g =
      line_then text 1 global_sorts r g _ (λ i p mid h. gives_then (globals_give k mid h.here) (λ gs left x.
      gives {a = p.line.name ∷ gs} (record {
        here = x.here;
        runs =
            on {x = global_row p.line.name} (one_stands h (global_line_lem (cut_at text r.offset).fields h.is h.form)) (omega arith)
            (subst (λ (o : ℕ). Runs text o (map global_row gs) left.offset) (sym h.next) x.runs);
        holds = tt;
      })))

-- ---- the whole text
pub record Whole (text : Bytes) (t : Tree) : Type 0 where
  pub to : ℕ
  pub runs : Runs text (start_of text 0) (rows_t t) to
  pub worded : WordedSs t.body

abbrev IfTree : Bytes → Reading → Type 0
IfTree text (tree t) = Whole text t
IfTree text (refusal k n) = Unit

ended_whole : (text : Bytes) {x : Read Tree} → Gives (λ t left. Whole text t) x → IfTree text (ended x)
ended_whole text (gives {a} {r} p) = go r.bytes
  where
    go : (bs : Bytes) → IfTree text (elim bs [ [] ↦ tree a | b ∷ bs ↦ refusal 4 r.number ])
    go [] = p
    go (b ∷ bs) = tt
ended_whole text refuses = tt

tree_whole : (text : Bytes) → IfTree text (read_tree text)
unfolding line_start
tree_whole text =
    let g : Here text (record { bytes = text; offset = 0; number = 1 }) = record { is = refl; within = omega arith; start = refl } in
    ended_whole text (line_then text 0 tree_sorts (record { bytes = text; offset = 0; number = 1 }) g _ (λ i p r h.
    gives_then (globals_give text (count_at 0 p) r h.here) (λ gs mid a.
    gives_then (stmts_give text (stmt_gives text deepest) (count_at 1 p) mid a.here) (λ ss left b.
    gives (record {
      to = left.offset;
      runs =
          subst (λ (o : ℕ). Runs text o (map global_row gs ++ rows_ss ss) left.offset) (sym (cut_skips 0 text ∙ h.next))
          (runs_then a.runs b.runs);
      worded = b.holds;
    })))))

reading_whole : (text : Bytes) (work : ℕ) → IfTree text (reading text work)
reading_whole text work = go (ltb longest_text (length text)) (ltb work shortest_work)
  where
    go : (a b : Bool) → IfTree text (elim a [ true ↦ refusal 1 0 | false ↦ elim b [ true ↦ refusal 2 0 | false ↦ read_tree text ] ])
    go true b = tt
    go false true = tt
    go false false = tree_whole text

pub whole : (text : Bytes) (work : ℕ) (t : Tree) → reading text work ≡ tree t → Whole text t
whole text work t e = subst (IfTree text) e (reading_whole text work)
