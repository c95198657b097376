-- Each reader returns something `Fine`: what it read takes so many lines, goes no deeper than the levels left, and each of its lines fits.
-- By induction over the levels left and the counts; what was read is put together by `nothing`, `both` and `under`.
use Rattle.std.proofs.Common.{ℕ, zero, suc, ◌+◌, ◌*◌, ◌≤◌, max, arith, ◌≡◌, [], ◌∷◌, length}
use Rattle.std.proofs.Math.Option.{Option}
use Rattle.spec_text.specs.Bytes.{Bytes}
use Rattle.spec_text.specs.Tree.{snil, Expr, Exprs, Attrs, Stmt, Stmts, Methods, len_e, len_es, len_as, len_s, len_ss, len_ms}
use Rattle.spec_text.specs.Lines.{StmtForm, ExprForm, Form, count_at, as_stmt, as_expr, as_sort}
use Rattle.spec_text.specs.Reading.{stmt_children, expr_children, Rest, Read, Due, exprs, attrs, stmts, methods, expr, stmt, elif, methods_at, attrs_at, globals}
use Rattle.spec_text.proofs.Lists.{All, all_nil, all_cons}
use Rattle.spec_text.proofs.LineParts.{IsNameOf, LineIn, global_name}
use Rattle.spec_text.proofs.Shape.{depth_e, depth_es, depth_as, depth_s, depth_ss, depth_ms, EachE, EachEs, EachAs, EachS, EachSs, EachMs}
use Rattle.spec_text.proofs.Fine.{Fine, fine_got, fine_then, Good, Headed, line_then, line_fine, too_deep_lem}

-- so many lines were read, so deep, and what holds of them
pub record Taken (text : Bytes) (n : ℕ) (r : Rest) (lines depth : ℕ) (Holds : Type 0) (left : Rest) : Type 0 where
  pub good : Good text left
  pub number : left.number ≡ r.number + lines
  pub deep : depth ≤ n
  pub holds : Holds

abbrev method : Form → Option Form
method = as_sort Form.method

abbrev attr : Form → Option Form
attr = as_sort Form.attr

module _ (text : Bytes) where
  line_in_lem : {A : Type 0} {due : Form → Option A} {m n : ℕ} {r left : Rest} {d : Due A} → Headed text due m n r d left → LineIn text d.parsed.line
  line_in_lem h = (h.fits.word, h.fits.fits)

  nothing : {n : ℕ} {r : Rest} → Good text r → Taken text n r 0 0 Unit r
  nothing g = record { good = g; number = omega arith; deep = omega arith; holds = tt }

  -- one after the other
  both : {n i j k l : ℕ} {r mid left : Rest} {P Q : Type 0} → Taken text n r i k P mid → Taken text n mid j l Q left → Taken text n r (i + j) (max k l) (P × Q) left
  both a b = record { good = b.good; number = omega arith; deep = omega arith; holds = (a.holds, b.holds) }

  -- below a line
  under : {A : Type 0} {due : Form → Option A} {m n i k : ℕ} {r mid left : Rest} {d : Due A} {P : Type 0} → Headed text due m n r d mid → Taken text m mid i k P left
      → Taken text n r (suc i) (suc k) (LineIn text d.parsed.line × P) left
  under h a = record { good = a.good; number = omega arith; deep = omega arith; holds = (line_in_lem h, a.holds) }

  -- counted otherwise
  recount : {n i j k : ℕ} {r left : Rest} {P : Type 0} → i ≡ j → Taken text n r i k P left → Taken text n r j k P left
  recount e a = record { good = a.good; number = omega arith; deep = a.deep; holds = a.holds }

  abbrev OfE : ℕ → Rest → Expr → Rest → Type 0
  OfE n r e left = Taken text n r (len_e e) (depth_e e) (EachE (LineIn text) e) left

  abbrev OfEs : ℕ → Rest → Exprs → Rest → Type 0
  OfEs n r es left = Taken text n r (len_es es) (depth_es es) (EachEs (LineIn text) es) left

  abbrev OfAs : ℕ → Rest → Attrs → Rest → Type 0
  OfAs n r ats left = Taken text n r (len_as ats) (depth_as ats) (EachAs (LineIn text) ats) left

  abbrev OfS : ℕ → Rest → Stmt → Rest → Type 0
  OfS n r s left = Taken text n r (len_s s) (depth_s s) (EachS (LineIn text) s) left

  abbrev OfSs : ℕ → Rest → Stmts → Rest → Type 0
  OfSs n r ss left = Taken text n r (len_ss ss) (depth_ss ss) (EachSs (LineIn text) ss) left

  abbrev OfMs : ℕ → Rest → Methods → Rest → Type 0
  OfMs n r ms left = Taken text n r (len_ms ms) (depth_ms ms) (EachMs (LineIn text) ms) left

  -- a reader that is fine wherever what is left is good
  abbrev Reads : {A : Type 0} → (Rest → A → Rest → Type 0) → (Rest → Read A) → Type 0
  Reads P read = (r : Rest) → Good text r → Fine (P r) (read r)

  -- ---- children
  exprs_fine : {n : ℕ} {one : Rest → Read Expr} → Reads (OfE n) one → (k : ℕ) → Reads (OfEs n) (exprs one k)
  exprs_fine h zero r g = fine_got (nothing g)
  exprs_fine h (suc k) r g = fine_then (h r g) (λ e r a. fine_then (exprs_fine h k r a.good) (λ es r b. fine_got (both a b)))

  pub stmts_fine : {n : ℕ} {one : Rest → Read Stmt} → Reads (OfS n) one → (k : ℕ) → Reads (OfSs n) (stmts one k)
  stmts_fine h zero r g = fine_got (nothing g)
  stmts_fine h (suc k) r g = fine_then (h r g) (λ s r a. fine_then (stmts_fine h k r a.good) (λ ss r b. fine_got (both a b)))

  attrs_fine : {due : Form → Option Form} {m n : ℕ} {one : Rest → Read (Due Form)} {value : Rest → Read Expr} → Reads (Headed text due m n) one → Reads (OfE m) value → (k : ℕ)
      → Reads (OfAs n) (attrs one value k)
  attrs_fine h v zero r g = fine_got (nothing g)
  attrs_fine h v (suc k) r g =
      fine_then (h r g) (λ d r a. fine_then (v r a.good) (λ e r b. fine_then (attrs_fine h v k r b.good) (λ ats r c. fine_got (recount (omega arith) (both (under a b) c)))))

  methods_fine : {due : Form → Option Form} {m n : ℕ} {one : Rest → Read (Due Form)} {body : ℕ → Rest → Read Stmts}
      → Reads (Headed text due m n) one → ((k : ℕ) → Reads (OfSs m) (body k)) → (k : ℕ) → Reads (OfMs n) (methods one body k)
  methods_fine h v zero r g = fine_got (nothing g)
  methods_fine h v (suc k) r g =
      fine_then (h r g) (λ d r a. fine_then (v (count_at 0 d.parsed) r a.good) (λ b r c.
      fine_then (methods_fine h v k r c.good) (λ ms r f. fine_got (recount (omega arith) (both (under a c) f)))))

  -- ---- expressions
  expr_fine : (n : ℕ) → Reads (OfE n) (expr n)
  expr_fine zero r g = too_deep_lem text as_expr r g
  expr_fine (suc n) r g =
      line_then text as_expr n r g _ (λ i p s h. elim i as (λ k. Fine (OfE (suc n) r) (expr_children (expr n) k p s)) [
        | ExprForm.fixed k ↦ fine_then (exprs_fine (expr_fine n) k s h.good) (λ es r a. fine_got (under h a))
        | ExprForm.counted k ↦ fine_then (exprs_fine (expr_fine n) (k * count_at 0 p) s h.good) (λ es r a. fine_got (under h a))
        | ExprForm.access k ↦ fine_then (exprs_fine (expr_fine n) k s h.good) (λ es r a. fine_got (under h a))
        | ExprForm.var ↦ fine_got (record { good = h.good; number = omega arith; deep = omega arith; holds = line_in_lem h })
        | ExprForm.tuple ↦ fine_then (exprs_fine (expr_fine n) (count_at 0 p) s h.good) (λ es r a. fine_got (under h a))
        | ExprForm.call ↦
            fine_then (expr_fine n s h.good) (λ f r a. fine_then (exprs_fine (expr_fine n) (count_at 0 p) r a.good) (λ es r b. fine_got (under h (both a b))))
        | ExprForm.lambda ↦ fine_then (expr_fine n s h.good) (λ e r a. fine_got (under h a))
      ])

  -- ---- statements
  mutual
    pub stmt_fine : (n : ℕ) → Reads (OfS n) (stmt n)
    stmt_fine zero r g = too_deep_lem text as_stmt r g
    stmt_fine (suc n) r g =
        line_then text as_stmt n r g _ (λ i p s h. elim i as (λ k. Fine (OfS (suc n) r) (stmt_children (expr n) (stmt n) (elif n) (methods_at n) (attrs_at n) k p s)) [
          | StmtForm.plain k ↦ fine_then (exprs_fine (expr_fine n) k s h.good) (λ es r a. fine_got (under h a))
          | StmtForm.assign ↦ fine_then (expr_fine n s h.good) (λ e r a. fine_then (expr_fine n r a.good) (λ t r c. fine_got (under h (both a c))))
          | StmtForm.while ↦
              fine_then (expr_fine n s h.good) (λ e r a. fine_then (stmts_fine (λ r g. stmt_fine n r g) (count_at 0 p) r a.good) (λ ss r c. fine_got (under h (both a c))))
          | StmtForm.if ↦
              fine_then (expr_fine n s h.good) (λ c r a.
              fine_then (stmts_fine (λ r g. stmt_fine n r g) (count_at 0 p) r a.good) (λ t r d.
              fine_then (stmts_fine (λ r g. elif_fine n r g) (count_at 1 p) r d.good) (λ l r f.
              fine_then (stmts_fine (λ r g. stmt_fine n r g) (count_at 2 p) r f.good) (λ e r k. fine_got (under h (both a (both d (both f k))))))))
          | StmtForm.for ↦
              fine_then (expr_fine n s h.good) (λ e r a. fine_then (stmts_fine (λ r g. stmt_fine n r g) (count_at 0 p) r a.good) (λ ss r c. fine_got (under h (both a c))))
          | StmtForm.def ↦ fine_then (stmts_fine (λ r g. stmt_fine n r g) (count_at 0 p) s h.good) (λ ss r a. fine_got (under h a))
          | StmtForm.class ↦
              fine_then (methods_at_fine n (count_at 0 p) s h.good) (λ ms r a. fine_then (attrs_at_fine n (count_at 1 p) r a.good) (λ ats r c. fine_got (under h (both a c))))
        ])

    elif_fine : (n : ℕ) → Reads (OfS n) (elif n)
    elif_fine zero r g = too_deep_lem text (as_sort Form.elif) r g
    elif_fine (suc n) r g =
        line_then text (as_sort Form.elif) n r g _ (λ i p r h.
        fine_then (expr_fine n r h.good) (λ c r a. fine_then (stmts_fine (λ r g. stmt_fine n r g) (count_at 0 p) r a.good) (λ t r d. fine_got (under h (both a d)))))

    methods_at_fine : (n k : ℕ) → Reads (OfMs n) (methods_at n k)
    methods_at_fine zero k r g = methods_fine {due = method} {m = 0} (λ r g. too_deep_lem text method r g) (λ k r g. fine_got {a = snil} (nothing g)) k r g
    methods_at_fine (suc n) k r g = methods_fine (line_fine text method n) (stmts_fine (λ r g. stmt_fine n r g)) k r g

    attrs_at_fine : (n k : ℕ) → Reads (OfAs n) (attrs_at n k)
    attrs_at_fine zero k r g = attrs_fine {due = attr} {m = 0} (λ r g. too_deep_lem text attr r g) (expr_fine 0) k r g
    attrs_at_fine (suc n) k r g = attrs_fine (line_fine text attr n) (expr_fine n) k r g

  -- ---- `global` lines: they stand at depth 1
  pub globals_fine : (k : ℕ) → Reads (λ r gs left. Taken text 1 r (length gs) 1 (All (IsNameOf text) gs) left) (globals k)
  globals_fine zero r g = fine_got {a = []} (record { good = g; number = omega arith; deep = omega arith; holds = all_nil })
  globals_fine (suc k) r g =
      line_then text (as_sort Form.global) 0 r g _ (λ i p r h. fine_then (globals_fine k r h.good) (λ gs r a.
      fine_got {a = p.line.name ∷ gs} (record { good = a.good; number = omega arith; deep = a.deep; holds = all_cons (global_name text p i h.fits h.is_due) a.holds })))
