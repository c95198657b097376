-- Reading: which tree a text holds, or how it is refused (refusals 1 to 7, in the order of FORMAT.md).
use Rattle.std.specs.Prelude.{ℕ, zero, suc, ◌*◌, Bool, true, false, cond, ◌&&◌, List, [], ◌∷◌, leb, ltb, length}
use Rattle.std.proofs.Math.Option.{Option, none, some}
use Rattle.spec_text.specs.Bytes.{Bytes, Part}
use Rattle.spec_text.specs.Tree.{Expr, Exprs, Attrs, Stmt, Stmts, Methods, Tree, var, node, access, tuple, call, lambda, enil, econs, anil, acons, simple, assign, block, choice, for, def, class, snil, scons, mnil, mcons}
use Rattle.spec_text.specs.Lines.{StmtForm, ExprForm, Form, Cut, cut, Parsed, parse, count_at, as_stmt, as_expr, as_sort}

-- ---- limits
-- "65,536 bytes, 4,096 lines after the first, depth 64, 16 parameters; a work buffer of 16,384 numbers"
abbrev pub longest_text : ℕ
longest_text = 65_536

abbrev pub most_lines : ℕ
most_lines = 4_096

abbrev pub deepest : ℕ
deepest = 64

abbrev pub shortest_work : ℕ
shortest_work = 16_384

abbrev pub most_params : ℕ
most_params = 16

-- ---- what is left to read: the bytes, the offset of the first, and the number of the next line
pub record Rest : Type 0 where
  pub bytes : Bytes
  pub offset : ℕ
  pub number : ℕ

-- something read, with what is left; or a refusal: its number, and a line number
pub data Read (A : Type 0) : Type 0 where
  got : A → Rest → Read A
  refused : ℕ → ℕ → Read A

abbrev pub and_then : {A B : Type 0} → Read A → (A → Rest → Read B) → Read B
and_then (got a r) f = f a r
and_then (refused k n) f = refused k n

-- ---- one line
pub record Due (A : Type 0) : Type 0 where
  pub is : A
  pub parsed : Parsed

abbrev pub within_limits : ℕ → Parsed → Bool
within_limits n p = leb n (suc most_lines) && leb (length p.line.params) most_params

-- 7, "over 4,096 lines, depth 64 or 16 names"
abbrev pub limited : {A : Type 0} → ℕ → Cut → Parsed → A → Read (Due A)
limited n c p a =
    cond (within_limits n p) (got (record { is = a; parsed = p }) (record { bytes = c.rest; offset = c.next; number = suc n })) (refused 7 n)

-- 6, "well-formed, not due here"
abbrev pub due_here : {A : Type 0} → (Form → Option A) → ℕ → Cut → Parsed → Read (Due A)
due_here due n c p = elim (due p.form) [ some a ↦ limited n c p a | none ↦ refused 6 n ]

-- 5, "unknown word, wrong fields, bad name or number, no LF"
abbrev pub formed : {A : Type 0} → (Form → Option A) → ℕ → Cut → Read (Due A)
formed due n c =
    elim c.ended [ true ↦ elim (parse c.fields) [ some p ↦ due_here due n c p | none ↦ refused 5 n ] | false ↦ refused 5 n ]

-- "at each line 3 to 7". 3, "text ends, a line is due"
abbrev pub line : {A : Type 0} → (Form → Option A) → Rest → Read (Due A)
line due r = elim r.bytes [ [] ↦ refused 3 r.number | b ∷ bs ↦ formed due r.number (cut r.offset r.bytes) ]

-- a line at depth 65: refused as 7 where it is not refused before
abbrev pub too_deep : {A B : Type 0} → ℕ → Read A → Read B
too_deep n (got a r) = refused 7 n
too_deep n (refused k m) = refused k m

-- ---- children: n of them, one after the other
abbrev pub exprs : (Rest → Read Expr) → ℕ → Rest → Read Exprs
exprs one zero r = got enil r
exprs one (suc n) r = and_then (one r) (λ e r. and_then (exprs one n r) (λ es r. got (econs e es) r))

abbrev pub attrs : (Rest → Read (Due Form)) → (Rest → Read Expr) → ℕ → Rest → Read Attrs
attrs one value zero r = got anil r
attrs one value (suc n) r =
    and_then (one r) (λ d r. and_then (value r) (λ e r. and_then (attrs one value n r) (λ ats r. got (acons d.parsed.line e ats) r)))

abbrev pub stmts : (Rest → Read Stmt) → ℕ → Rest → Read Stmts
stmts one zero r = got snil r
stmts one (suc n) r = and_then (one r) (λ s r. and_then (stmts one n r) (λ ss r. got (scons s ss) r))

abbrev pub methods : (Rest → Read (Due Form)) → (ℕ → Rest → Read Stmts) → ℕ → Rest → Read Methods
methods one body zero r = got mnil r
methods one body (suc n) r =
    and_then (one r) (λ d r. and_then (body (count_at 0 d.parsed) r) (λ b r. and_then (methods one body n r) (λ ms r. got (mcons d.parsed.line b ms) r)))

-- ---- expressions; `read` reads a child
abbrev pub expr_children : (Rest → Read Expr) → ExprForm → Parsed → Rest → Read Expr
expr_children read ExprForm.var p r = got (var p.line) r
expr_children read (ExprForm.fixed k) p r = and_then (exprs read k r) (λ es r. got (node p.line es) r)
expr_children read (ExprForm.counted k) p r = and_then (exprs read (k * count_at 0 p) r) (λ es r. got (node p.line es) r)
expr_children read (ExprForm.access k) p r = and_then (exprs read k r) (λ es r. got (access p.line es) r)
expr_children read ExprForm.tuple p r = and_then (exprs read (count_at 0 p) r) (λ es r. got (tuple p.line es) r)
expr_children read ExprForm.call p r =
    and_then (read r) (λ f r. and_then (exprs read (count_at 0 p) r) (λ es r. got (call p.line f es) r))
expr_children read ExprForm.lambda p r = and_then (read r) (λ e r. got (lambda p.line e) r)

-- an expression, with so many levels left: "a child is one deeper than its parent"
abbrev pub expr : ℕ → Rest → Read Expr
expr zero r = too_deep r.number (line as_expr r)
expr (suc d) r = and_then (line as_expr r) (λ l r. expr_children (expr d) l.is l.parsed r)

-- ---- statements; `value` reads an expression below, `read` a statement, `other` an elif
abbrev pub stmt_children : (Rest → Read Expr) → (Rest → Read Stmt) → (Rest → Read Stmt) → (ℕ → Rest → Read Methods) → (ℕ → Rest → Read Attrs)
    → StmtForm → Parsed → Rest → Read Stmt
stmt_children value read other ms ats (StmtForm.plain k) p r = and_then (exprs value k r) (λ es r. got (simple p.line es) r)
stmt_children value read other ms ats StmtForm.assign p r = and_then (value r) (λ e r. and_then (value r) (λ t r. got (assign p.line e t) r))
stmt_children value read other ms ats StmtForm.while p r =
    and_then (value r) (λ c r. and_then (stmts read (count_at 0 p) r) (λ b r. got (block p.line c b) r))
stmt_children value read other ms ats StmtForm.if p r =
    and_then (value r) (λ c r. and_then (stmts read (count_at 0 p) r) (λ b r.
    and_then (stmts other (count_at 1 p) r) (λ l r. and_then (stmts read (count_at 2 p) r) (λ e r. got (choice p.line c b l e) r))))
stmt_children value read other ms ats StmtForm.for p r =
    and_then (value r) (λ e r. and_then (stmts read (count_at 0 p) r) (λ b r. got (for p.line e b) r))
stmt_children value read other ms ats StmtForm.def p r = and_then (stmts read (count_at 0 p) r) (λ b r. got (def p.line b) r)
stmt_children value read other ms ats StmtForm.class p r =
    and_then (ms (count_at 0 p) r) (λ m r. and_then (ats (count_at 1 p) r) (λ a r. got (class p.line m a) r))

abbrev pub elif_line : (Rest → Read Expr) → (Rest → Read Stmt) → Parsed → Rest → Read Stmt
elif_line value read p r = and_then (value r) (λ c r. and_then (stmts read (count_at 0 p) r) (λ b r. got (block p.line c b) r))

-- `elif`, `method` and `attr` are one deeper than their `if` or `class`, and their children one deeper again
abbrev mutual
  pub stmt : ℕ → Rest → Read Stmt
  stmt zero r = too_deep r.number (line as_stmt r)
  stmt (suc d) r =
      and_then (line as_stmt r) (λ l r. stmt_children (expr d) (λ r. stmt d r) (λ r. elif d r) (λ n r. methods_at d n r) (λ n r. attrs_at d n r) l.is l.parsed r)

  pub elif : ℕ → Rest → Read Stmt
  elif zero r = too_deep r.number (line (as_sort Form.elif) r)
  elif (suc d) r = and_then (line (as_sort Form.elif) r) (λ l r. elif_line (expr d) (λ r. stmt d r) l.parsed r)

  pub methods_at : ℕ → ℕ → Rest → Read Methods
  methods_at zero n r = methods (λ r. too_deep r.number (line (as_sort Form.method) r)) (λ n r. got snil r) n r
  methods_at (suc d) n r = methods (line (as_sort Form.method)) (stmts (λ r. stmt d r)) n r

  pub attrs_at : ℕ → ℕ → Rest → Read Attrs
  attrs_at zero n r = attrs (λ r. too_deep r.number (line (as_sort Form.attr) r)) (expr zero) n r
  attrs_at (suc d) n r = attrs (line (as_sort Form.attr)) (expr d) n r

-- ---- the whole text
abbrev pub globals : ℕ → Rest → Read (List Part)
globals zero r = got [] r
globals (suc n) r = and_then (line (as_sort Form.global) r) (λ d r. and_then (globals n r) (λ gs r. got (d.parsed.line.name ∷ gs) r))

-- a text's tree, or its refusal with a line number
pub data Reading : Type 0 where
  tree : Tree → Reading
  refusal : ℕ → ℕ → Reading

-- 4, "a line after the last due"
abbrev pub ended : Read Tree → Reading
ended (got t r) = elim r.bytes [ [] ↦ tree t | b ∷ bs ↦ refusal 4 r.number ]
ended (refused k n) = refusal k n

abbrev pub read_tree : Bytes → Reading
read_tree text =
    ended (and_then (line (as_sort Form.tree) (record { bytes = text; offset = 0; number = 1 })) (λ d r.
    and_then (globals (count_at 0 d.parsed) r) (λ gs r. and_then (stmts (stmt deepest) (count_at 1 d.parsed) r) (λ ss r. got (record { globals = gs; body = ss }) r))))

-- 1, "text over 65,536 bytes"; 2, "work buffer too short"; then the lines
abbrev pub reading : Bytes → ℕ → Reading
reading text work = elim (ltb longest_text (length text)) [ true ↦ refusal 1 0 | false ↦ elim (ltb work shortest_work) [ true ↦ refusal 2 0 | false ↦ read_tree text ] ]
