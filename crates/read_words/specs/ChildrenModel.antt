-- The lines due below a line: how many of each sort, in the order in which they are due.
use Rattle.std.specs.Prelude.{ℕ, suc, ◌+◌, ◌*◌, ◌≤◌, get_or}
use Rattle.spec_text.specs.Lines.{StmtForm, ExprForm, Form, Parsed, words, count_at}
use Rattle.read_words.specs.WordsModel.{no_word}
use Rattle.read_words.specs.declared.Children.{Children}

abbrev children : ℕ → ℕ → ℕ → ℕ → ℕ → ℕ → Children
children e s l o m a = record { exprs = e; stmts = s; elifs = l; others = o; methods = m; attrs = a }

abbrev pub expr_form : ExprForm → ℕ → Children
expr_form ExprForm.var c = children 0 0 0 0 0 0
expr_form (ExprForm.fixed k) c = children k 0 0 0 0 0
expr_form (ExprForm.counted k) c = children (k * c) 0 0 0 0 0
expr_form (ExprForm.access k) c = children k 0 0 0 0 0
expr_form ExprForm.tuple c = children c 0 0 0 0 0
expr_form ExprForm.call c = children (suc c) 0 0 0 0 0
expr_form ExprForm.lambda c = children 1 0 0 0 0 0

-- by the form, and the counts of the line (what the first line has due is on the agenda from the start)
abbrev pub children_of : Form → ℕ → ℕ → ℕ → Children
children_of Form.tree c₀ c₁ c₂ = children 0 0 0 0 0 0
children_of Form.global c₀ c₁ c₂ = children 0 0 0 0 0 0
children_of Form.elif c₀ c₁ c₂ = children 1 c₀ 0 0 0 0
children_of Form.method c₀ c₁ c₂ = children 0 c₀ 0 0 0 0
children_of Form.attr c₀ c₁ c₂ = children 1 0 0 0 0 0
children_of (Form.stmt (StmtForm.plain k)) c₀ c₁ c₂ = children k 0 0 0 0 0
children_of (Form.stmt StmtForm.assign) c₀ c₁ c₂ = children 2 0 0 0 0 0
children_of (Form.stmt StmtForm.while) c₀ c₁ c₂ = children 1 c₀ 0 0 0 0
children_of (Form.stmt StmtForm.if) c₀ c₁ c₂ = children 1 c₀ c₁ c₂ 0 0
children_of (Form.stmt StmtForm.for) c₀ c₁ c₂ = children 1 c₀ 0 0 0 0
children_of (Form.stmt StmtForm.def) c₀ c₁ c₂ = children 0 c₀ 0 0 0 0
children_of (Form.stmt StmtForm.class) c₀ c₁ c₂ = children 0 0 0 0 c₀ c₁
children_of (Form.expr f) c₀ c₁ c₂ = expr_form f c₀

abbrev pub children_in : Parsed → Children
children_in p = children_of p.form (count_at 0 p) (count_at 1 p) (count_at 2 p)

-- by its kind and its counts
unfoldable pub children_by : ℕ → ℕ → ℕ → ℕ → Children
children_by kind a b c = children_of (get_or words kind no_word).form a b c

-- few lines are due below a line
pub record Few (c : Children) : Type 0 where
  pub few : c.exprs + (c.stmts + (c.elifs + (c.others + (c.methods + c.attrs)))) ≤ 16_384
