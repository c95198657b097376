-- How many lines are due below a line: at most 16,384, since a line has at most three counts, each is at most 4,096, and a word of the
-- table has at most two children for each.
use Rattle.std.proofs.Common.{◌≡◌, refl, ℕ, ◌*◌, ◌≤◌, ◌<◌, mul-le-mul, arith, Bool, true, leb, leb-true, get_or}
use Rattle.spec_text.specs.Lines.{StmtForm, ExprForm, Form, Word, words}
use Rattle.spec_text.proofs.Lists.{test_at}
use Rattle.read_words.specs.ChildrenModel.{children_of, children_by, Few}

-- the table's own numbers
abbrev small : Form → Bool
small Form.tree = true
small Form.global = true
small Form.elif = true
small Form.method = true
small Form.attr = true
small (Form.stmt (StmtForm.plain k)) = leb k 2
small (Form.stmt StmtForm.assign) = true
small (Form.stmt StmtForm.while) = true
small (Form.stmt StmtForm.if) = true
small (Form.stmt StmtForm.for) = true
small (Form.stmt StmtForm.def) = true
small (Form.stmt StmtForm.class) = true
small (Form.expr ExprForm.var) = true
small (Form.expr (ExprForm.fixed k)) = leb k 2
small (Form.expr (ExprForm.counted k)) = leb k 2
small (Form.expr (ExprForm.access k)) = leb k 2
small (Form.expr ExprForm.tuple) = true
small (Form.expr ExprForm.call) = true
small (Form.expr ExprForm.lambda) = true

module _ (a b c : ℕ) (la : a ≤ 4_096) (lb : b ≤ 4_096) (lc : c ≤ 4_096) where
  children_few : (f : Form) → small f ≡ true → Few (children_of f a b c)
  children_few Form.tree e = record { few = omega arith }
  children_few Form.global e = record { few = omega arith }
  children_few Form.elif e = record { few = omega arith }
  children_few Form.method e = record { few = omega arith }
  children_few Form.attr e = record { few = omega arith }
  children_few (Form.stmt (StmtForm.plain k)) e = record { few = omega (arith, leb-true k 2 e) }
  children_few (Form.stmt StmtForm.assign) e = record { few = omega arith }
  children_few (Form.stmt StmtForm.while) e = record { few = omega arith }
  children_few (Form.stmt StmtForm.if) e = record { few = omega arith }
  children_few (Form.stmt StmtForm.for) e = record { few = omega arith }
  children_few (Form.stmt StmtForm.def) e = record { few = omega arith }
  children_few (Form.stmt StmtForm.class) e = record { few = omega arith }
  children_few (Form.expr ExprForm.var) e = record { few = omega arith }
  children_few (Form.expr (ExprForm.fixed k)) e = record { few = omega (arith, leb-true k 2 e) }
  children_few (Form.expr (ExprForm.counted k)) e = let h : k * a ≤ 2 * 4_096 = mul-le-mul (leb-true k 2 e) la in record { few = omega arith }
  children_few (Form.expr (ExprForm.access k)) e = record { few = omega (arith, leb-true k 2 e) }
  children_few (Form.expr ExprForm.tuple) e = record { few = omega arith }
  children_few (Form.expr ExprForm.call) e = record { few = omega arith }
  children_few (Form.expr ExprForm.lambda) e = record { few = omega arith }

  few_at : (d : Word) (kind : ℕ) → kind < 29 → Few (children_of (get_or words kind d).form a b c)
  few_at d kind h = children_few (get_or words kind d).form (test_at (λ (w : Word). small w.form) words kind d refl h)

  pub few_by : (kind : ℕ) → kind < 29 → Few (children_by kind a b c)
  unfolding children_by
  few_by kind h = few_at _ kind h
