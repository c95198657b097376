-- What the table of words says of a line by its form: its word, and that its name and its parameters have bytes.
-- One entry for each row of the table; a line that was read fits its row.
use Rattle.std.proofs.Common.{ℕ, zero, suc, ◌≡◌, refl, subst, Bool, true, false, List, [], ◌∷◌, arith}
use Rattle.std.proofs.Math.Bool.{false≢true}
use Rattle.std.proofs.Math.Option.{some}
use Rattle.std.proofs.Math.ListN.{get_elem?}
use Rattle.spec_text.specs.Bytes.{Bytes, Part, is_name}
use Rattle.spec_text.specs.Tree.{Line}
use Rattle.spec_text.specs.Lines.{StmtForm, ExprForm, Form, Word, words, Parsed}
use Rattle.spec_text.proofs.Lists.{All, all_nil, all_cons}
use Rattle.spec_text.proofs.LineParts.{IsNameOf, NameFits, ParsedFits}
use Rattle.read_row.specs.Worded.{NodeWord, AccessWord, SimpleWord, BlockWord, Some, Somes}

-- ---- a line of a form, and what holds below it
abbrev pub Lined : Form → Line → Type 0 → Type 0
Lined Form.tree l P = Unit
Lined Form.global l P = P
Lined Form.elif l P = BlockWord l.word × P
Lined Form.method l P = (l.word ≡ 14) × (Some l.name × (Somes l.params × P))
Lined Form.attr l P = (l.word ≡ 15) × P
Lined (Form.stmt (StmtForm.plain k)) l P = SimpleWord l.word × P
Lined (Form.stmt StmtForm.assign) l P = (l.word ≡ 6) × P
Lined (Form.stmt StmtForm.while) l P = BlockWord l.word × P
Lined (Form.stmt StmtForm.if) l P = (l.word ≡ 7) × P
Lined (Form.stmt StmtForm.for) l P = (l.word ≡ 10) × (Some l.name × P)
Lined (Form.stmt StmtForm.def) l P = (l.word ≡ 5) × (Some l.name × (Somes l.params × P))
Lined (Form.stmt StmtForm.class) l P = (l.word ≡ 13) × (Some l.name × P)
Lined (Form.expr (ExprForm.fixed k)) l P = NodeWord l.word × P
Lined (Form.expr (ExprForm.counted k)) l P = NodeWord l.word × P
Lined (Form.expr (ExprForm.access k)) l P = AccessWord l.word × P
Lined (Form.expr ExprForm.var) l P = (l.word ≡ 17) × Some l.name
Lined (Form.expr ExprForm.tuple) l P = (l.word ≡ 24) × P
Lined (Form.expr ExprForm.call) l P = (l.word ≡ 21) × P
Lined (Form.expr ExprForm.lambda) l P = (l.word ≡ 28) × (Somes l.params × P)

-- ---- the table, row by row
abbrev Table : (ℕ → Word → Type 0) → List Word → Type 0
Table P [] = Unit
Table P (w ∷ ws) = P 0 w × Table (λ n. P (suc n)) ws

table_at : (P : ℕ → Word → Type 0) (ws : List Word) → Table P ws → (n : ℕ) (w : Word) → get_elem? ws n ≡ some w → P n w
table_at P [] t n w e = let z : ◌≡◌ {A = ℕ} 0 1 = cc in absurd (omega arith)
table_at P (v ∷ ws) t zero w e = let k : v ≡ w = cc in subst (P 0) k t.0
table_at P (v ∷ ws) t (suc n) w e = table_at (λ n. P (suc n)) ws t.1 n w e

infixr 4 ◌then◌
◌then◌ : {A B : Type 0} → A → B → A × B
a then b = (a, b)

module _ (s e : ℕ) (x : Part) (ps : List Part) (many : Somes ps) (P : Type 0) (p : P) where
  abbrev Says : ℕ → Word → Type 0
  Says n w = (w.named ≡ true → Some x) → Lined w.form (record { word = n; start = s; end = e; name = x; params = ps }) P

  table : Table Says words
  table =
      (λ x. tt)
      then (λ x. p)
      then (λ x. (SimpleWord.break, p))
      then (λ x. (SimpleWord.continue, p))
      then (λ x. (SimpleWord.pass, p))
      then (λ x. (refl, (x refl, (many, p))))
      then (λ x. (refl, p))
      then (λ x. (refl, p))
      then (λ x. (BlockWord.elif, p))
      then (λ x. (BlockWord.while, p))
      then (λ x. (refl, (x refl, p)))
      then (λ x. (SimpleWord.return, p))
      then (λ x. (SimpleWord.expr, p))
      then (λ x. (refl, (x refl, p)))
      then (λ x. (refl, (x refl, (many, p))))
      then (λ x. (refl, p))
      then (λ x. (NodeWord.lit, p))
      then (λ x. (refl, x refl))
      then (λ x. (NodeWord.un, p))
      then (λ x. (NodeWord.bin, p))
      then (λ x. (AccessWord.index, p))
      then (λ x. (refl, p))
      then (λ x. (AccessWord.get, p))
      then (λ x. (NodeWord.list, p))
      then (λ x. (refl, p))
      then (λ x. (NodeWord.set, p))
      then (λ x. (NodeWord.treeset, p))
      then (λ x. (NodeWord.dict, p))
      then (λ x. (refl, (many, p)))
      then tt

-- ---- names have bytes
is_some : (x : Part) → is_name x.bytes ≡ true → Some x
is_some x e h = false≢true (subst (λ (y : Bytes). is_name y ≡ true) h e)

name_some : (text : Bytes) (b : Bool) (x : Part) → NameFits text b x → b ≡ true → Some x
name_some text true x n e = is_some x n.1
name_some text false x n e = absurd (false≢true e)

params_some : {text : Bytes} {ps : List Part} → All (IsNameOf text) ps → Somes ps
params_some all_nil = tt
params_some (all_cons {a} p s) = (is_some a p.1, params_some s)

-- ---- a line that was read
pub named : {text : Bytes} {p : Parsed} (k : ParsedFits text p) → k.word.named ≡ true → Some p.line.name
named {text} {p} k = name_some text k.word.named p.line.name k.fits.name

pub lined : {text : Bytes} {p : Parsed} {f : Form} {P : Type 0} → ParsedFits text p → p.form ≡ f → P → Lined f p.line P
lined {p} {f} {P} k i q =
    let l = p.line in
    let many = params_some k.fits.params in
    let t = table l.start l.end l.name l.params many P q in
    let says = table_at (Says l.start l.end l.name l.params many P q) words t l.word k.word k.fits.row in
    subst (λ (g : Form). Lined g l P) i (subst (λ (g : Form). Lined g l P) k.form (says (named k)))
