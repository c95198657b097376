-- A tuple's one count is taken as it is, those of list, set and treeset once. Past the last row there is no word.
use Rattle.std.proofs.Common.{◌≡◌, refl, ap, ◌∙◌, ℕ, ◌*◌, ◌≤◌, arith}
use Rattle.read_words.specs.declared.Children.{Children}
use Rattle.read_words.specs.ChildrenModel.{children_by}
use Rattle.read_words.proofs.OneByOne.{within}
use Rattle.read_words.proofs.WordPlaces.{children_past}
use Rattle.read_words.proofs.children_of.Goals as goal

abbrev exprs : ℕ → Children
exprs n = record { exprs = n; stmts = 0; elifs = 0; others = 0; methods = 0; attrs = 0 }

-- so many expressions, and of the others what x has
abbrev and : ℕ → Children → Children
and n x = record { exprs = n; stmts = x.stmts; elifs = x.elifs; others = x.others; methods = x.methods; attrs = x.attrs }

pub returns-in-23 : goal.returns-in-23
unfolding children_by
returns-in-23 c =
    let a = c.args.a in
    let one : exprs a ≡ exprs (1 * a) = ap exprs (omega arith) in
    let none : and a c.default-none.result ≡ exprs a = cc in
    none ∙ within (λ k. exprs a ≡ children_by k a c.args.b c.args.c) 23 4 (one, (refl, (one, (one, tt)))) c.args.kind (grind arith) (omega arith)

pub returns-in_default-3 : goal.returns-in_default-3
returns-in_default-3 c =
    let l : 29 ≤ c.args.kind = grind arith in
    let none : and c.default-none.result.exprs c.default-none.result ≡ exprs 0 = cc in
    none ∙ children_past c.args.kind c.args.a c.args.b c.args.c l
