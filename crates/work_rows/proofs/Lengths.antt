-- A part of a tree has as many rows as it has lines: by recursion over the tree.
use Rattle.std.proofs.Common.{ℕ, suc, ◌+◌, arith, ◌≡◌, refl, List, [], ◌∷◌, ◌++◌, map, length, length-append}
use Rattle.std.proofs.lemmas.List.{length-map}
use Rattle.spec_text.specs.Tree.{Expr, Exprs, Attrs, Stmt, Stmts, Methods, Tree, len_e, len_es, len_as, len_s, len_ss, len_ms, var, node, access, tuple, call, lambda, enil, econs, anil, acons, simple, assign, block, choice, for, def, class, snil, scons, mnil, mcons}
use Rattle.work_rows.specs.Rows.{Row, global_row, rows_e, rows_es, rows_as, rows_s, rows_ss, rows_ms, rows_t}

pub record Sized (a : List Row) (n : ℕ) : Type 0 where
  pub count : length a ≡ n

pub nothing : Sized [] 0
nothing = record { count = refl }

-- a row and those below it
pub under : {x : Row} {a : List Row} {n : ℕ} → Sized a n → Sized (x ∷ a) (suc n)
under h = record { count = omega arith }

-- one part after the other
pub both : {a b : List Row} {m n : ℕ} → Sized a m → Sized b n → Sized (a ++ b) (m + n)
both {a} {b} h k = record { count = omega (arith, length-append a b) }

mutual
  pub sized_e : (e : Expr) → Sized (rows_e e) (len_e e)
  sized_e (var l) = under nothing
  sized_e (node l es) = under (sized_es es)
  sized_e (access l es) = under (sized_es es)
  sized_e (tuple l es) = under (sized_es es)
  sized_e (call l f es) = under (both (sized_e f) (sized_es es))
  sized_e (lambda l e) = under (sized_e e)

  pub sized_es : (es : Exprs) → Sized (rows_es es) (len_es es)
  sized_es enil = nothing
  sized_es (econs e es) = both (sized_e e) (sized_es es)

pub sized_as : (ats : Attrs) → Sized (rows_as ats) (len_as ats)
sized_as anil = nothing
sized_as (acons l e ats) = under (both (sized_e e) (sized_as ats))

mutual
  pub sized_s : (s : Stmt) → Sized (rows_s s) (len_s s)
  sized_s (simple l es) = under (sized_es es)
  sized_s (assign l e t) = under (both (sized_e e) (sized_e t))
  sized_s (block l c b) = under (both (sized_e c) (sized_ss b))
  sized_s (choice l c b k e) = under (both (sized_e c) (both (sized_ss b) (both (sized_ss k) (sized_ss e))))
  sized_s (for l e b) = under (both (sized_e e) (sized_ss b))
  sized_s (def l b) = under (sized_ss b)
  sized_s (class l ms ats) = under (both (sized_ms ms) (sized_as ats))

  pub sized_ss : (ss : Stmts) → Sized (rows_ss ss) (len_ss ss)
  sized_ss snil = nothing
  sized_ss (scons s ss) = both (sized_s s) (sized_ss ss)

  pub sized_ms : (ms : Methods) → Sized (rows_ms ms) (len_ms ms)
  sized_ms mnil = nothing
  sized_ms (mcons l b ms) = under (both (sized_ss b) (sized_ms ms))

-- ---- the rows of a whole tree: one for each line after the first
pub rows_length : (t : Tree) → length (rows_t t) ≡ length t.globals + len_ss t.body
rows_length t =
    let globals : Sized (map global_row t.globals) (length t.globals) = record { count = length-map t.globals global_row } in
    (both globals (sized_ss t.body)).count
