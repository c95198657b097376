-- The walk of an expression outside of lambdas: the slots of its rows are its faults, once for a lambda and a name, and all else holds after
-- it as before: an expression binds nothing. By recursion over the tree, under lambdas too: the walk goes to the next row by the number of
-- lines below, which is where the next part begins.
use Rattle.std.proofs.Common.{ℕ, zero, suc, ◌+◌, ◌-◌, ◌/◌, ◌≤◌, ◌<◌, arith, add-one, ◌≡◌, refl, sym, ap, ap₂, ◌∙◌, subst, Bool, true, false, cond, not, ◌&&◌, List, [], ◌∷◌, ◌++◌, eqb, ltb, length}
use Rattle.std.proofs.lemmas.Bool.{false≢true, lt-leb, not-true}
use Rattle.spec_text.specs.Bytes.{Bytes}
use Rattle.spec_text.specs.Tree.{Line, Expr, Exprs, var, node, access, tuple, call, lambda, enil, econs, len_e, len_es}
use Rattle.spec_text.proofs.Lists.{and_split}
use Rattle.spec_faults.specs.Position.{Placed, in_def, Use, value, callee}
use Rattle.spec_faults.specs.Faults.{Fault}
use Rattle.spec_faults.proofs.ListingWalk.{State, Env}
use Rattle.spec_faults.proofs.TextWalk.{raw_e, raw_es}
use Rattle.work_rows.specs.Layout.{rows_most, kind_at, number_at, after_row}
use Rattle.work_rows.specs.Rows.{Row, row, rows_e, rows_es}
use Rattle.work_rows.proofs.Lengths.{sized_e}
use Rattle.work_rows.specs.LoopsModel.{rows_to}
use Rattle.work_rows.proofs.Loops.{rows_end, rows_more}
use Rattle.walk_scopes.specs.ScopesModel.{Scope, in_lambda, stack_of}
use Rattle.read_row.specs.Worded.{WordedE, WordedEs}
use Rattle.walk_judge.specs.JudgeModel.{read_of}
use Rattle.walk_blocks.specs.BlocksModel.{opened}
use Rattle.walk_tree.proofs.Ways.{after_on}
use Rattle.walk_tree.specs.WalkModel.{walk, expr_at, walk_expr, walk_body, walk_stmts, walk_exprs}
use Rattle.proof_walk.specs.Table.{ParamWord, lambda as lambdaWord, Table, Here}
use Rattle.proof_walk.specs.Notes.{OwnNames, Told}
use Rattle.proof_walk.specs.Slots.{slots_from}
use Rattle.proof_walk.proofs.State.{At}
use Rattle.proof_walk.proofs.PartRows.{head_row, here_tail, here_left, here_past, row_kind, row_after, row_number, row_params, row_small, row_few, row_after_e}
use Rattle.proof_walk.proofs.WordTests.{node_test, access_test}
use Rattle.proof_walk.proofs.InExprs.{none_blamed, Stands, Step, step_both, step_below, step_quiet, stands_on, onward}
use Rattle.proof_walk.proofs.Done.{raised_same, Done}
use Rattle.proof_walk.proofs.OneRead.{Under, flat, under, Around, CalledAs, as_value, as_callee, read_at, read_step}
use Rattle.proof_walk.proofs.Lambdas.{Bound, bound_opened, around_in, stands_in, step_out}
pub use Rattle.proof_walk.proofs.OneRead.{Still, Flat}

-- ---- a part of the rows
under_part : {s : Scope} {v : Env} {r stop i end : ℕ} {ls : List Placed} → r ≤ i → end ≤ stop → Under s v r stop ls → Under s v i end ls
under_part a b (flat f) = flat f
under_part a b (under {q} {qs} d) = under {q = q} {qs = qs} (record {
  some = d.some;
  inside = omega (arith, d.inside);
  wide = d.wide;
  few = d.few;
  lined = d.lined;
  early = let e = d.early in omega arith;
})

around_part : {rows : List Row} {own : OwnNames} {s : Scope} {ls : List Placed} {v : Env} {st : State} {r stop i end : ℕ} → r ≤ i → end ≤ stop
    → Around rows own s ls v st r stop → Around rows own s ls v st i end
around_part a b c = record {
  lambdas = under_part a b c.lambdas;
  inside = omega (arith, c.inside);
  ends = c.ends;
  still = λ d x j k l. c.still d x j (omega arith) (omega arith);
  told = λ d j k l. c.told d j (omega arith) (omega arith);
}

inner_outer : {s : Scope} {v : Env} {r stop : ℕ} {ls : List Placed} → Under s v r stop ls → s.inner ≤ s.outer
inner_outer (flat f) = omega (arith, f.inner)
inner_outer (under d) = d.wide

-- ---- the row of an expression, by its kind
module _ (k : ℕ) (text : Bytes) (s : Scope) (called : Bool) (i : ℕ) (w : List ℕ) (few : i < 4_096) where
  walk_on : walk_expr (suc k) text called s i w ≡ expr_at (walk_expr k text) (walk_body k text) text s called i w
  unfolding walk_expr
  walk_on = ap (λ t. cond t w (expr_at (walk_expr k text) (walk_body k text) text s called i w)) (lt-leb rows_most i few)

  at_var : kind_at w i ≡ 17 → walk_expr (suc k) text called s i w ≡ read_of s called (number_at w i) i w
  unfolding expr_at
  at_var e = walk_on ∙ rw e

  at_call_lem : kind_at w i ≡ 21
      → walk_expr (suc k) text called s i w ≡ rows_to after_row (walk_expr k text false s) (after_row w (i + 1)) (after_row w i) (walk_expr k text true s (i + 1) w)
  unfolding expr_at
  at_call_lem e = walk_on ∙ rw e

  at_lambda_lem : kind_at w i ≡ 28 → walk_expr (suc k) text called s i w
      ≡ walk_body k text (in_lambda s (after_row w i)) (i + 1) (opened text (in_lambda s (after_row w i)) i (after_row w i) w)
  unfolding expr_at
  at_lambda_lem e = walk_on ∙ rw e

  -- the other kinds
  at_other : (n : ℕ) → eqb n 17 ≡ false → eqb n 21 ≡ false → eqb n 28 ≡ false → kind_at w i ≡ n
      → walk_expr (suc k) text called s i w ≡ rows_to after_row (walk_expr k text false s) (i + 1) (after_row w i) w
  unfolding expr_at
  at_other n a b c e = walk_on ∙ rw (e, a, b, c)

-- the other kinds, and no word of a statement
abbrev other : ℕ → Bool
other n = not (eqb n 17) && (not (eqb n 21) && (not (eqb n 28) && not (ltb n 16)))

-- what its tests say
record Plain (n : ℕ) : Type 0 where
  pub var : eqb n 17 ≡ false
  pub call : eqb n 21 ≡ false
  pub lambda : eqb n 28 ≡ false
  pub expr : ltb n 16 ≡ false

plain : (n : ℕ) → other n ≡ true → Plain n
plain n e =
    let a = and_split (not (eqb n 17)) _ e in
    let b = and_split (not (eqb n 21)) _ a.1 in
    let c = and_split (not (eqb n 28)) _ b.1 in
    record { var = not-true _ a.0; call = not-true _ b.0; lambda = not-true _ c.0; expr = not-true _ c.1 }

pub word_e : {text : Bytes} {rows : List Row} {num : Bytes → ℕ} {w : List ℕ} {i : ℕ} → Table text rows num w → (e : Expr) → Here rows i (rows_e e) → WordedE e → ltb (kind_at w i) 16 ≡ false
word_e t (var l) h ok = ap (λ n. ltb n 16) (row_kind t h ∙ ok.0)
word_e t (node l es) h ok = ap (λ n. ltb n 16) (row_kind t h) ∙ (plain l.word (node_test other refl ok.0)).expr
word_e t (access l es) h ok = ap (λ n. ltb n 16) (row_kind t h) ∙ (plain l.word (access_test other refl ok.0)).expr
word_e t (tuple l es) h ok = ap (λ n. ltb n 16) (row_kind t h ∙ ok.0)
word_e t (call l f es) h ok = ap (λ n. ltb n 16) (row_kind t h ∙ ok.0)
word_e t (lambda l e) h ok = ap (λ n. ltb n 16) (row_kind t h ∙ ok.0)

-- ---- expressions, under lambdas too
step_as : {num : Bytes → ℕ} {s : Scope} {ls : List Placed} {v : Env} {st : State} {seen : List Fault} {r n : ℕ} {w y z : List ℕ} {fs gs : List Fault} → z ≡ y → gs ≡ fs
    → Step num s ls v st seen r n w y fs → Step num s ls v st seen r n w z gs
step_as {num} {s} {ls} {v} {st} {seen} {r} {n} {w} {y} {z} {fs} {gs} e d p =
    subst (λ y. Step num s ls v st seen r n w y gs) (sym e) (subst (Step num s ls v st seen r n w y) (sym d) p)

module _ {text : Bytes} {rows : List Row} {num : Bytes → ℕ} {own : OwnNames} where
  -- the rows below a row of one of the other kinds
  below_step : {s : Scope} {ls : List Placed} {v : Env} {st : State} {seen : List Fault} {w : List ℕ} {l : Line} {part : List Row} (k r : ℕ) (called : Bool) (n : ℕ) → Plain l.word
      → Here rows r (row l n ∷ part) → Stands text rows num own s ls v st seen w r → {fs : List Fault}
      → Step num s ls v st seen (suc r) n w (walk_exprs k text s (suc r) (suc r + n) w) fs
      → Step num s ls v st seen r (suc n) w (walk_expr (suc k) text called s r w) fs
  below_step {s} {w = w} {l} k r called n pl h p q =
      let t = p.at.table in
      let e : r + suc n ≡ suc r + n = omega arith in
      step_as
      (at_other k text s called r w (row_few t h) l.word pl.var pl.call pl.lambda (row_kind t h)
      ∙ ap₂ (λ i stop. walk_exprs k text s i stop w) (add-one r) (row_after t h ∙ e))
      refl (step_below (p.at.clean r (omega arith) (head_row h).0) q)

  mutual
    expr_step : (e : Expr) (k r : ℕ) {called : Bool} {u : Use} {s : Scope} {ls : List Placed} {v : Env} {st : State} {seen : List Fault} {w : List ℕ} → CalledAs called u
        → Here rows r (rows_e e) → WordedE e → len_e e ≤ k → Stands text rows num own s ls v st seen w r → Around rows own s ls v st r (r + len_e e)
        → Step num s ls v st seen r (len_e e) w (walk_expr k text called s r w) (raw_e e (suc (suc r)) u ls v st)
    expr_step (var l) zero r a h ok few p c = absurd (omega arith)
    expr_step (var l) (suc k) r {called} {u} {s} {ls} {v} {st} {seen} {w} a h ok few p c =
        let t = p.at.table in
        step_as (at_var k text s called r w (row_few t h) (row_kind t h ∙ ok.0) ∙ ap (λ n. read_of s called n r w) (row_number t h ok.1)) refl
        (read_step p c (omega arith) h ok.0 (row_small t h ok.1) a)
    expr_step (node l es) zero r a h ok few p c = absurd (omega arith)
    expr_step (node l es) (suc k) r {called} a h ok few p c =
        below_step k r called (len_es es) (plain l.word (node_test other refl ok.0)) h p
        (exprs_step es k (suc r) (here_tail h) ok.1 (omega arith) (stands_on p (omega arith)) (around_part (omega arith) (omega arith) c))
    expr_step (access l es) zero r a h ok few p c = absurd (omega arith)
    expr_step (access l es) (suc k) r {called} a h ok few p c =
        below_step k r called (len_es es) (plain l.word (access_test other refl ok.0)) h p
        (exprs_step es k (suc r) (here_tail h) ok.1 (omega arith) (stands_on p (omega arith)) (around_part (omega arith) (omega arith) c))
    expr_step (tuple l es) zero r a h ok few p c = absurd (omega arith)
    expr_step (tuple l es) (suc k) r {called} a h ok few p c =
        below_step k r called (len_es es) (plain l.word (ap other ok.0)) h p
        (exprs_step es k (suc r) (here_tail h) ok.1 (omega arith) (stands_on p (omega arith)) (around_part (omega arith) (omega arith) c))
    expr_step (call l f es) zero r a h ok few p c = absurd (omega arith)
    expr_step (call l f es) (suc k) r {called} {u} {s} {ls} {v} {st} {seen} {w} a h ok few p c =
        let t = p.at.table in
        let hf : Here rows (suc r) (rows_e f) = here_left (rows_e f) (rows_es es) (here_tail h) in
        let p' = stands_on p {i = suc r} (omega arith) in
        let q = expr_step f k (suc r) as_callee hf ok.1.0 (omega arith) p' (around_part (omega arith) (omega arith) c) in
        let e : r + suc (len_e f + len_es es) ≡ suc r + len_e f + len_es es = omega arith in
        let d : suc (suc (suc r)) + len_e f ≡ suc (suc (suc r + len_e f)) = omega arith in
        step_as
        (at_call_lem k text s called r w (row_few t h) (row_kind t h ∙ ok.0)
        ∙ ap (λ i. walk_exprs k text s (after_row w i) (after_row w r) (walk_expr k text true s i w)) (add-one r)
        ∙ ap₂ (λ i stop. walk_exprs k text s i stop (walk_expr k text true s (suc r) w)) (row_after_e t f hf) (row_after t h ∙ e))
        (ap (λ n. raw_e f (suc (suc (suc r))) (callee (read_at r l)) ls v st ++ raw_es es n ls v st) d)
        (step_below (p.at.clean r (omega arith) (head_row h).0)
        (step_both q
        (exprs_step es k (suc r + len_e f) (here_past (sized_e f) (rows_es es) (here_tail h)) ok.1.1 (omega arith) (onward p' (inner_outer c.lambdas) q)
        (around_part (omega arith) (omega arith) c))))
    expr_step (lambda l e) zero r a h ok few p c = absurd (omega arith)
    expr_step (lambda l e) (suc k) r {called} {u} {s} {ls} {v} {st} {seen} {w} a h ok few p c =
        let t = p.at.table in
        let end : ℕ = r + suc (len_e e) in
        let y : List ℕ = opened text (in_lambda s end) r end w in
        let b : Bound num end l.params w y =
        bound_opened text (in_lambda s end) r (omega arith) (omega (arith, c.inside, c.ends, t.few)) end l.params w t ok.1.0
        (row_params t h (subst ParamWord (sym ok.0) lambdaWord)) in
        let p' = stands_in (len_e e) l p c b in
        let he : Here rows (suc r) (rows_e e) = here_tail h in
        step_as
        (at_lambda_lem k text s called r w (row_few t h) (row_kind t h ∙ ok.0)
        ∙ ap₂ (λ i stop. walk_body k text (in_lambda s stop) i (opened text (in_lambda s stop) r stop w)) (add-one r) (row_after t h)
        ∙ ap (λ m. cond m (walk_stmts k text (suc r) (suc r + 1) (walk (stack_of s) y)).work (walk_expr k text false (in_lambda s end) (suc r) y)) (word_e p'.at.table e he ok.1.1))
        refl
        (step_out (len_e e) l p c b (expr_step e k (suc r) as_value he ok.1.1 (omega arith) p' (around_in (len_e e) l p c b)))

    exprs_step : (es : Exprs) (k r : ℕ) {s : Scope} {ls : List Placed} {v : Env} {st : State} {seen : List Fault} {w : List ℕ} → Here rows r (rows_es es) → WordedEs es
        → len_es es ≤ k → Stands text rows num own s ls v st seen w r → Around rows own s ls v st r (r + len_es es)
        → Step num s ls v st seen r (len_es es) w (walk_exprs k text s r (r + len_es es) w) (raw_es es (suc (suc r)) ls v st)
    exprs_step enil k r {s} {w = w} h ok few p c =
        step_as (rows_end after_row (walk_expr k text false s) r (r + 0) w (omega arith)) refl (step_quiet p 0 [] refl refl refl)
    exprs_step (econs e es) k r {s} {ls} {v} {st} {seen} {w} h ok few p c =
        let he : Here rows r (rows_e e) = here_left (rows_e e) (rows_es es) h in
        let q = expr_step e k r as_value he ok.0 (omega arith) p (around_part (omega arith) (omega arith) c) in
        let d : suc (suc r) + len_e e ≡ suc (suc (r + len_e e)) = omega arith in
        let g : r + (len_e e + len_es es) ≡ r + len_e e + len_es es = omega arith in
        step_as
        (rows_more after_row (walk_expr k text false s) after_on r (r + (len_e e + len_es es)) w (omega arith)
        ∙ ap₂ (λ i stop. walk_exprs k text s i stop (walk_expr k text false s r w)) (row_after_e p.at.table e he) g)
        (ap (λ n. raw_e e (suc (suc r)) value ls v st ++ raw_es es n ls v st) d)
        (step_both q
        (exprs_step es k (r + len_e e) (here_past (sized_e e) (rows_es es) h) ok.1 (omega arith) (onward p (inner_outer c.lambdas) q) (around_part (omega arith) (omega arith) c)))

-- ---- outside of lambdas
module _ {text : Bytes} {rows : List Row} {num : Bytes → ℕ} {own : OwnNames} (k r : ℕ) {s : Scope} {v : Env} (st : State) {seen : List Fault} {w : List ℕ} (f : Flat s v)
    (p : At text rows num own s [] v st.view seen w r) where
  stands_at : Stands text rows num own s [] v st seen w r
  stands_at = record {
    at = p;
    captured = λ x b. absurd (false≢true (sym (none_blamed x r seen p.places) ∙ b));
    far = λ x l b. absurd (false≢true (sym (none_blamed x r seen p.places) ∙ b));
  }

  -- what a step does there
  walked : {n : ℕ} {z : List ℕ} {fs : List Fault} → Step num s [] v st seen r n w z fs → Done text rows num own s v st.view seen fs w z r (r + n)
  walked {n} {z} {fs} c = record {
    far = omega arith;
    after = (onward stands_at (omega (arith, f.inner)) c).at;
    slots = let d : (r + n) - r ≡ n = omega arith in ap (slots_from z r) d ∙ c.slots;
    change = record {
      kept = c.kept;
      before = c.before;
      blocks = λ x l. raised_same (c.blocks (num x));
    };
    beyond = λ i _ _. ap (λ x. x / 8_192) (c.fourths i);
    early = λ i _. ap (λ x. x / 8_192) (c.fourths i);
  }

  pub expr_walked : (e : Expr) → Here rows r (rows_e e) → WordedE e → len_e e ≤ k → r + len_e e ≤ s.end → s.end ≤ length rows → Still own v st r (r + len_e e) → (v.home ≡ in_def → Told rows own r (r + len_e e))
      → Done text rows num own s v st.view seen (raw_e e (suc (suc r)) value [] v st) w (walk_expr k text false s r w) r (r + len_e e)
  expr_walked e h ok few inside ends still told = walked (expr_step e k r as_value h ok few stands_at (record { lambdas = flat f; inside = inside; ends = ends; still = still; told = told }))

  pub exprs_walked : (es : Exprs) → Here rows r (rows_es es) → WordedEs es → len_es es ≤ k → r + len_es es ≤ s.end → s.end ≤ length rows → Still own v st r (r + len_es es) → (v.home ≡ in_def → Told rows own r (r + len_es es))
      → Done text rows num own s v st.view seen (raw_es es (suc (suc r)) [] v st) w (walk_exprs k text s r (r + len_es es) w) r (r + len_es es)
  exprs_walked es h ok few inside ends still told = walked (exprs_step es k r h ok few stands_at (record { lambdas = flat f; inside = inside; ends = ends; still = still; told = told }))
