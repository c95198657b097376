-- The walk of a target: one loop over its rows binds the names of its `var` lines, walks what index and get have below them, and notes
-- a fault at each line of another kind. By recursion over the target: the loop comes past each part of it.
use Rattle.std.proofs.Common.{ℕ, suc, ◌+◌, ◌≤◌, ◌<◌, add-one, arith, ◌≡◌, refl, sym, ap, ap₂, ◌∙◌, Bool, true, false, not, ◌&&◌, List, [], ◌∷◌, ◌++◌, eqb, length}
use Rattle.std.proofs.lemmas.Bool.{false≢true}
use Rattle.spec_text.specs.Bytes.{Bytes, Part}
use Rattle.spec_text.specs.Tree.{Line, Expr, Exprs, var, node, access, tuple, call, lambda, enil, econs, len_e, len_es}
use Rattle.spec_faults.specs.Position.{in_def}
use Rattle.spec_faults.specs.Faults.{Fault, refused_at}
use Rattle.spec_faults.proofs.ListingWalk.{State, Env, after_t, after_ts}
use Rattle.spec_faults.proofs.TextWalk.{raw_es, raw_t, raw_ts}
use Rattle.work_rows.specs.Layout.{kind_at, number_at, after_row}
use Rattle.work_rows.specs.Rows.{Row, row, rows_e, rows_es}
use Rattle.work_rows.proofs.Lengths.{sized_e}
use Rattle.work_marks.specs.MarksModel.{put_slot}
use Rattle.work_rows.specs.LoopsModel.{rows_to}
use Rattle.work_rows.proofs.Loops.{rows_more}
use Rattle.walk_scopes.specs.ScopesModel.{Scope, defined}
use Rattle.read_row.specs.Worded.{AccessWord, index, get, WordedE, WordedEs}
use Rattle.walk_tree.proofs.Ways.{target_on}
use Rattle.walk_tree.specs.WalkModel.{next_target, target_at, walk_expr}
use Rattle.proof_walk.specs.Table.{Here}
use Rattle.proof_walk.specs.Notes.{OwnNames, notes_t, notes_ts, Told}
use Rattle.proof_walk.proofs.State.{At}
use Rattle.proof_walk.proofs.PartRows.{here_tail, here_left, here_past, row_kind, row_after, row_number, row_small}
use Rattle.proof_walk.proofs.WordTests.{node_test}
use Rattle.proof_walk.proofs.Assigned.{Assigns, targets_first, targets_rest, tuple_parts, none_still}
use Rattle.proof_walk.proofs.Exprs.{Flat, exprs_walked}
use Rattle.proof_walk.proofs.Done.{Done, Spans, done_then, done_skip, done_fault, done_bind, done_to, Looped, looped_one, looped_then, looped_to}

-- ---- one row of the loop
-- a kind that no target has
abbrev no_target : ℕ → Bool
no_target k = not (eqb k 17) && (not (eqb k 24) && (not (eqb k 20) && not (eqb k 22)))

module _ (value : ℕ → List ℕ → List ℕ) (s : Scope) (i : ℕ) (w : List ℕ) where
  -- what the loop does at row i, and where it goes on
  record Turn (z : List ℕ) (j : ℕ) : Type 0 where
    does : target_at value s i w ≡ z
    next : next_target w i ≡ j

  turn_var : kind_at w i ≡ 17 → Turn (defined s w (number_at w i)) (after_row w i)
  unfolding target_at next_target
  turn_var e = record { does = rw e refl; next = rw e refl }

  turn_tuple : kind_at w i ≡ 24 → Turn w (i + 1)
  unfolding target_at next_target
  turn_tuple e = record { does = rw e refl; next = rw e refl }

  turn_access : {k : ℕ} → AccessWord k → kind_at w i ≡ k → Turn (rows_to after_row value (i + 1) (after_row w i) w) (after_row w i)
  unfolding target_at next_target
  turn_access index e = record { does = rw e refl; next = rw e refl }
  turn_access get e = record { does = rw e refl; next = rw e refl }

  turn_refused : no_target (kind_at w i) ≡ true → Turn (put_slot w i 14) (after_row w i)
  unfolding target_at next_target
  turn_refused r = go (eqb (kind_at w i) 17) (eqb (kind_at w i) 24) (eqb (kind_at w i) 20) (eqb (kind_at w i) 22) refl refl refl refl r
    where
      go : (a b c d : Bool) → eqb (kind_at w i) 17 ≡ a → eqb (kind_at w i) 24 ≡ b → eqb (kind_at w i) 20 ≡ c → eqb (kind_at w i) 22 ≡ d
          → (not a && (not b && (not c && not d))) ≡ true → Turn (put_slot w i 14) (after_row w i)
      go true b c d p q y z n = absurd (false≢true n)
      go false true c d p q y z n = absurd (false≢true n)
      go false false true d p q y z n = absurd (false≢true n)
      go false false false true p q y z n = absurd (false≢true n)
      go false false false false p q y z n = record { does = rw (p, q, y, z) refl; next = rw q refl }

-- ---- the loop
abbrev pub turns : Bytes → ℕ → Scope → ℕ → ℕ → List ℕ → List ℕ
turns text k s stop r w = rows_to next_target (target_at (walk_expr k text false s) s) r stop w

-- one row
turn : (text : Bytes) (k : ℕ) (s : Scope) (stop : ℕ) {r i j : ℕ} {w y z : List ℕ} → r < stop → Turn (walk_expr k text false s) s r w y i → y ≡ z → i ≡ j
    → turns text k s stop r w ≡ turns text k s stop j z
turn text k s stop {r} {w = w} l t p q =
    rows_more next_target (target_at (walk_expr k text false s) s) target_on r stop w l ∙ ap₂ (turns text k s stop) (t.next ∙ q) (t.does ∙ p)

module _ {text : Bytes} {rows : List Row} {num : Bytes → ℕ} {own : OwnNames} {s : Scope} {v : Env} (flat : Flat s v) (room : s.end ≤ length rows) (k stop : ℕ) (end : stop ≤ s.end) where
  -- a line of another kind
  refused : (l : Line) (below : ℕ) (part : List Row) (r n : ℕ) {vs : List Part} {seen : List Fault} {w : List ℕ} → n ≡ suc (suc r) → r + suc below ≤ stop → Here rows r (row l below ∷ part)
      → no_target l.word ≡ true → At text rows num own s [] v vs seen w r
      → Looped text rows num own s v (turns text k s stop) vs seen (refused_at n l ∷ []) w r (r + suc below)
  refused l below part r n {w = w} q m here other h =
      looped_one
      (turn text k s stop (omega arith) (turn_refused (walk_expr k text false s) s r w (ap no_target (row_kind h.table here) ∙ other)) refl (row_after h.table here))
      (done_fault h (refused_at n l) refl q (omega arith) (omega arith) (omega arith) (omega arith))

  mutual
    pub target : (t : Expr) (r n : ℕ) {st : State} {seen : List Fault} {w : List ℕ} → Spans (len_e t) k r n stop
        → Here rows r (rows_e t) → WordedE t → At text rows num own s [] v st.view seen w r → (v.home ≡ in_def → Assigns own.notes st.assigned (notes_t t r) r (r + len_e t))
        → (v.home ≡ in_def → Told rows own r (r + len_e t))
        → Looped text rows num own s v (turns text k s stop) (after_t t st).view seen (raw_t t n [] v st) w r (r + len_e t)
    target (var l) r n {st} {seen} {w} f here d h by told =
        let few = h.table.few in
        looped_one
        (turn text k s stop (omega arith) (turn_var (walk_expr k text false s) s r w (row_kind h.table here ∙ d.0)) (ap (defined s w) (row_number h.table here d.1)) (row_after h.table here))
        (done_bind h l.name flat.inner (omega arith) (row_small h.table here d.1) (omega arith) (omega arith))
    target (node l es) r n f here d h by told =
        refused l (len_es es) (rows_es es) r n f.line f.inside here (node_test no_target refl d.0) h
    target (access l es) r n {st} {seen} {w} f here d h by told =
        let e : suc r + len_es es ≡ r + suc (len_es es) = omega arith in
        let head : Done text rows num own s v st.view seen [] w w r (suc r) =
        done_skip h (omega arith) (omega arith) in
        looped_one
        (turn text k s stop (omega arith) (turn_access (walk_expr k text false s) s r w d.0 (row_kind h.table here))
        (ap₂ (λ i j. rows_to after_row (walk_expr k text false s) i j w) (add-one r) (row_after h.table here ∙ sym e)) (row_after h.table here))
        (done_to e (ap (λ i. raw_es es (suc i) [] v st) (sym f.line)) (done_then head
        (exprs_walked k (suc r) st flat head.after es (here_tail here) d.1 (omega arith) (omega arith) room
        (λ i x z u y. none_still (by i) x z (omega arith) (omega arith))
        (λ i z u y. told i z (omega arith) (omega arith)))))
    target (tuple l es) r n {st} {seen} {w} f here d h by told =
        let head : Done text rows num own s v st.view seen [] w w r (suc r) =
        done_skip h (omega arith) (omega arith) in
        looped_to (omega arith) refl (looped_then
        (turn text k s stop (omega arith) (turn_tuple (walk_expr k text false s) s r w (row_kind h.table here ∙ d.0)) refl (add-one r)) head
        (targets es (suc r) (suc n) (omega arith) (here_tail here) d.1 head.after (λ i. tuple_parts l es (by i))
        (λ i z u y. told i z (omega arith) (omega arith))))
    target (call l g es) r n f here d h by told =
        refused l (len_e g + len_es es) (rows_e g ++ rows_es es) r n f.line f.inside here (ap no_target d.0) h
    target (lambda l e) r n f here d h by told =
        refused l (len_e e) (rows_e e) r n f.line f.inside here (ap no_target d.0) h

    targets : (es : Exprs) (r n : ℕ) {st : State} {seen : List Fault} {w : List ℕ} → Spans (len_es es) k r n stop
        → Here rows r (rows_es es) → WordedEs es → At text rows num own s [] v st.view seen w r → (v.home ≡ in_def → Assigns own.notes st.assigned (notes_ts es r) r (r + len_es es))
        → (v.home ≡ in_def → Told rows own r (r + len_es es))
        → Looped text rows num own s v (turns text k s stop) (after_ts es st).view seen (raw_ts es n [] v st) w r (r + len_es es)
    targets enil r n {st} {seen} {w} f here d h by told =
        let e : r ≡ r + 0 = omega arith in
        looped_one (ap (λ i. turns text k s stop i w) e) (done_skip h (omega arith) (omega arith))
    targets (econs e es) r n {st} {seen} {w} f here d h by told =
        let first : Looped text rows num own s v (turns text k s stop) (after_t e st).view seen (raw_t e n [] v st) w r (r + len_e e) =
        target e r n (omega arith) (here_left (rows_e e) (rows_es es) here) d.0 h (λ i. targets_first e es (by i)) (λ i z u y. told i z u (omega arith)) in
        looped_to (omega arith) refl (looped_then first.goes first.done
        (targets es (r + len_e e) (n + len_e e) (omega arith) (here_past (sized_e e) (rows_es es) here) d.1
        first.done.after (λ i. targets_rest e es st (by i)) (λ i z u y. told i z (omega arith) (omega arith))))
