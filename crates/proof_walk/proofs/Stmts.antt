-- The walk of statements: the slots of their rows are their faults, and after them the names in view are those of the state after them. By recursion over statements: each is a chain of steps (`Done`), and a list of lines is one loop.
use Rattle.std.proofs.Common.{ℕ, suc, ◌+◌, ◌-◌, ◌≤◌, ◌<◌, arith, ◌≡◌, refl, sym, ap, ◌∙◌, subst, Bool, true, false, cond, not, List, [], ◌∷◌, ◌++◌, append_assoc, append-nil, eqb, length}
use Rattle.spec_text.specs.Bytes.{Bytes, Part}
use Rattle.spec_text.specs.Tree.{Line, Expr, Exprs, Attrs, Stmt, Stmts, Methods, enil, econs, anil, acons, simple, assign, block, choice, for, def, class, snil, scons, mnil, mcons, len_e, len_es, len_as, len_s, len_ss, len_ms}
use Rattle.spec_faults.specs.Position.{Home, in_module, in_def, in_method, value}
use Rattle.spec_faults.specs.Faults.{Fault, unless, lacks_self, selfless}
use Rattle.spec_faults.proofs.ListingWalk.{State, Env, naming, entered, after_s, after_ss, def_env, method_env, in_classes, self_fault}
use Rattle.spec_faults.proofs.TextWalk.{raw_e, raw_es, raw_s, raw_ss, raw_ms}
use Rattle.spec_faults.proofs.Deduped.{seen_after}
use Rattle.work_rows.specs.Layout.{kind_at, after_row}
use Rattle.work_rows.specs.Rows.{Row, row, rows_e, rows_es, rows_as, rows_s, rows_ss, rows_ms}
use Rattle.work_rows.proofs.Lengths.{sized_e, sized_s, sized_ss, sized_ms}
use Rattle.work_marks.specs.MarksModel.{stamp_at, flag_at, put_slot, put_link}
use Rattle.work_rows.specs.LoopsModel.{rows_to}
use Rattle.work_rows.proofs.Loops.{rows_end}
use Rattle.work_marks.proofs.Writes.{raised_block_fourth, flag_same, flag_stamp}
use Rattle.walk_scopes.specs.declared.ScopeStack.{ScopeStack}
use Rattle.walk_scopes.specs.ScopesModel.{module', top_of, defined}
use Rattle.walk_scopes.specs.declared.Home.{Home as BlockHome}
use Rattle.walk_scopes.specs.declared.Home.TheVariants.{Def, Method}
use Rattle.walk_scopes.proofs.Defined.{defined_block}
use Rattle.read_row.specs.Worded.{Somes, WordedE, WordedEs, WordedAs, WordedS, WordedSs, WordedMs}
use Rattle.walk_blocks.specs.BlocksModel.{opened}
use Rattle.walk_tree.specs.WalkModel.{Walk, walk, popped, next_target, target_at, walk_expr, walk_stmt}
use Rattle.proof_walk.specs.Table.{ParamWord, method, Table, Here}
use Rattle.proof_walk.specs.Notes.{OwnNames, no_own_names, notes_s, notes_ss, notes_d, Told, ToldS, ToldSs}
use Rattle.proof_walk.proofs.State.{home_number, At}
use Rattle.proof_walk.proofs.PartRows.{here_tail, here_left, here_past, row_few, row_kind, row_after, row_number, row_small, row_params, row_after_e, row_after_s}
use Rattle.proof_walk.proofs.WordTests.{simple_test, block_test}
use Rattle.proof_walk.proofs.Assigned.{Assigns, stmts_first, stmts_rest, assign_still, assign_target, block_still, block_body, choice_still, choice_body, choice_elifs, choice_else, for_still, for_body, none_still, cut, def_body, locals}
use Rattle.proof_walk.proofs.Opened.{OpenedDef, opened_def, opened_method}
use Rattle.proof_walk.proofs.Exprs.{Still, Flat, word_e, expr_walked}
use Rattle.proof_walk.proofs.Done.{Done, Comes, Spans, comes_then, done_then, done_link, done_skip, done_fault, done_bind, done_to, Looped, looped_one, looped_then, looped_to, looped_end}
use Rattle.proof_walk.proofs.Targets.{target}
use Rattle.proof_walk.proofs.Nested.{Entry, entry_def, entry_method, Block, block_of, known_def, known_method, popped_back, enter, nested}
use Rattle.proof_walk.proofs.ByKind.{some_stmt, stmt_kind, plain, kids, kids_end, at_plain, at_assign, at_for, at_def, at_class, at_method, at_attr, line_stmt, line_expr}

-- what the def at row r is opened with, where z is the buffer then
abbrev def_own : Line → Stmts → ℕ → List ℕ → OwnNames
def_own l bd r z = record { notes = notes_d l bd r; flags = flag_at z }

module _ (text : Bytes) (rows : List Row) (num : Bytes → ℕ) where
  -- ---- in one block
  module _ {own : OwnNames} {s : ScopeStack} {v : Env} (b : Block text rows num own s v) (k : ℕ) where
    abbrev D : List Part → List Fault → List Fault → List ℕ → List ℕ → ℕ → ℕ → Type 0
    D = Done text rows num own (top_of s) v

    abbrev L : ℕ → List Part → List Fault → List Fault → List ℕ → ℕ → ℕ → Type 0
    L stop = Looped text rows num own (top_of s) v (kids text k s stop)

    abbrev C : Walk → List Part → List Fault → List Fault → List ℕ → ℕ → ℕ → Type 0
    C = Comes text rows num own s v

    abbrev R : List Part → List Fault → List ℕ → ℕ → Type 0
    R = At text rows num own (top_of s) [] v

    -- the row of a statement that has no fault and binds nothing
    head : {vs : List Part} {seen : List Fault} {w : List ℕ} {r : ℕ} → R vs seen w r → suc r ≤ s.end → D vs seen [] w w r (suc r)
    head h l = done_skip h (omega arith) (omega (arith, b.room))

    -- x is a loop over what is left of the statement, after some rows
    ended : {x : Walk} {us vs : List Part} {seen fs gs : List Fault} {w v₁ : List ℕ} {r m stop : ℕ} → x ≡ kids text k s stop m v₁ → D us seen fs w v₁ r m
        → L stop vs (seen_after seen fs) gs v₁ m stop → C x vs seen (fs ++ gs) w r stop
    ended {stop = stop} p d g = record {
      there = g.there;
      goes = p ∙ g.goes ∙ kids_end text k s stop stop g.there (omega arith);
      done = done_then d g.done;
    }

    -- lines of a loop, and then others
    looped_on : (stop : ℕ) {us vs : List Part} {seen fs gs : List Fault} {w : List ℕ} {r m e : ℕ} → L stop us seen fs w r m
        → ((z : List ℕ) → R us (seen_after seen fs) z m → L stop vs (seen_after seen fs) gs z m e) → L stop vs seen (fs ++ gs) w r e
    looped_on stop g rest = looped_then g.goes g.done (rest g.there g.done.after)

    -- a statement as a line of a loop, and then others
    looped_stmt : {stop : ℕ} {us vs : List Part} {seen fs gs : List Fault} {w : List ℕ} {r m e : ℕ} → C (walk_stmt k text r (walk s w)) us seen fs w r m → r < stop → after_row w r ≡ m → kind_at w r < 16
        → ((z : List ℕ) → R us (seen_after seen fs) z m → L stop vs (seen_after seen fs) gs z m e) → L stop vs seen (fs ++ gs) w r e
    looped_stmt {stop} {w = w} {r} {m} c l after kind rest = looped_then (line_stmt text k s stop r w l m after kind c.there c.goes) c.done (rest c.there c.done.after)

    expr_done : (e : Expr) (r n : ℕ) (st : State) {seen : List Fault} {w : List ℕ} → Spans (len_e e) k r n s.end → Here rows r (rows_e e) → WordedE e
        → R st.view seen w r → Still own v st r (r + len_e e) → (v.home ≡ in_def → Told rows own r (r + len_e e)) → D st.view seen (raw_e e n value [] v st) w (walk_expr k text false (top_of s) r w) r (r + len_e e)
    expr_done e r n st f here d h still told =
        done_to refl (ap (λ i. raw_e e i value [] v st) (sym f.line)) (expr_walked k r st b.flat h e here d f.depth f.inside b.room still told)

    -- the same as a line of a loop
    expr_looped : (e : Expr) (r n stop : ℕ) (st : State) {seen : List Fault} {w : List ℕ} → Spans (len_e e) k r n stop → stop ≤ s.end
        → Here rows r (rows_e e) → WordedE e → R st.view seen w r → Still own v st r (r + len_e e) → (v.home ≡ in_def → Told rows own r (r + len_e e)) → L stop st.view seen (raw_e e n value [] v st) w r (r + len_e e)
    expr_looped e r n stop st {w = w} f m here d h still told =
        looped_one (line_expr text k s stop r w (omega arith) (r + len_e e) (row_after_e h.table e here) (word_e h.table e here d))
        (expr_done e r n st (omega arith) here d h still told)

    exprs_looped : (es : Exprs) (r n stop : ℕ) {st : State} {seen : List Fault} {w : List ℕ} → Spans (len_es es) k r n stop → stop ≤ s.end
        → Here rows r (rows_es es) → WordedEs es → R st.view seen w r → (v.home ≡ in_def → Assigns own.notes st.assigned [] r (r + len_es es))
        → (v.home ≡ in_def → Told rows own r (r + len_es es))
        → L stop st.view seen (raw_es es n [] v st) w r (r + len_es es)
    exprs_looped enil r n stop {w = w} f m here d h by told =
        let e : r ≡ r + 0 = omega arith in
        looped_one (ap (λ i. kids text k s stop i w) e) (done_skip h (omega arith) (omega (arith, b.room)))
    exprs_looped (econs e es) r n stop {st} {seen} {w} f m here d h by told =
        let first = expr_looped e r n stop st (omega arith) m (here_left (rows_e e) (rows_es es) here) d.0 h (λ i x z u y. none_still (by i) x z u (omega arith)) (λ i z u y. told i z u (omega arith)) in
        looped_to (omega arith) refl (looped_then first.goes first.done
        (exprs_looped es (r + len_e e) (n + len_e e) stop (omega arith) m (here_past (sized_e e) (rows_es es) here) d.1 (first.done.after)
        (λ i. cut (by i) (r + len_e e) (r + len_e e + len_es es) (omega arith) (omega arith)) (λ i z u y. told i z (omega arith) (omega arith))))

    -- the lines below the row r of a plain statement are one loop
    plain_done : (l : Line) (below : ℕ) (part : List Row) (r : ℕ) {us vs : List Part} {seen fs : List Fault} {w : List ℕ} → plain l.word ≡ true → Here rows r (row l below ∷ part)
        → R us seen w r → D us seen [] w w r (suc r) → {e : ℕ} → e ≡ r + suc below → L (r + suc below) vs seen fs w (suc r) e
        → C (walk_stmt (suc k) text r (walk s w)) vs seen fs w r (r + suc below)
    plain_done l below part r {w = w} p here h d q g =
        ended (at_plain text k s r w (row_few h.table here) (r + suc below) (row_after h.table here) (ap plain (row_kind h.table here) ∙ p)) d (looped_to q refl g)

    -- a plain statement whose first line is an expression
    test_done : (l : Line) (e : Expr) (below : ℕ) (part : List Row) (r n : ℕ) (st : State) {vs : List Part} {seen gs : List Fault} {w : List ℕ} → plain l.word ≡ true
        → Spans (suc below) (suc k) r n s.end → len_e e ≤ below → Here rows r (row l below ∷ (rows_e e ++ part)) → WordedE e → R st.view seen w r → Still own v st (suc r) (suc r + len_e e)
        → (v.home ≡ in_def → Told rows own r (suc r + len_e e))
        → ((z : List ℕ) → R st.view (seen_after seen (raw_e e (suc n) value [] v st)) z (suc r + len_e e)
        → L (r + suc below) vs (seen_after seen (raw_e e (suc n) value [] v st)) gs z (suc r + len_e e) (r + suc below))
        → C (walk_stmt (suc k) text r (walk s w)) vs seen (raw_e e (suc n) value [] v st ++ gs) w r (r + suc below)
    test_done l e below part r n st {vs} {seen} {gs} {w} p f o here d h still told rest =
        let top : D st.view seen [] w w r (suc r) = head h (omega arith) in
        let h₁ : R st.view seen w (suc r) = top.after in
        let test = expr_looped e (suc r) (suc n) (r + suc below) st (omega arith) f.inside (here_left (rows_e e) part (here_tail here)) d h₁ still (λ i z u y. told i z (omega arith) y) in
        plain_done l below (rows_e e ++ part) r p here h top refl (looped_then test.goes test.done (rest test.there test.done.after))

    -- ---- a block: x pops after its lines, which are walked in its own scope; p is what was done at its row before the row was linked
    block_comes : (home : BlockHome) (r stop : ℕ) {x : Walk} {us ps zs vs : List Part} {seen fs gs : List Fault} {w w₁ w₂ : List ℕ} {own' : OwnNames} {v' : Env} → r < length rows → R us seen w r
        → (p : D vs seen fs w w₁ r (suc r)) → Entry num r stop ps (put_link w₁ r s.row) w₂ → Flat (top_of (block_of home r stop)) v' → stop ≤ s.end
        → x ≡ popped (kids text k (block_of home r stop) stop (suc r) w₂)
        → Looped text rows num own' (top_of (block_of home r stop)) v' (kids text k (block_of home r stop) stop) zs (seen_after seen fs) gs w₂ (suc r) stop
        → C x vs seen (fs ++ gs) w r stop
    block_comes home r stop {vs = vs} {seen} {fs} {gs} {w} {w₁} in_rows h p q flat m e g =
        let few : r < 4_096 = omega (arith, h.table.few) in
        let whole : D vs seen (fs ++ gs) w g.there r stop = nested b h (done_link s.row in_rows p) q refl flat g.done m in
        record {
          there = g.there;
          goes =
              e ∙ ap popped (g.goes ∙ kids_end text k (block_of home r stop) stop stop g.there (omega arith))
              ∙ popped_back home stop b whole.after.table few
              (g.done.early r (omega arith) ∙ q.early r (omega arith) ∙ flag_same w₁ r s.row p.after.table.room few b.few);
          done = whole;
        }

    -- ---- a def: its name is bound, and its body is a block of its own
    abbrev def_scope : Line → Stmts → ℕ → ScopeStack
    def_scope l bd r = block_of Def r (r + len_s (def l bd))

    def_block : (l : Line) (bd : Stmts) (r : ℕ) (z : List ℕ) → Here rows r (rows_s (def l bd)) → l.word ≡ 5 → r + len_s (def l bd) ≤ s.end → length rows ≤ 4_096
        → Block text rows num (def_own l bd r z) (def_scope l bd r) (def_env l bd)
    def_block l bd r z here word m few = record {
      flat = record { outer = refl; inner = refl; params = refl };
      room = omega (arith, b.room);
      few = omega (arith, b.room);
      known = λ table. known_def table here word;
    }

    def_done : (l : Line) (bd : Stmts) (r : ℕ) {us vs : List Part} {seen gs : List Fault} {w : List ℕ} (here : Here rows r (rows_s (def l bd))) (d : WordedS (def l bd))
        (m : r + len_s (def l bd) ≤ s.end) → R us seen w r
        → ((z : List ℕ) → At text rows num (def_own l bd r z) (top_of (def_scope l bd r)) [] (def_env l bd) (l.params ++ (l.name ∷ us)) seen z (suc r)
        → ToldSs rows (def_own l bd r z) bd (suc r)
        → Looped text rows num (def_own l bd r z) (top_of (def_scope l bd r)) (def_env l bd) (kids text k (def_scope l bd r) (r + len_s (def l bd))) vs seen gs z (suc r) (r + len_s (def l bd)))
        → C (walk_stmt (suc k) text r (walk s w)) (l.name ∷ us) seen gs w r (r + len_s (def l bd))
    def_done l bd r {us} {vs} {seen} {gs} {w} here d m h rest =
        block_comes Def r stop inside_rows h p q (record { outer = refl; inner = refl; params = refl }) m
        (at_def text k s r w (row_few at here) stop (row_after at here) (row_kind at here ∙ d.0) (num l.name.bytes) (row_number at here d.1.0) top (known_def p.after.table here d.0))
        (rest w₃ inside (o.told p'.after.words))
      where
        stop : ℕ
        stop = r + len_s (def l bd)

        top : ScopeStack
        top = def_scope l bd r

        inside_rows : r < length rows
        inside_rows = omega (arith, b.room)

        at : Table text rows num w
        at = h.table

        -- the name is bound; the row is linked; the block is entered
        w₁ : List ℕ
        w₁ = defined (top_of s) w (num l.name.bytes)

        w₂ : List ℕ
        w₂ = put_link w₁ r s.row

        w₃ : List ℕ
        w₃ = opened text (top_of top) r stop w₂

        p : D (l.name ∷ us) seen [] w w₁ r (suc r)
        p = done_bind h l.name refl (omega (arith, b.room, at.few)) (row_small at here d.1.0) (omega arith) (omega (arith, b.room))

        p' : D (l.name ∷ us) seen [] w w₂ r (suc r)
        p' = done_link s.row inside_rows p

        -- no stamp comes after this row yet
        low : (x : Bytes) → num x < 4_096 → stamp_at w₂ (num x) ≤ r
        low x i =
            omega (
              arith,
              flag_stamp w₁ r s.row (num x),
              subst (λ z. stamp_at z (num x) ≤ r) (sym (defined_block (top_of s) w (num l.name.bytes) refl))
                  (omega (arith, raised_block_fourth w (num l.name.bytes) s.end (num x), h.low x i)),
            )

        o : OpenedDef rows num stop r l.params (notes_d l bd r) bd w₂ w₃
        o = opened_def (top_of top) r refl refl l bd p'.after.table here d refl (omega (arith, b.room, at.few)) low

        q : Entry num r stop l.params w₂ w₃
        q = entry_def p'.after.words o

        inside : At text rows num (def_own l bd r w₃) (top_of top) [] (def_env l bd) (l.params ++ (l.name ∷ us)) seen w₃ (suc r)
        inside = enter b (def_own l bd r w₃) (def_env l bd) Def p' q m refl refl (λ _ i. refl) (λ _ x. sym (locals x l bd r)) (λ no. absurd (no refl))

    -- ---- a method of a class in the module: a block too, of which nothing is noted
    abbrev method_scope : Stmts → ℕ → ScopeStack
    method_scope bd r = block_of Method r (r + suc (len_ss bd))

    method_block : (l : Line) (bd : Stmts) (part : List Row) (r : ℕ) → Here rows r (row l (len_ss bd) ∷ part) → l.word ≡ 14 → r + suc (len_ss bd) ≤ s.end → length rows ≤ 4_096
        → Block text rows num no_own_names (method_scope bd r) method_env
    method_block l bd part r here word m few = record {
      flat = record { outer = refl; inner = refl; params = refl };
      room = omega (arith, b.room);
      few = omega (arith, b.room);
      known = λ table. known_method table here word;
    }

    method_done : (l c : Line) (bd : Stmts) (part : List Row) (r n : ℕ) {us vs : List Part} {seen gs : List Fault} {w : List ℕ} (m : r + suc (len_ss bd) ≤ s.end) → n ≡ suc (suc r)
        → Here rows r (row l (len_ss bd) ∷ part) → l.word ≡ 14 → Somes l.params → v.home ≡ in_module → R us seen w r
        → ((z : List ℕ) → At text rows num no_own_names (top_of (method_scope bd r)) [] method_env (l.params ++ us) (seen_after seen (self_fault n l c)) z (suc r)
        → Looped text rows num no_own_names (top_of (method_scope bd r)) method_env (kids text k (method_scope bd r) (r + suc (len_ss bd)))
        vs (seen_after seen (self_fault n l c)) gs z (suc r) (r + suc (len_ss bd)))
        → C (walk_stmt (suc k) text r (walk s w)) us seen (self_fault n l c ++ gs) w r (r + suc (len_ss bd))
    method_done l c bd part r n {us} {vs} {seen} {gs} {w} m row here word some home h rest =
        block_comes Method r stop inside_rows h p q (record { outer = refl; inner = refl; params = refl }) m
        (at_method text k s r w (row_few at here) stop (row_after at here) (row_kind at here ∙ word) l.params (row_params at here (subst ParamWord (sym word) method)) top
        (known_method p.after.table here word))
        (rest w₃ inside)
      where
        stop : ℕ
        stop = r + suc (len_ss bd)

        top : ScopeStack
        top = method_scope bd r

        inside_rows : r < length rows
        inside_rows = omega (arith, b.room)

        at : Table text rows num w
        at = h.table

        w₁ : List ℕ
        w₁ = cond (lacks_self l.params) (put_slot w r 15) w

        w₂ : List ℕ
        w₂ = put_link w₁ r s.row

        w₃ : List ℕ
        w₃ = opened text (top_of top) r stop w₂

        p : D us seen (self_fault n l c) w w₁ r (suc r)
        p = go (lacks_self l.params)
          where
            go : (t : Bool) → D us seen (unless (not t) (selfless n l c)) w (cond t (put_slot w r 15) w) r (suc r)
            go true = done_fault h (selfless n l c) refl row (omega arith) (omega arith) (omega arith) (omega (arith, b.room))
            go false = head h (omega arith)

        p' : D us seen (self_fault n l c) w w₂ r (suc r)
        p' = done_link s.row inside_rows p

        q : Entry num r stop l.params w₂ w₃
        q = entry_method p'.after.words p'.after.low
            (opened_method (top_of top) refl (λ i. omega arith) p'.after.table here word some (omega (arith, b.room, at.few)) stop)

        inside : At text rows num no_own_names (top_of top) [] method_env (l.params ++ us) (seen_after seen (self_fault n l c)) w₃ (suc r)
        inside = enter b no_own_names method_env Method p' q m refl refl none none (λ _ x. refl)
          where
            none : {A : Type 0} → in_method ≡ in_def → A
            none i = absurd (omega (arith, ap home_number i))

    -- ---- attributes are stepped over
    attrs_over : (ats : Attrs) (r stop : ℕ) {w : List ℕ} → Table text rows num w → Here rows r (rows_as ats) → WordedAs ats → r + len_as ats ≤ stop
        → kids text k s stop r w ≡ kids text k s stop (r + len_as ats) w
    attrs_over anil r stop {w} t here d l = let e : r ≡ r + 0 = omega arith in ap (λ i. kids text k s stop i w) e
    attrs_over (acons g x ats) r stop {w} t here d l =
        let c : kind_at w r ≡ 15 = row_kind t here ∙ d.0 in
        let e : suc r + len_e x + len_as ats ≡ r + suc (len_e x + len_as ats) = omega arith in
        line_stmt text k s stop r w (omega arith) (suc r + len_e x) (row_after t here ∙ omega arith) (omega arith) w (at_attr text k s r w (row_few t here) c)
        ∙ attrs_over ats (suc r + len_e x) stop t (here_past (sized_e x) (rows_as ats) (here_tail here)) d.1.1 (omega arith)
        ∙ ap (λ i. kids text k s stop i w) e

    -- ---- a class: its name is bound; in the module its methods are walked
    class_done : (l : Line) (ms : Methods) (ats : Attrs) (r : ℕ) {vs : List Part} {seen fs : List Fault} {w : List ℕ} → Here rows r (rows_s (class l ms ats)) → WordedS (class l ms ats)
        → r + len_s (class l ms ats) ≤ s.end → R vs seen w r
        → ((z : List ℕ) → v.home ≡ in_module → R (l.name ∷ vs) seen z (suc r)
        → L (r + len_s (class l ms ats)) (l.name ∷ vs) seen fs z (suc r) (suc r + len_ms ms))
        → C (walk_stmt (suc k) text r (walk s w)) (l.name ∷ vs) seen (in_classes v.home fs) w r (r + len_s (class l ms ats))
    class_done l ms ats r {vs} {seen} {fs} {w} here d m h rest = go v.home refl
      where
        stop : ℕ
        stop = r + len_s (class l ms ats)

        at : Table text rows num w
        at = h.table

        w₁ : List ℕ
        w₁ = defined (top_of s) w (num l.name.bytes)

        named : (e : ℕ) → r ≤ e → e ≤ stop → D (l.name ∷ vs) seen [] w w₁ r e
        named e p q = done_bind h l.name refl (omega (arith, b.room, at.few)) (row_small at here d.1.0) p (omega (arith, b.room))

        -- the test for the module
        walks : {hm : Home} → v.home ≡ hm → walk_stmt (suc k) text r (walk s w) ≡ cond (eqb (home_number hm) module') (kids text k s stop (suc r) w₁) (walk s w₁)
        walks e =
            at_class text k s r w (row_few at here) stop (row_after at here) (row_kind at here ∙ d.0) (num l.name.bytes) (row_number at here d.1.0)
            ∙ ap (λ n. cond (eqb n module') (kids text k s stop (suc r) w₁) (walk s w₁)) (h.home ∙ ap home_number e)

        go : (hm : Home) → v.home ≡ hm → C (walk_stmt (suc k) text r (walk s w)) (l.name ∷ vs) seen (in_classes hm fs) w r stop
        go in_def e = record { there = w₁; goes = walks e; done = named stop (omega arith) (omega arith) }
        go in_method e = record { there = w₁; goes = walks e; done = named stop (omega arith) (omega arith) }
        go in_module e =
            let top : D (l.name ∷ vs) seen [] w w₁ r (suc r) = named (suc r) (omega arith) (omega arith) in
            let h₁ : R (l.name ∷ vs) seen w₁ (suc r) = top.after in
            let ways : L stop (l.name ∷ vs) seen fs w₁ (suc r) (suc r + len_ms ms) = rest w₁ e h₁ in
            let h₂ : R (l.name ∷ vs) (seen_after seen fs) ways.there (suc r + len_ms ms) = ways.done.after in
            let over : kids text k s stop (suc r + len_ms ms) ways.there ≡ walk s ways.there =
            attrs_over ats (suc r + len_ms ms) stop h₂.table (here_past (sized_ms ms) (rows_as ats) (here_tail here)) d.1.1.1 (omega arith)
            ∙ kids_end text k s stop (suc r + len_ms ms + len_as ats) ways.there (omega arith) in
            record {
              there = ways.there;
              goes = walks e ∙ ways.goes ∙ over;
              done = done_to refl (append-nil fs) (done_then top (done_then ways.done (done_skip h₂ (omega arith) (omega (arith, b.room)))));
            }

  -- ---- statements
  mutual
    stmt : (t : Stmt) (k r n : ℕ) {own : OwnNames} {s : ScopeStack} {v : Env} (b : Block text rows num own s v) {st : State} {seen : List Fault} {w : List ℕ}
        → Spans (len_s t) (suc k) r n s.end → Here rows r (rows_s t) → WordedS t → At text rows num own (top_of s) [] v st.view seen w r
        → (v.home ≡ in_def → Assigns own.notes st.assigned (notes_s t r) r (r + len_s t)) → (v.home ≡ in_def → ToldS rows own t r)
        → Comes text rows num own s v (walk_stmt (suc k) text r (walk s w)) (after_s t st).view seen (raw_s t n [] v st) w r (r + len_s t)
    stmt (simple l es) k r n b {st} f here d h by told =
        let top = head b k h (omega arith) in
        plain_done b k l (len_es es) (rows_es es) r (simple_test plain refl d.0) here h top (omega arith)
        (exprs_looped b k es (suc r) (suc n) (r + suc (len_es es)) (omega arith) f.inside (here_tail here) d.1 top.after
        (λ i. cut (by i) (suc r) (suc r + len_es es) (omega arith) (omega arith)) (λ i z u y. told i z (omega arith) (omega arith)))
    stmt (assign l e t) k r n {own} {s} {v} b {st} {seen} {w} f here d h by told =
        let stop : ℕ = r + suc (len_e e + len_e t) in
        let at : Table text rows num w = h.table in
        let top = head b k h (omega arith) in
        let h₁ = top.after in
        let left : Here rows (suc r) (rows_e e) = here_left (rows_e e) (rows_e t) (here_tail here) in
        let val = expr_done b k e (suc r) (suc n) st (omega arith) left d.1.0 h₁ (λ i. assign_still l e t (by i)) (λ i z u y. told i z (omega arith) (omega arith)) in
        let h₂ = val.after in
        record {
          there = rows_to next_target (target_at (walk_expr k text false (top_of s)) (top_of s)) (suc r + len_e e) stop (walk_expr k text false (top_of s) (suc r) w);
          goes = at_assign text k s r w (row_few at here) stop (row_after at here) (row_kind at here ∙ d.0) (suc r + len_e e) (row_after_e at e left);
          done =
              done_then top (done_then val (looped_end
              (λ u. rows_end next_target (target_at (walk_expr k text false (top_of s)) (top_of s)) stop stop u (omega arith))
              (looped_to (omega arith) refl
              (target b.flat b.room k stop f.inside t (suc r + len_e e) (suc n + len_e e) (omega arith)
              (here_past (sized_e e) (rows_e t) (here_tail here)) d.1.1 h₂ (λ i. assign_target l e t (by i))
              (λ i z u y. told i z (omega arith) (omega arith))))));
        }
    stmt (block l e bd) k r n b {st} f here d h by told =
        test_done b k l e (len_e e + len_ss bd) (rows_ss bd) r n st (block_test plain refl d.0) f (omega arith) here d.1.0 h
        (λ i. block_still l e bd (by i)) (λ i. (told i).0)
        (λ u h. looped_to (omega arith) refl
        (stmts bd k (suc r + len_e e) (suc n + len_e e) (r + suc (len_e e + len_ss bd)) b (omega arith) f.inside
        (here_past (sized_e e) (rows_ss bd) (here_tail here)) d.1.1 h (λ i. block_body l e bd (by i)) (λ i. (told i).1)))
    stmt (choice l e bd ks es) k r n {own} {s} {v} b {st} f here d h by told =
        let below : ℕ = len_e e + (len_ss bd + (len_ss ks + len_ss es)) in
        let rest : Here rows (suc r + len_e e) (rows_ss bd ++ (rows_ss ks ++ rows_ss es)) = here_past (sized_e e) (rows_ss bd ++ (rows_ss ks ++ rows_ss es)) (here_tail here) in
        let last : Here rows (suc r + len_e e + len_ss bd) (rows_ss ks ++ rows_ss es) = here_past (sized_ss bd) (rows_ss ks ++ rows_ss es) rest in
        test_done b k l e below (rows_ss bd ++ (rows_ss ks ++ rows_ss es)) r n st (ap plain d.0) f (omega arith) here d.1.0 h
        (λ i. choice_still l e bd ks es st (by i)) (λ i. (told i).0)
        (λ u h.
        looped_to (omega arith) refl (looped_on b k (r + suc below)
        (stmts bd k (suc r + len_e e) (suc n + len_e e) (r + suc below) b (omega arith) f.inside
        (here_left (rows_ss bd) (rows_ss ks ++ rows_ss es) rest) d.1.1.0 h (λ i. choice_body l e bd ks es st (by i)) (λ i. (told i).1.0))
        (λ z h₁. looped_on b k (r + suc below)
        (stmts ks k (suc r + len_e e + len_ss bd) (suc n + len_e e + len_ss bd) (r + suc below) b (omega arith) f.inside
        (here_left (rows_ss ks) (rows_ss es) last) d.1.1.1.0 h₁ (λ i. choice_elifs l e bd ks es st (by i)) (λ i. (told i).1.1.0))
        (λ z₂ h₂.
        stmts es k (suc r + len_e e + len_ss bd + len_ss ks) (suc n + len_e e + len_ss bd + len_ss ks) (r + suc below) b (omega arith) f.inside
        (here_past (sized_ss ks) (rows_ss es) last) d.1.1.1.1 h₂ (λ i. choice_else l e bd ks es st (by i)) (λ i. (told i).1.1.1)))))
    stmt (for l e bd) k r n {own} {s} {v} b {st} {seen} {w} f here d h by told =
        let stop : ℕ = r + suc (len_e e + len_ss bd) in
        let at : Table text rows num w = h.table in
        let top = head b k h (omega arith) in
        let h₁ = top.after in
        let left : Here rows (suc r) (rows_e e) = here_left (rows_e e) (rows_ss bd) (here_tail here) in
        let val = expr_done b k e (suc r) (suc n) st (omega arith) left d.1.1.0 h₁ (λ i. for_still l e bd (by i)) (λ i z u y. (told i).0 z (omega arith) y) in
        let h₂ = val.after in
        let name = done_bind h₂ {e = suc r + len_e e} l.name refl (omega (arith, b.room, at.few)) (row_small at here d.1.0) (omega arith) (omega (arith, b.room)) in
        let way = at_for text k s r w (row_few at here) stop (row_after at here) (row_kind at here ∙ d.0) (suc r + len_e e) (row_after_e at e left) (num l.name.bytes) (row_number at here d.1.0) in
        comes_then top (comes_then val (ended b k way name
        (looped_to (omega arith) refl
        (stmts bd k (suc r + len_e e) (suc n + len_e e) stop b (omega arith) f.inside
        (here_past (sized_e e) (rows_ss bd) (here_tail here)) d.1.1.1 name.after (λ i. for_body l e bd (by i)) (λ i. (told i).1)))))
    stmt (def l bd) k r n {s = s} b {st} f here d h by told =
        def_done b k l bd r here d f.inside h
        (λ u h told. looped_to (omega arith) refl
        (stmts bd k (suc r) (suc n) (r + len_s (def l bd)) (def_block b k l bd r u here d.0 f.inside h.table.few) (omega arith) (omega arith)
        (here_tail here) d.1.1.1 h (λ _. def_body l bd r (suc r + len_ss bd) (omega (arith, b.room, h.table.few))) (λ _. told)))
    stmt (class l ms ats) k r n b {st} f here d h by told =
        class_done b k l ms ats r here d f.inside h
        (λ u i h. methods ms k (suc r) (suc n) (r + len_s (class l ms ats)) l b (naming l.name st) (omega arith) f.inside i (here_left (rows_ms ms) (rows_as ats) (here_tail here)) d.1.1.0 h)

    pub stmts : (ts : Stmts) (k r n stop : ℕ) {own : OwnNames} {s : ScopeStack} {v : Env} (b : Block text rows num own s v) {st : State} {seen : List Fault} {w : List ℕ}
        → Spans (len_ss ts) k r n stop → stop ≤ s.end → Here rows r (rows_ss ts) → WordedSs ts → At text rows num own (top_of s) [] v st.view seen w r
        → (v.home ≡ in_def → Assigns own.notes st.assigned (notes_ss ts r) r (r + len_ss ts)) → (v.home ≡ in_def → ToldSs rows own ts r)
        → Looped text rows num own (top_of s) v (kids text k s stop) (after_ss ts st).view seen (raw_ss ts n [] v st) w r (r + len_ss ts)
    stmts snil k r n stop {s = s} b {st} {w = w} f m here d h by told =
        let e : r ≡ r + 0 = omega arith in
        looped_one (ap (λ i. kids text k s stop i w) e) (done_skip h (omega arith) (omega (arith, b.room)))
    stmts (scons t ts) k r n stop {own} {s} {v} b {st} {seen} {w} f m here d h by told =
        let some : 0 < len_s t = some_stmt t in
        let less : suc (k - 1) ≡ k = omega arith in
        looped_to (omega arith) refl (looped_stmt b k
        (subst (λ i. Comes text rows num own s v (walk_stmt i text r (walk s w)) (after_s t st).view seen (raw_s t n [] v st) w r (r + len_s t)) less
        (stmt t (k - 1) r n b (omega arith) (here_left (rows_s t) (rows_ss ts) here) d.0 h (λ i. stmts_first t ts (by i)) (λ i. (told i).0)))
        (omega arith) (row_after_s h.table t (here_left (rows_s t) (rows_ss ts) here)) (stmt_kind h.table t (here_left (rows_s t) (rows_ss ts) here) d.0)
        (λ z h₁.
        stmts ts k (r + len_s t) (n + len_s t) stop b (omega arith) m (here_past (sized_s t) (rows_ss ts) here) d.1
        h₁ (λ i. stmts_rest t ts st (by i)) (λ i. (told i).1)))

    methods : (ms : Methods) (k r n stop : ℕ) (c : Line) {own : OwnNames} {s : ScopeStack} {v : Env} (b : Block text rows num own s v) (st : State) {seen : List Fault} {w : List ℕ}
        → Spans (len_ms ms) k r n stop → stop ≤ s.end → v.home ≡ in_module → Here rows r (rows_ms ms) → WordedMs ms → At text rows num own (top_of s) [] v st.view seen w r
        → Looped text rows num own (top_of s) v (kids text k s stop) st.view seen (raw_ms ms n c st) w r (r + len_ms ms)
    methods mnil k r n stop c {s = s} b st {w = w} f m i here d h =
        let e : r ≡ r + 0 = omega arith in
        looped_one (ap (λ i. kids text k s stop i w) e) (done_skip h (omega arith) (omega (arith, b.room)))
    methods (mcons g bd ms) k r n stop c {own} {s} {v} b st {seen} {w} f m i here d h =
        let less : suc (k - 1) ≡ k = omega arith in
        let u : r + suc (len_ss bd) ≤ s.end = omega arith in
        let e : r + suc (len_ss bd) + len_ms ms ≡ r + suc (len_ss bd + len_ms ms) = omega arith in
        let a : suc r + len_ss bd ≡ r + suc (len_ss bd) = omega arith in
        let body : List Fault = raw_ss bd (suc n) [] method_env (entered g.params st) in
        looped_to e (append_assoc (self_fault n g c) body (raw_ms ms (suc n + len_ss bd) c st))
        (looped_stmt b k
        (subst (λ i. Comes text rows num own s v (walk_stmt i text r (walk s w)) st.view seen (self_fault n g c ++ body) w r (r + suc (len_ss bd))) less
        (method_done b (k - 1) g c bd (rows_ss bd ++ rows_ms ms) r n u f.line here d.0 d.1.1.0 i h
        (λ z h. looped_to a refl
        (stmts bd (k - 1) (suc r) (suc n) (r + suc (len_ss bd)) (method_block b (k - 1) g bd (rows_ss bd ++ rows_ms ms) r here d.0 u h.table.few) (omega arith) (omega arith)
        (here_left (rows_ss bd) (rows_ms ms) (here_tail here)) d.1.1.1.0 h (λ y. absurd (omega (arith, ap home_number y))) (λ y. absurd (omega (arith, ap home_number y)))))))
        (omega arith) (row_after h.table here) (omega (arith, row_kind h.table here, d.0))
        (λ z h₁.
        methods ms k (r + suc (len_ss bd)) (suc n + len_ss bd) stop c b st (omega arith) m i
        (subst (λ j. Here rows j (rows_ms ms)) a (here_past (sized_ss bd) (rows_ms ms) (here_tail here))) d.1.1.1.1 h₁))
