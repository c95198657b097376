-- Each fault of a tree is right by its rows. By induction over the tree: a part stands at its row, and around it are the outermost of its
-- lambdas, if it has any, and in the module no class.
use Rattle.std.proofs.Common.{ℕ, suc, ◌+◌, ◌≤◌, ◌<◌, arith, ◌≡◌, refl, sym, ap, ◌∙◌, true, not, List, [], ◌∷◌, ◌++◌, length}
use Rattle.spec_text.specs.Bytes.{mem}
use Rattle.spec_text.specs.Tree.{Line, Expr, Exprs, Stmt, Stmts, Methods, var, node, access, tuple, call, lambda, enil, econs, simple, assign, block, choice, for, def, class, snil, scons, mnil, mcons, len_e, len_es, len_s, len_ss, len_ms}
use Rattle.spec_faults.specs.Position.{Placed, Home, in_module, in_def, in_method, Use, value, callee}
use Rattle.spec_faults.specs.Faults.{Fault, lacks_self, refused_at}
use Rattle.spec_faults.proofs.Lists.{All, none, also, all_append}
use Rattle.spec_faults.proofs.ListingWalk.{State, Env, assigning, naming, entered, after_t, after_s, after_ss, with_params, def_env, method_env, in_classes}
use Rattle.spec_faults.proofs.TextWalk.{raw_e, raw_es, raw_t, raw_ts, raw_s, raw_ss, raw_ms}
use Rattle.work_rows.specs.Rows.{Row, row, rows_e, rows_es, rows_as, rows_s, rows_ss, rows_ms}
use Rattle.work_rows.proofs.Lengths.{Sized, sized_e, sized_s, sized_ss}
use Rattle.read_row.specs.Worded.{WordedE, WordedEs, WordedS, WordedSs, WordedMs}
use Rattle.proof_walk.specs.Table.{Here}
use Rattle.proof_walk.proofs.PartRows.{head_row, here_tail, here_left, here_past}
use Rattle.proof_walk.proofs.WordTests.{node_test, access_test, simple_test, block_test}
use Rattle.proof_order.proofs.Reach.{plain, not_plain, Fits, fits_e, fits_s, fits_ss, word_in, end_in, Free, free_in, free_past}
use Rattle.proof_order.proofs.Right.{Right, right_unless, Stands, Used, Under, clear, under, right_refused, right_selfless, right_judged}

-- ---- the first row of a part
module _ {rows : List Row} {i m : ℕ} {l : Line} {part : List Row} (h : Here rows i (row l m ∷ part)) where
  word_here : word_in rows i ≡ l.word
  word_here = ap (λ (x : Row). x.line.word) (head_row h).1

  end_here : end_in rows i ≡ i + suc m
  end_here = ap (λ (x : Row). i + suc x.below) (head_row h).1

  stands : {n : ℕ} → n ≡ suc (suc i) → Stands rows (record { number = n; line = l }) i
  stands q = record { room = (head_row h).0; number = q; line = ap (λ (x : Row). x.line) (head_row h).1 }

  free_row : {k : ℕ} → (l.word ≡ k → ⊥) → Free rows k i → Free rows k (suc i)
  free_row d f = free_in f (λ e. d (sym word_here ∙ e))

  -- ---- lambdas around
  under_row : {ls : List Placed} {b : ℕ} → (l.word ≡ 28 → ⊥) → Under rows i (suc b) ls → Under rows (suc i) b ls
  under_row d (clear f) = clear (free_row d f)
  under_row d (under c at f w b o) = under c at f w (omega arith) (omega arith)

  under_lambda_lem : {ls : List Placed} {n : ℕ} → n ≡ suc (suc i) → l.word ≡ 28 → Under rows i (suc m) ls → Under rows (suc i) m (record { number = n; line = l } ∷ ls)
  under_lambda_lem q e (clear f) = under i (stands q) f (word_here ∙ e) (omega arith) (omega (arith, end_here))
  under_lambda_lem q e (under c at f w b o) = under c at f w (omega arith) (omega arith)

module _ {rows : List Row} {i : ℕ} where
  under_left : {ls : List Placed} (a b : ℕ) → Under rows i (a + b) ls → Under rows i a ls
  under_left a b (clear f) = clear f
  under_left a b (under c at f w d o) = under c at f w d (omega arith)

  under_past : {ls : List Placed} (a b : ℕ) {part : List Row} → Sized part a → Fits part → Here rows i part → Under rows i (a + b) ls → Under rows (i + a) b ls
  under_past a b z t h (clear f) = clear (free_past f z t h)
  under_past a b z t h (under c at f w d o) = under c at f w (omega arith) (omega arith)

-- ---- classes around, and no lambda
abbrev Apart : List Row → Home → ℕ → Type 0
Apart rows in_module i = Free rows 13 i
Apart rows in_def i = Unit {0}
Apart rows in_method i = Unit {0}

pub record Clear (rows : List Row) (h : Home) (i : ℕ) : Type 0 where
  pub lambda : Free rows 28 i
  pub class : Apart rows h i

clear_row : {rows : List Row} {i m : ℕ} {l : Line} {part : List Row} (h : Home) → Here rows i (row l m ∷ part) → plain l.word ≡ true → Clear rows h i → Clear rows h (suc i)
clear_row {rows} {i} {l} k h p c = record { lambda = free_row h (not_plain 28 refl p) c.lambda; class = go k c.class }
  where
    go : (k : Home) → Apart rows k i → Apart rows k (suc i)
    go in_module f = free_row h (not_plain 13 refl p) f
    go in_def f = tt
    go in_method f = tt

clear_past : {rows : List Row} {i n : ℕ} {part : List Row} (h : Home) → Sized part n → Fits part → Here rows i part → Clear rows h i → Clear rows h (i + n)
clear_past {rows} {i} {n} k z t h c = record { lambda = free_past c.lambda z t h; class = go k c.class }
  where
    go : (k : Home) → Apart rows k i → Apart rows k (i + n)
    go in_module f = free_past f z t h
    go in_def f = tt
    go in_method f = tt

-- the class o around m rows from row i on
record Around (rows : List Row) (c : Placed) (o i m : ℕ) : Type 0 where
  stands : Stands rows c o
  word : word_in rows o ≡ 13
  free : Free rows 13 o
  before : o < i
  over : i + m ≤ end_in rows o

-- ---- the faults of a part
module _ (rows : List Row) (few : length rows ≤ 4_096) where
  mutual
    right_e : (e : Expr) (i n : ℕ) (u : Use) (ls : List Placed) (v : Env) (s : State) → n ≡ suc (suc i) → WordedE e → Here rows i (rows_e e) → Used rows u i
        → Under rows i (len_e e) ls → All (Right rows) (raw_e e n u ls v s)
    right_e (var l) i n u ls v s q w h d a = right_judged rows few (record { number = n; line = l }) i (stands h q) v.home ls u d a (mem l.name.bytes v.params) (mem l.name.bytes v.locals)
        (mem l.name.bytes s.assigned) (mem l.name.bytes s.view)
    right_e (node l es) i n u ls v s q w h d a =
        right_es es (suc i) (suc n) ls v s (omega arith) w.1 (here_tail h) (under_row h (not_plain 28 refl (node_test plain refl w.0)) a)
    right_e (access l es) i n u ls v s q w h d a =
        right_es es (suc i) (suc n) ls v s (omega arith) w.1 (here_tail h) (under_row h (not_plain 28 refl (access_test plain refl w.0)) a)
    right_e (tuple l es) i n u ls v s q w h d a =
        right_es es (suc i) (suc n) ls v s (omega arith) w.1 (here_tail h) (under_row h (λ e. omega (arith, w.0)) a)
    right_e (call l f es) i n u ls v s q w h d a =
        let t = here_tail h in
        let b = under_row h (λ e. omega (arith, w.0)) a in
        let left = here_left (rows_e f) (rows_es es) t in
        all_append
        (right_e f (suc i) (suc n) (callee (record { number = n; line = l })) ls v s (omega arith) w.1.0 left (i, stands h q, refl, word_here h ∙ w.0) (under_left (len_e f) (len_es es) b))
        (right_es es (suc i + len_e f) (suc n + len_e f) ls v s (omega arith) w.1.1 (here_past (sized_e f) (rows_es es) t)
        (under_past (len_e f) (len_es es) (sized_e f) (fits_e f w.1.0) left b))
    right_e (lambda l e) i n u ls v s q w h d a =
        right_e e (suc i) (suc n) value (record { number = n; line = l } ∷ ls) (with_params l.params v) s (omega arith) w.1.1 (here_tail h) tt (under_lambda_lem h q w.0 a)

    right_es : (es : Exprs) (i n : ℕ) (ls : List Placed) (v : Env) (s : State) → n ≡ suc (suc i) → WordedEs es → Here rows i (rows_es es) → Under rows i (len_es es) ls
        → All (Right rows) (raw_es es n ls v s)
    right_es enil i n ls v s q w h a = none
    right_es (econs e es) i n ls v s q w h a =
        let left = here_left (rows_e e) (rows_es es) h in
        all_append (right_e e i n value ls v s q w.0 left tt (under_left (len_e e) (len_es es) a))
        (right_es es (i + len_e e) (n + len_e e) ls v s (omega arith) w.1 (here_past (sized_e e) (rows_es es) h) (under_past (len_e e) (len_es es) (sized_e e) (fits_e e w.0) left a))

  -- a target that is refused
  refused : {l : Line} {m i n : ℕ} {part : List Row} → n ≡ suc (suc i) → Here rows i (row l m ∷ part) → All (Right rows) (refused_at n l ∷ [])
  refused {l} {i} {n} q h = also (right_refused rows few (record { number = n; line = l }) i (stands h q)) none

  mutual
    right_t : (e : Expr) (i n : ℕ) (v : Env) (s : State) → n ≡ suc (suc i) → WordedE e → Here rows i (rows_e e) → Free rows 28 i → All (Right rows) (raw_t e n [] v s)
    right_t (var l) i n v s q w h f = none
    right_t (node l es) i n v s q w h f = refused q h
    right_t (access l es) i n v s q w h f =
        right_es es (suc i) (suc n) [] v s (omega arith) w.1 (here_tail h) (clear (free_row h (not_plain 28 refl (access_test plain refl w.0)) f))
    right_t (tuple l es) i n v s q w h f = right_ts es (suc i) (suc n) v s (omega arith) w.1 (here_tail h) (free_row h (λ e. omega (arith, w.0)) f)
    right_t (call l g es) i n v s q w h f = refused q h
    right_t (lambda l e) i n v s q w h f = refused q h

    right_ts : (es : Exprs) (i n : ℕ) (v : Env) (s : State) → n ≡ suc (suc i) → WordedEs es → Here rows i (rows_es es) → Free rows 28 i
        → All (Right rows) (raw_ts es n [] v s)
    right_ts enil i n v s q w h f = none
    right_ts (econs e es) i n v s q w h f =
        let left = here_left (rows_e e) (rows_es es) h in
        all_append (right_t e i n v s q w.0 left f)
        (right_ts es (i + len_e e) (n + len_e e) v (after_t e s) (omega arith) w.1 (here_past (sized_e e) (rows_es es) h) (free_past f (sized_e e) (fits_e e w.0) left))

  -- an expression or statements, and what follows them
  then_e : {i m n : ℕ} {l : Line} (e : Expr) (rest : List Row) (v : Env) (s : State) {fs : List Fault} → n ≡ suc (suc i) → plain l.word ≡ true → WordedE e
      → Here rows i (row l m ∷ (rows_e e ++ rest)) → Clear rows v.home i
      → (Here rows (suc i + len_e e) rest → Clear rows v.home (suc i + len_e e) → All (Right rows) fs) → All (Right rows) (raw_e e (suc n) value [] v s ++ fs)
  then_e {i} {n} e rest v s q p w h c k =
      let t = here_tail h in
      let d = clear_row v.home h p c in
      let left = here_left (rows_e e) rest t in
      all_append (right_e e (suc i) (suc n) value [] v s (omega arith) w left tt (clear d.lambda))
      (k (here_past (sized_e e) rest t) (clear_past v.home (sized_e e) (fits_e e w) left d))

  then_ss : {i : ℕ} (h : Home) (ts : Stmts) (rest : List Row) {fs gs : List Fault} → WordedSs ts → Here rows i (rows_ss ts ++ rest) → Clear rows h i
      → (Here rows i (rows_ss ts) → All (Right rows) fs) → (Here rows (i + len_ss ts) rest → Clear rows h (i + len_ss ts) → All (Right rows) gs) → All (Right rows) (fs ++ gs)
  then_ss k ts rest w h c f g =
      let left = here_left (rows_ss ts) rest h in
      all_append (f left) (g (here_past (sized_ss ts) rest h) (clear_past k (sized_ss ts) (fits_ss ts w) left c))

  mutual
    right_s : (t : Stmt) (i n : ℕ) (v : Env) (s : State) → n ≡ suc (suc i) → WordedS t → Here rows i (rows_s t) → Clear rows v.home i
        → All (Right rows) (raw_s t n [] v s)
    right_s (simple l es) i n v s q w h c =
        right_es es (suc i) (suc n) [] v s (omega arith) w.1 (here_tail h) (clear (clear_row v.home h (simple_test plain refl w.0) c).lambda)
    right_s (assign l e t) i n v s q w h c =
        then_e e (rows_e t) v s q (ap plain w.0) w.1.0 h c (λ h c. right_t t (suc i + len_e e) (suc n + len_e e) v s (omega arith) w.1.1 h c.lambda)
    right_s (block l e b) i n v s q w h c =
        then_e e (rows_ss b) v s q (block_test plain refl w.0) w.1.0 h c (λ h c. right_ss b (suc i + len_e e) (suc n + len_e e) v s (omega arith) w.1.1 h c)
    right_s (choice l e b k d) i n v s q w h c =
        then_e e (rows_ss b ++ (rows_ss k ++ rows_ss d)) v s q (ap plain w.0) w.1.0 h c
        (λ h c. then_ss v.home b (rows_ss k ++ rows_ss d) w.1.1.0 h c (λ l. right_ss b (suc i + len_e e) (suc n + len_e e) v s (omega arith) w.1.1.0 l c)
        (λ h c. then_ss v.home k (rows_ss d) w.1.1.1.0 h c
        (λ l. right_ss k (suc i + len_e e + len_ss b) (suc n + len_e e + len_ss b) v (after_ss b s) (omega arith) w.1.1.1.0 l c)
        (λ h c. right_ss d (suc i + len_e e + len_ss b + len_ss k) (suc n + len_e e + len_ss b + len_ss k) v (after_ss k (after_ss b s)) (omega arith) w.1.1.1.1 h c)))
    right_s (for l e b) i n v s q w h c =
        then_e e (rows_ss b) v s q (ap plain w.0) w.1.1.0 h c
        (λ h c. right_ss b (suc i + len_e e) (suc n + len_e e) v (assigning l.name s) (omega arith) w.1.1.1 h c)
    right_s (def l b) i n v s q w h c =
        right_ss b (suc i) (suc n) (def_env l b) (entered l.params (naming l.name s)) (omega arith) w.1.1.1 (here_tail h)
        (record { lambda = (clear_row v.home h (ap plain w.0) c).lambda; class = tt })
    right_s (class l ms ats) i n v s q w h c =
        go v.home c.class
        (λ f. right_ms ms (suc i) (suc n) (record { number = n; line = l }) i (naming l.name s) (omega arith) w.1.1.0 (here_left (rows_ms ms) (rows_as ats) (here_tail h))
        (free_row h (λ e. omega (arith, w.0)) c.lambda)
        (record { stands = stands h q; word = word_here h ∙ w.0; free = f; before = omega arith; over = omega (arith, end_here h) }))
      where
        go : (k : Home) → Apart rows k i → (Free rows 13 i → All (Right rows) (raw_ms ms (suc n) l (naming l.name s)))
            → All (Right rows) (in_classes k (raw_ms ms (suc n) l (naming l.name s)))
        go in_module f k = k f
        go in_def f k = none
        go in_method f k = none

    pub right_ss : (ts : Stmts) (i n : ℕ) (v : Env) (s : State) → n ≡ suc (suc i) → WordedSs ts → Here rows i (rows_ss ts) → Clear rows v.home i
        → All (Right rows) (raw_ss ts n [] v s)
    right_ss snil i n v s q w h c = none
    right_ss (scons t ts) i n v s q w h c =
        let left = here_left (rows_s t) (rows_ss ts) h in
        all_append (right_s t i n v s q w.0 left c)
        (right_ss ts (i + len_s t) (n + len_s t) v (after_s t s) (omega arith) w.1 (here_past (sized_s t) (rows_ss ts) h) (clear_past v.home (sized_s t) (fits_s t w.0) left c))

    right_ms : (ms : Methods) (i n : ℕ) (c : Placed) (o : ℕ) (s : State) → n ≡ suc (suc i) → WordedMs ms → Here rows i (rows_ms ms) → Free rows 28 i
        → Around rows c o i (len_ms ms) → All (Right rows) (raw_ms ms n c.line s)
    right_ms mnil i n c o s q w h f a = none
    right_ms (mcons l b ms) i n c o s q w h f a =
        let free = free_row h (λ e. omega (arith, w.0)) f in
        all_append
        (right_unless (not (lacks_self l.params))
        (right_selfless rows few (record { number = n; line = l }) c (stands h q) a.stands (word_here h ∙ w.0)
        (record { word = a.word; free = a.free; before = a.before; over = omega (arith, a.over) })))
        (then_ss in_method b (rows_ms ms) w.1.1.1.0 (here_tail h) (record { lambda = free; class = tt })
        (λ t. right_ss b (suc i) (suc n) method_env (entered l.params s) (omega arith) w.1.1.1.0 t (record { lambda = free; class = tt }))
        (λ h d. right_ms ms (suc i + len_ss b) (suc n + len_ss b) c o s (omega arith) w.1.1.1.1 h d.lambda
        (record { stands = a.stands; word = a.word; free = a.free; before = omega (arith, a.before); over = omega (arith, a.over) })))
