-- The visited lines stand in the text's order, each once: their numbers ascend strictly, within the lines of their part.
-- So do the faults in the text's order, by the line of their read: a visited line has at most one fault.
-- By induction over the tree; a part is the parts below it, one after another.
use Rattle.std.proofs.Common.{ℕ, suc, ◌+◌, ◌≤◌, arith, le_refl, le_trans, ◌≡◌, refl, Bool, true, false, cond, not, List, [], ◌∷◌, ◌++◌, length}
use Rattle.spec_text.specs.Bytes.{In, here, there}
use Rattle.spec_text.specs.Tree.{Line, Expr, Exprs, Attrs, Stmt, Stmts, Methods, Tree, var, node, access, tuple, call, lambda, enil, econs, anil, acons, simple, assign, block, choice, for, def, class, snil, scons, mnil, mcons, len_e, len_es, len_as, len_s, len_ss, len_ms, first_line}
use Rattle.spec_faults.specs.Position.{Home, in_module, in_def, in_method, Where, Use, value, Role, is_read, is_target, is_refused, is_def, is_class, is_lambda, is_other, is_for, is_method, Visited, at_module, under_class, lines_e, lines_es, lines_t, lines_ts, lines_as, lines_s, lines_ss, lines_ms, visited}
use Rattle.spec_faults.specs.Bindings.{Binding, bindings}
use Rattle.spec_faults.specs.Faults.{Fault, unless, lacks_self, refused_at, selfless, judged, judge, keep}
use Rattle.spec_faults.proofs.Lists.{All, none, also}
use Rattle.spec_faults.proofs.Read.{read_fault}

-- the keys of a list ascend strictly, from lo on and below hi
pub data Ascend {A : Type 0} (key : A → ℕ) : ℕ → ℕ → List A → Type 0 where
  end : {lo hi : ℕ} → lo ≤ hi → Ascend key lo hi []
  next : {lo hi : ℕ} {a : A} {as' : List A} → lo ≤ key a → Ascend key (suc (key a)) hi as' → Ascend key lo hi (a ∷ as')

ascend_none : {A : Type 0} {key : A → ℕ} {lo hi : ℕ} → lo ≤ hi → Ascend key lo hi []
ascend_none h = end h

pub ascend_here : {A : Type 0} {key : A → ℕ} {hi : ℕ} {as' : List A} (a : A) → Ascend key (suc (key a)) hi as' → Ascend key (key a) hi (a ∷ as')
ascend_here {key} a r = next (le_refl (key a)) r

ascend_from : {A : Type 0} {key : A → ℕ} {lo low hi : ℕ} {l : List A} → low ≤ lo → Ascend key lo hi l → Ascend key low hi l
ascend_from h (end i) = end (le_trans h i)
ascend_from h (next i a) = next (le_trans h i) a

ascend_append : {A : Type 0} {key : A → ℕ} {lo mid hi : ℕ} {l m : List A} → Ascend key lo mid l → Ascend key mid hi m → Ascend key lo hi (l ++ m)
ascend_append (end i) b = ascend_from i b
ascend_append (next i a) b = next i (ascend_append a b)

pub ascend_length : {A : Type 0} {key : A → ℕ} {lo hi : ℕ} {l : List A} → Ascend key lo hi l → lo + length l ≤ hi
ascend_length (end i) = omega arith
ascend_length (next i a) = omega (arith, ascend_length a)

pub ascend_keep : {A : Type 0} {key : A → ℕ} (p : A → Bool) {lo hi : ℕ} {l : List A} → Ascend key lo hi l → Ascend key lo hi (keep p l)
ascend_keep p (end h) = end h
ascend_keep {key} p (next {lo} {hi} {a} {as'} h r) = go (p a) (ascend_keep p r)
  where
    go : (b : Bool) → Ascend key (suc (key a)) hi (keep p as') → Ascend key lo hi (cond b (a ∷ keep p as') (keep p as'))
    go true k = next h k
    go false k = ascend_from (let i : lo ≤ suc (key a) = omega arith in i) k

pub ascend_above : {A : Type 0} {key : A → ℕ} {low lo hi : ℕ} {l : List A} → low ≤ lo → Ascend key lo hi l → All (λ (a : A). low ≤ key a) l
ascend_above h (end i) = none
ascend_above {key} {low} h (next {a} i r) = also (le_trans h i) (ascend_above (let j : low ≤ suc (key a) = omega arith in j) r)

-- by its key, an element of such a list is from lo on, and it is the only one
pub ascend_in : {A : Type 0} {key : A → ℕ} {lo hi : ℕ} {a : A} {l : List A} → Ascend key lo hi l → In a l → lo ≤ key a
ascend_in (end _) i = elim i [ ]
ascend_in (next h r) here = h
ascend_in {key} {lo} {a} (next {a = b} h r) (there i) = let j : suc (key b) ≤ key a = ascend_in r i in omega arith

pub ascend_only : {A : Type 0} {key : A → ℕ} {lo hi : ℕ} {a b : A} {l : List A} → Ascend key lo hi l → In a l → In b l → key a ≡ key b → a ≡ b
ascend_only (end _) i j e = elim i [ ]
ascend_only (next h r) here here e = refl
ascend_only (next h r) here (there j) e = absurd (omega (arith, ascend_in r j))
ascend_only (next h r) (there i) here e = absurd (omega (arith, ascend_in r i))
ascend_only (next h r) (there i) (there j) e = ascend_only r i j e

-- ---- the visited lines
abbrev pub Numbered : ℕ → ℕ → List Visited → Type 0
Numbered lo hi vs = Ascend (λ (v : Visited). v.number) lo hi vs

mutual
  ascend_e : (e : Expr) (n : ℕ) (u : Use) (w : Where) {hi : ℕ} → n + len_e e ≤ hi → Numbered n hi (lines_e e n u w)
  ascend_e (var l) n u w h = ascend_here _ (ascend_none (omega arith))
  ascend_e (node l es) n u w h = ascend_here _ (ascend_es es (suc n) w (omega arith))
  ascend_e (access l es) n u w h = ascend_here _ (ascend_es es (suc n) w (omega arith))
  ascend_e (tuple l es) n u w h = ascend_here _ (ascend_es es (suc n) w (omega arith))
  ascend_e (call l f es) n u w h = ascend_here _ (ascend_append (ascend_e f (suc n) _ w (le_refl _)) (ascend_es es _ w (omega arith)))
  ascend_e (lambda l e) n u w h = ascend_here _ (ascend_e e (suc n) value _ (omega arith))

  ascend_es : (es : Exprs) (n : ℕ) (w : Where) {hi : ℕ} → n + len_es es ≤ hi → Numbered n hi (lines_es es n w)
  ascend_es enil n w h = ascend_none (omega arith)
  ascend_es (econs e es) n w h = ascend_append (ascend_e e n value w (le_refl _)) (ascend_es es _ w (omega arith))

mutual
  pub ascend_t : (e : Expr) (n : ℕ) (w : Where) {hi : ℕ} → n + len_e e ≤ hi → Numbered n hi (lines_t e n w)
  ascend_t (var l) n w h = ascend_here _ (ascend_none (omega arith))
  ascend_t (node l es) n w h = ascend_here _ (ascend_none (omega arith))
  ascend_t (access l es) n w h = ascend_here _ (ascend_es es _ w (omega arith))
  ascend_t (tuple l es) n w h = ascend_here _ (ascend_ts es _ w (omega arith))
  ascend_t (call l f es) n w h = ascend_here _ (ascend_none (omega arith))
  ascend_t (lambda l e) n w h = ascend_here _ (ascend_none (omega arith))

  ascend_ts : (es : Exprs) (n : ℕ) (w : Where) {hi : ℕ} → n + len_es es ≤ hi → Numbered n hi (lines_ts es n w)
  ascend_ts enil n w h = ascend_none (omega arith)
  ascend_ts (econs e es) n w h = ascend_append (ascend_t e n w (le_refl _)) (ascend_ts es _ w (omega arith))

pub ascend_as : (ats : Attrs) (n : ℕ) (w : Where) {hi : ℕ} → n + len_as ats ≤ hi → Numbered n hi (lines_as ats n w)
ascend_as anil n w h = ascend_none (omega arith)
ascend_as (acons l e ats) n w h = ascend_here _ (ascend_from (omega arith) (ascend_as ats (suc n + len_e e) w (omega arith)))

ascend_class : (k : Home) {lo hi : ℕ} {vs : List Visited} → lo ≤ hi → Numbered lo hi vs → Numbered lo hi (under_class k vs)
ascend_class in_module h a = a
ascend_class in_def h a = end h
ascend_class in_method h a = end h

mutual
  pub ascend_s : (s : Stmt) (n : ℕ) (w : Where) {hi : ℕ} → n + len_s s ≤ hi → Numbered n hi (lines_s s n w)
  ascend_s (simple l es) n w h = ascend_here _ (ascend_es es _ w (omega arith))
  ascend_s (assign l e t) n w h = ascend_here _ (ascend_append (ascend_e e _ value w (le_refl _)) (ascend_t t _ w (omega arith)))
  ascend_s (block l c b) n w h = ascend_here _ (ascend_append (ascend_e c _ value w (le_refl _)) (ascend_ss b _ w (omega arith)))
  ascend_s (choice l c b k e) n w h =
      ascend_here _ (ascend_append (ascend_e c _ value w (le_refl _))
      (ascend_append (ascend_ss b _ w (le_refl _)) (ascend_append (ascend_ss k _ w (le_refl _)) (ascend_ss e _ w (omega arith)))))
  ascend_s (for l e b) n w h = ascend_here _ (ascend_append (ascend_e e _ value w (le_refl _)) (ascend_ss b _ w (omega arith)))
  ascend_s (def l b) n w h = ascend_here _ (ascend_ss b _ _ (omega arith))
  ascend_s (class l ms ats) n w h =
      ascend_here _ (ascend_class w.home (omega arith) (ascend_append (ascend_ms ms _ l w (le_refl _)) (ascend_as ats _ w (omega arith))))

  ascend_ss : (ss : Stmts) (n : ℕ) (w : Where) {hi : ℕ} → n + len_ss ss ≤ hi → Numbered n hi (lines_ss ss n w)
  ascend_ss snil n w h = ascend_none (omega arith)
  ascend_ss (scons s ss) n w h = ascend_append (ascend_s s n w (le_refl _)) (ascend_ss ss _ w (omega arith))

  ascend_ms : (ms : Methods) (n : ℕ) (c : Line) (w : Where) {hi : ℕ} → n + len_ms ms ≤ hi → Numbered n hi (lines_ms ms n c w)
  ascend_ms mnil n c w h = ascend_none (omega arith)
  ascend_ms (mcons l b ms) n c w h = ascend_here _ (ascend_append (ascend_ss b _ _ (le_refl _)) (ascend_ms ms _ c w (omega arith)))

pub visited_ascend : (t : Tree) → Numbered (first_line t) (first_line t + len_ss t.body) (visited t)
visited_ascend t = ascend_ss t.body (first_line t) at_module (le_refl _)

-- ---- the faults in the text's order
abbrev pub Lined : ℕ → ℕ → List Fault → Type 0
Lined lo hi fs = Ascend (λ (f : Fault). f.line) lo hi fs

one_ascend : (f : Fault) → Lined f.line (suc f.line) (f ∷ [])
one_ascend f = ascend_here f (ascend_none (omega arith))

unless_ascend : (b : Bool) (f : Fault) → Lined f.line (suc f.line) (unless b f)
unless_ascend true f = ascend_none (omega arith)
unless_ascend false f = one_ascend f

-- a visited line has at most one fault, and that is on its line
judged_ascend : (bs : List Binding) (r : Role) (n : ℕ) (l : Line) (w : Where) → Lined n (suc n) (judged bs r n l w)
judged_ascend bs (is_read u) n l w = read_fault (Lined n (suc n)) bs u n l w (ascend_none (omega arith)) (λ k p m. one_ascend _)
judged_ascend bs is_target n l w = ascend_none (omega arith)
judged_ascend bs is_refused n l w = one_ascend (refused_at n l)
judged_ascend bs is_def n l w = ascend_none (omega arith)
judged_ascend bs is_class n l w = ascend_none (omega arith)
judged_ascend bs is_lambda n l w = ascend_none (omega arith)
judged_ascend bs is_other n l w = ascend_none (omega arith)
judged_ascend bs (is_for m) n l w = ascend_none (omega arith)
judged_ascend bs (is_method c) n l w = unless_ascend (not (lacks_self l.params)) (selfless n l c)

judge_ascend : (bs : List Binding) {lo hi : ℕ} {vs : List Visited} → Numbered lo hi vs → Lined lo hi (judge bs vs)
judge_ascend bs (end h) = end h
judge_ascend bs (next {a} h r) = ascend_append (ascend_from h (judged_ascend bs a.role a.number a.line a.at)) (judge_ascend bs r)

-- those of a tree
pub faults_ascend : (t : Tree) → Lined (first_line t) (first_line t + len_ss t.body) (judge (bindings t) (visited t))
faults_ascend t = judge_ascend (bindings t) (visited_ascend t)
