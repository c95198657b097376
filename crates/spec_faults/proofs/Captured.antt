-- The captures of a lambda: the walk lists the names that fail the Rust's check, in the order of the reads, each once. So the check passes
-- where none is listed, in any order; else it stops at one of them, and in the order of the reads at the first.
use Rattle.std.proofs.Common.{ℕ, suc, ◌+◌, ◌≡◌, refl, sym, ap, ◌∙◌, subst, Bool, true, false, cond, not, ◌||◌, true≢false, List, [], ◌∷◌, ◌++◌}
use Rattle.std.proofs.Math.Option.{none, some}
use Rattle.spec_text.specs.Bytes.{Bytes, Part, same, mem, any, In}
use Rattle.spec_text.specs.Tree.{Line, Expr, Exprs, var, node, access, tuple, call, lambda, enil, econs, len_e}
use Rattle.spec_faults.specs.Position.{Placed, Use, value, callee}
use Rattle.spec_faults.specs.Faults.{Fault, fault_at, unless, capture}
use Rattle.spec_faults.specs.Rust.{error, Checked, and_then, collect_free_vars, collect_free_vars_all, check_captured, Order, Rearranges, error_of, Answers, captured as one-captured}
use Rattle.spec_faults.proofs.ListingWalk.{State, Env, with_params, Mode, plain, captures, inside, test, once, walk_e, walk_es}
use Rattle.spec_faults.proofs.Lists.{same_eq, mem_append, mem_here, mem_there, All, none as all_none, also, all_in, any_in}
use Rattle.spec_faults.proofs.Finds.{first_error, Finds, stop, stops_append}
use Rattle.spec_faults.proofs.FreeNames.{Fine, bound, free, Looked, pass, fail, looked_through}

-- ---- reads
abbrev pub placed : ℕ → Line → Placed
placed n l = record { number = n; line = l }

abbrev pub name_of : Placed → Bytes
name_of r = r.line.name.bytes

-- a read that is or is not a parameter of a lambda between; a read
abbrev read_as : Bool → Mode → Use → Placed → Env → State → List Fault
read_as p m u r v s = test m u v.home r p (mem (name_of r) v.locals) (mem (name_of r) s.assigned) (mem (name_of r) s.view)

abbrev pub read_in : Mode → Use → Placed → Env → State → List Fault
read_in m u r v s = read_as (mem (name_of r) v.params) m u r v s

-- a lambda's parameters have no fault, and other reads are judged as around it
pub read_under : (m : Mode) (u : Use) (r : Placed) (ps : List Part) (v : Env) (s : State) (t : Bool) (f : Fault)
    → (mem (name_of r) ps ≡ false → read_in m u r v s ≡ unless t f) → read_in m u r (with_params ps v) s ≡ unless (mem (name_of r) ps || t) f
read_under m u r ps v s t f h = ap (λ p. read_as p m u r v s) (mem_append (name_of r) ps v.params) ∙ go (mem (name_of r) ps) h
  where
    go : (b : Bool) → (b ≡ false → read_in m u r v s ≡ unless t f) → read_as (b || mem (name_of r) v.params) m u r v s ≡ unless (b || t) f
    go true h = refl
    go false h = h refl

-- ---- captures
-- names, and the faults of those that fail the test g, as captures of kind i of the lambda at k
data Listed (k : Placed) (i : ℕ) (g : Bytes → Bool) : List Part → List Fault → Type 0 where
  end : Listed k i g [] []
  passes : {x : Part} {xs : List Part} {F : List Fault} → g x.bytes ≡ true → Listed k i g xs F → Listed k i g (x ∷ xs) F
  fails : (r : Placed) {xs : List Part} {F : List Fault} → g (name_of r) ≡ false → Listed k i g xs F
      → Listed k i g (r.line.name ∷ xs) (fault_at i k r ∷ F)

module _ (k : Placed) (i : ℕ) (g : Bytes → Bool) where
  listed_append : {a b : List Part} {F G : List Fault} → Listed k i g a F → Listed k i g b G → Listed k i g (a ++ b) (F ++ G)
  listed_append end m = m
  listed_append (passes h l) m = passes h (listed_append l m)
  listed_append (fails r h l) m = fails r h (listed_append l m)

  listed_one : (ps : List Part) (r : Placed)
      → Listed k i g (cond (mem (name_of r) ps) [] (r.line.name ∷ [])) (unless (bound ps g (name_of r)) (fault_at i k r))
  listed_one ps r = go (mem (name_of r) ps) (g (name_of r)) refl
    where
      go : (b t : Bool) → g (name_of r) ≡ t → Listed k i g (cond b [] (r.line.name ∷ [])) (unless (b || t) (fault_at i k r))
      go true t e = end
      go false true e = passes e end
      go false false e = fails r e end

  listed_free : (ps : List Part) {xs : List Part} {F : List Fault} → Listed k i (bound ps g) xs F → Listed k i g (free ps xs) F
  listed_free ps end = end
  listed_free ps (passes {x} {xs} {F} h l) = go (mem x.bytes ps) h (listed_free ps l)
    where
      go : (b : Bool) → (b || g x.bytes) ≡ true → Listed k i g (free ps xs) F → Listed k i g (cond (not b) (x ∷ free ps xs) (free ps xs)) F
      go true h l = l
      go false h l = passes h l
  listed_free ps (fails r {xs} {F} h l) = go (mem (name_of r) ps) h (listed_free ps l)
    where
      go : (b : Bool) → (b || g (name_of r)) ≡ false → Listed k i g (free ps xs) F
          → Listed k i g (cond (not b) (r.line.name ∷ free ps xs) (free ps xs)) (fault_at i k r ∷ F)
      go true h l = absurd (true≢false h)
      go false h l = fails r h l

-- in captures of the lambda at k, a read has the fault of kind i unless its name passes g
abbrev pub Captures : Placed → ℕ → (Bytes → Bool) → Env → State → Type 0
Captures k i g v s = (u : Use) (r : Placed) → read_in (captures k) u r v s ≡ unless (g (name_of r)) (fault_at i k r)

module _ (k : Placed) (i : ℕ) (s : State) where
  captures_under : (ps : List Part) (g : Bytes → Bool) (v : Env) → Captures k i g v s → Captures k i (bound ps g) (with_params ps v) s
  captures_under ps g v c u r = read_under (captures k) u r ps v s (g (name_of r)) (fault_at i k r) (λ e. c u r)

  mutual
    captured : (e : Expr) (n : ℕ) (u : Use) (ps : List Part) (g : Bytes → Bool) (v : Env) → Captures k i (bound ps g) v s
        → Listed k i g (collect_free_vars e ps) (walk_e e n u (captures k) v s)
    captured (var l) n u ps g v c =
        subst (Listed k i g (cond (mem l.name.bytes ps) [] (l.name ∷ []))) (sym (c u (placed n l))) (listed_one k i g ps (placed n l))
    captured (node l es) n u ps g v c = captured_all es (suc n) ps g v c
    captured (access l es) n u ps g v c = captured_all es (suc n) ps g v c
    captured (tuple l es) n u ps g v c = captured_all es (suc n) ps g v c
    captured (call l f es) n u ps g v c =
        listed_append k i g (captured f (suc n) (callee (placed n l)) ps g v c) (captured_all es (suc n + len_e f) ps g v c)
    captured (lambda l e) n u ps g v c =
        listed_free k i g ps
        (captured e (suc n) value l.params (bound ps g) (with_params l.params v) (captures_under l.params (bound ps g) v c))

    captured_all : (es : Exprs) (n : ℕ) (ps : List Part) (g : Bytes → Bool) (v : Env) → Captures k i (bound ps g) v s
        → Listed k i g (collect_free_vars_all es ps) (walk_es es n (captures k) v s)
    captured_all enil n ps g v c = end
    captured_all (econs e es) n ps g v c = listed_append k i g (captured e n value ps g v c) (captured_all es (n + len_e e) ps g v c)

-- ---- the captures that are listed, and the error of the check
-- a capture of kind i at k
data CaptureAt (k : Placed) (i : ℕ) : Fault → Type 0 where
  at : (r : Placed) → CaptureAt k i (fault_at i k r)

abbrev named : Bytes → Fault → Bool
named y f = same y f.name.bytes

module _ (k : Placed) (i : ℕ) (g : Bytes → Bool) where
  listed_captures : {xs : List Part} {F : List Fault} → Listed k i g xs F → All (CaptureAt k i) F
  listed_captures end = all_none
  listed_captures (passes h l) = listed_captures l
  listed_captures (fails r h l) = also (at r) (listed_captures l)

  -- none, where all names pass
  listed_none : {xs : List Part} {F : List Fault} → Listed k i g xs F → Fine g xs → F ≡ []
  listed_none end f = refl
  listed_none (passes {x} {xs} h l) f = listed_none l (λ y m. f y (mem_there y x xs m))
  listed_none (fails r {xs} h l) f = absurd (true≢false (sym (f (name_of r) (mem_here r.line.name xs)) ∙ h))

  -- a name that fails is among them
  listed_named : {xs : List Part} {F : List Fault} → Listed k i g xs F → (y : Bytes) → mem y xs ≡ true → g y ≡ false → any (named y) F ≡ true
  listed_named end y m n = m
  listed_named (passes {x} {xs} {F} h l) y m n = go (same y x.bytes) refl m (λ m. listed_named l y m n)
    where
      go : (t : Bool) → same y x.bytes ≡ t → (t || mem y xs) ≡ true → (mem y xs ≡ true → any (named y) F ≡ true) → any (named y) F ≡ true
      go true e m ih = absurd (true≢false (sym h ∙ ap g (sym (same_eq y x.bytes e)) ∙ n))
      go false e m ih = ih m
  listed_named (fails r {xs} {F} h l) y m n = go (same y (name_of r)) m (λ m. listed_named l y m n)
    where
      go : (t : Bool) → (t || mem y xs) ≡ true → (mem y xs ≡ true → any (named y) F ≡ true) → (t || any (named y) F) ≡ true
      go true m ih = refl
      go false m ih = ih m

  -- the first of them is the first name that fails
  listed_first : {xs : List Part} {F : List Fault} → Listed k i g xs F → first_error F ≡ check_captured i k.line g xs
  listed_first end = refl
  listed_first (passes h l) = rw h (listed_first l)
  listed_first (fails r h l) = rw h

-- of each name the first is kept: so the first of all; only such as were there; and each name, unless it was seen
once_first : (F : List Fault) → first_error (once [] F) ≡ first_error F
once_first [] = refl
once_first (f ∷ F) = go (capture f.kind) (once (f.name ∷ []) F) (once [] F)
  where
    go : (t : Bool) (a b : List Fault) → first_error (cond t (f ∷ a) (f ∷ b)) ≡ some (error_of f)
    go true a b = refl
    go false a b = refl

once_all : {P : Fault → Type 0} (seen : List Part) {F : List Fault} → All P F → All P (once seen F)
once_all seen all_none = all_none
once_all {P} seen (also {a = f} {l = F} p a) =
    go (capture f.kind) (mem f.name.bytes seen) (once_all seen a) (once_all (f.name ∷ seen) a)
  where
    go : (c t : Bool) → All P (once seen F) → All P (once (f.name ∷ seen) F)
        → All P (cond c (cond t (once seen F) (f ∷ once (f.name ∷ seen) F)) (f ∷ once seen F))
    go true true a b = a
    go true false a b = also p b
    go false t a b = also p a

once_named : (y : Bytes) (seen : List Part) (F : List Fault) → mem y seen ≡ false → any (named y) F ≡ true → any (named y) (once seen F) ≡ true
once_named y seen [] m h = h
once_named y seen (f ∷ F) m h =
    go (capture f.kind) (mem f.name.bytes seen) (named y f) refl refl h (once_named y seen F m) (once_named y (f.name ∷ seen) F)
  where
    go : (c t b : Bool) → mem f.name.bytes seen ≡ t → named y f ≡ b → (b || any (named y) F) ≡ true
        → (any (named y) F ≡ true → any (named y) (once seen F) ≡ true)
        → (mem y (f.name ∷ seen) ≡ false → any (named y) F ≡ true → any (named y) (once (f.name ∷ seen) F) ≡ true)
        → any (named y) (cond c (cond t (once seen F) (f ∷ once (f.name ∷ seen) F)) (f ∷ once seen F)) ≡ true
    go true true true p q h a b = absurd (true≢false (sym p ∙ ap (λ z. mem z seen) (sym (same_eq y f.name.bytes q)) ∙ m))
    go true true false p q h a b = a h
    go true false true p q h a b = rw q
    go true false false p q h a b = rw q (b (ap (λ t. t || mem y seen) q ∙ m) h)
    go false t true p q h a b = rw q
    go false t false p q h a b = rw q (a h)

module _ (k : Placed) (i : ℕ) (c : capture i ≡ true) where
  capture_answers : {F : List Fault} {f : Fault} → All (CaptureAt k i) F → In f F → CaptureAt k i f → Answers (some (error_of f)) F
  capture_answers all_none n c = elim n [ ]
  capture_answers (also (at r) a) n (at q) = one-captured c n refl refl refl refl

  -- a name that fails: its error is an answer beside the captures that are listed
  failed_answers : (g : Bytes → Bool) {xs : List Part} {F : List Fault} → Listed k i g xs F → (y : Bytes) → mem y xs ≡ true → g y ≡ false
      → Answers (some (error i y [] k.line)) (once [] F)
  failed_answers g {F = F} l y m n =
      let s = any_in (named y) (once [] F) (once_named y [] F refl (listed_named k i g l y m n)) in
      go s.0 s.1 (all_in all s.1) s.2
    where
      all : All (CaptureAt k i) (once [] F)
      all = once_all [] (listed_captures k i g l)

      go : (f : Fault) → In f (once [] F) → CaptureAt k i f → named y f ≡ true → Answers (some (error i y [] k.line)) (once [] F)
      go f n (at r) e = subst (λ z. Answers (some (error i z [] k.line)) (once [] F)) (sym (same_eq y (name_of r) e)) (capture_answers all n (at r))

-- ---- a lambda: the check of its captures, and, where that passes, its body
module _ (order : Order) (same_names : Rearranges order) where
  -- the check and what follows it, beside the captures and what else is listed
  checked : (k : Placed) (i : ℕ) (g : Bytes → Bool) {xs : List Part} {F G : List Fault} {c : Checked} → capture i ≡ true → Listed k i g xs F
      → (Fine g xs → Finds order G c) → Finds order (once [] F ++ G) (and_then (check_captured i k.line g (order k.line xs)) c)
  checked k i g {xs} {F} {G} {c} t l h = go (check_captured i k.line g (order k.line xs)) refl (looked_through order same_names i k.line g xs)
    where
      go : (d : Checked) → check_captured i k.line g (order k.line xs) ≡ d → Looked i k.line g xs d
          → Finds order (once [] F ++ G) (and_then d c)
      go none q (pass f) = subst (λ F. Finds order (once [] F ++ G) c) (sym (listed_none k i g l f)) (h f)
      go (some d) q (fail y m b) =
          stop (stops_append G record {
            answers = failed_answers k i t g l y m b;
            in_order = λ o. once_first F ∙ listed_first k i g l ∙ sym (ap (λ o. check_captured i k.line g (o k.line xs)) o) ∙ q;
          })

  pub lambda_finds : (l : Line) (e : Expr) (n : ℕ) (u : Use) (i : ℕ) (g : Bytes → Bool) (v : Env) (s : State) {c : Checked}
      → capture i ≡ true → Captures (placed n l) i g v s
      → (Fine g (collect_free_vars e l.params) → Finds order (walk_e e (suc n) value inside (with_params l.params v) s) c)
      → Finds order (walk_e (lambda l e) n u plain v s) (and_then (check_captured i l g (order l (collect_free_vars e l.params))) c)
  lambda_finds l e n u i g v s t c h =
      checked (placed n l) i g t
      (captured (placed n l) i s e (suc n) value l.params g (with_params l.params v) (captures_under (placed n l) i s l.params g v c)) h
