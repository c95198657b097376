-- Put in the order of their places, and once for a lambda and a name, the faults in the text's order are what the walk lists.
-- The idea: the faults of a part are placed at its lines, or at the call or the outermost lambda around it; so two parts one after the
-- other list one after the other, and a lambda lists its captures before what is faulty inside.
use Rattle.std.proofs.Common.{ℕ, zero, suc, ◌+◌, ◌≤◌, ◌<◌, arith, zero-add, add-zero, suc-add, add-suc, ◌≡◌, refl, sym, ap, ap₂, ◌∙◌, ◌≢◌, Bool, true, false, cond, not, List, [], ◌∷◌, ◌++◌, append_assoc, append-nil, eqb, ne_eqb}
use Rattle.spec_text.specs.Bytes.{mem}
use Rattle.spec_text.specs.Tree.{Line, Expr, Exprs, Stmt, Stmts, Methods, Tree, var, node, access, tuple, call, lambda, enil, econs, simple, assign, block, choice, for, def, class, snil, scons, mnil, mcons, len_e, len_es, len_as, len_s, len_ss, len_ms, first_line}
use Rattle.spec_faults.specs.Position.{Placed, Home, in_module, in_def, in_method, Use, value, callee}
use Rattle.spec_faults.specs.Faults.{Fault, fault_at, outermost, unbound_here, undefined_here, judge_read, lacks_self, refused_at, selfless, unless, faults}
use Rattle.spec_faults.proofs.Lists.{eqb_same}
use Rattle.spec_faults.proofs.ListingWalk.{State, assigning, naming, entered, after_t, after_s, after_ss, Mode, plain, captures, inside, Env, with_params, def_env, method_env, module_env, in_classes, test, once, walk_e, walk_es, walk_t, walk_ts, walk_s, walk_ss, walk_ms, start_state, walk}
use Rattle.spec_faults.proofs.Once.{placed, by_place_once, faults_once}
use Rattle.spec_faults.proofs.TextWalk.{raw_e, raw_es, raw_t, raw_ts, raw_s, raw_ss, raw_ms}
use Rattle.spec_faults.proofs.InTextOrder.{raw_faults}

-- ---- faults at a line, and by place
placed_append : (n : ℕ) (a b : List Fault) → placed n (a ++ b) ≡ placed n a ++ placed n b
placed_append n [] b = refl
placed_append n (f ∷ a) b = go (eqb n f.place) (placed_append n a b)
  where
    go : (t : Bool) → placed n (a ++ b) ≡ placed n a ++ placed n b → cond t (f ∷ placed n (a ++ b)) (placed n (a ++ b)) ≡ cond t (f ∷ placed n a) (placed n a) ++ placed n b
    go true e = ap (λ l. f ∷ l) e
    go false e = e

placed_none : (n : ℕ) (a b : List Fault) → placed n a ≡ [] → placed n b ≡ [] → placed n (a ++ b) ≡ []
placed_none n a b h g = placed_append n a b ∙ ap₂ ◌++◌ h g

-- what is placed at a line of the first part comes from it alone
placed_left : (n : ℕ) (a b : List Fault) → placed n b ≡ [] → placed n (a ++ b) ≡ placed n a
placed_left n a b h = placed_append n a b ∙ ap (λ l. placed n a ++ l) h ∙ append-nil _

by_same : (n m : ℕ) (a b : List Fault) → ((l : ℕ) → n ≤ l → l < n + m → placed l a ≡ placed l b) → by_place_once n m a ≡ by_place_once n m b
by_same n zero a b h = refl
by_same n (suc m) a b h = ap₂ ◌++◌ (ap (once []) (h n (omega arith) (omega arith))) (by_same (suc n) m a b (λ l i j. h l (omega arith) (omega arith)))

by_nil : (n m : ℕ) → by_place_once n m [] ≡ []
by_nil n zero = refl
by_nil n (suc m) = by_nil (suc n) m

by_none : (n m : ℕ) (a : List Fault) → ((l : ℕ) → n ≤ l → l < n + m → placed l a ≡ []) → by_place_once n m a ≡ []
by_none n m a h = by_same n m a [] h ∙ by_nil n m

by_split : (n i j : ℕ) (a : List Fault) → by_place_once n (i + j) a ≡ by_place_once n i a ++ by_place_once (n + i) j a
by_split n zero j a = rw (zero-add, add-zero)
by_split n (suc i) j a = rw (suc-add i j, by_split (suc n) i j a, append_assoc (once [] (placed n a)), suc-add n i, add-suc n i)

by_two : (n i j : ℕ) (a b : List Fault) → ((l : ℕ) → n ≤ l → l < n + i → placed l b ≡ []) → ((l : ℕ) → n + i ≤ l → l < n + i + j → placed l a ≡ [])
    → by_place_once n (i + j) (a ++ b) ≡ by_place_once n i a ++ by_place_once (n + i) j b
by_two n i j a b h g =
    by_split n i j (a ++ b)
    ∙ ap₂ ◌++◌ (by_same n i (a ++ b) a (λ l p q. placed_left l a b (h l p q))) (by_same (n + i) j (a ++ b) b (λ l p q. placed_append l a b ∙ ap (λ x. x ++ placed l b) (g l p q)))

-- a first line at which nothing is placed
by_head : (n m : ℕ) (a F : List Fault) → placed n a ≡ [] → by_place_once (suc n) m a ≡ F → by_place_once n (suc m) a ≡ F
by_head n m a F h e = ap₂ ◌++◌ (ap (once []) h) e

-- one fault, at the first of the lines
by_alone : (n m : ℕ) (f : Fault) → eqb n f.place ≡ true → ((l : ℕ) → n < l → eqb l f.place ≡ false) → once [] (f ∷ []) ≡ f ∷ [] → by_place_once n (suc m) (f ∷ []) ≡ f ∷ []
by_alone n m f e d o = rw e (ap₂ ◌++◌ o (by_none (suc n) m (f ∷ []) (λ l i j. rw (d l i))))

-- l is no line from n on, m of them
abbrev Out : ℕ → ℕ → ℕ → Type 0
Out l n m = n ≤ l → l < n + m → ⊥

-- ---- a read
-- what stands at the call's line, for a callee
abbrev lead : Use → List Fault → List Fault
lead value a = []
lead (callee c) a = once [] (placed c.number a)

abbrev NotUse : ℕ → Use → Type 0
NotUse l value = Unit {0}
NotUse l (callee c) = l ≢ c.number

-- l is no place of captures under the lambdas; the lambdas stand before line n; the call's line stands between
abbrev NotLam : ℕ → List Placed → Type 0
NotLam l [] = Unit {0}
NotLam l (k ∷ ks) = l ≢ (outermost k ks).number

abbrev LamBelow : ℕ → List Placed → Type 0
LamBelow n [] = Unit {0}
LamBelow n (k ∷ ks) = (outermost k ks).number < n

abbrev UseOk : List Placed → Use → ℕ → Type 0
UseOk ls value n = Unit {0}
UseOk ls (callee c) n = LamBelow c.number ls × (c.number < n)

abbrev mode_of : List Placed → Mode
mode_of [] = plain
mode_of (k ∷ ks) = inside

lam_up : (n m : ℕ) (ls : List Placed) → n ≤ m → LamBelow n ls → LamBelow m ls
lam_up n m [] l b = tt
lam_up n m (k ∷ ks) l b = omega arith

lam_not : (n l : ℕ) (ls : List Placed) → n ≤ l → LamBelow n ls → NotLam l ls
lam_not n l [] i b = tt
lam_not n l (k ∷ ks) i b = λ e. omega arith

-- a fault at one place alone, at no other line
one_else : (f : Fault) (l : ℕ) → l ≢ f.place → placed l (f ∷ []) ≡ []
one_else f l d = rw (ne_eqb l f.place d)

show_none : (u : Use) (n : ℕ) → lead u [] ++ by_place_once n 1 [] ≡ []
show_none value n = refl
show_none (callee c) n = refl

show_away : (u : Use) (n : ℕ) (k : Placed) (ks : List Placed) (f : Fault) → (outermost k ks).number < n → UseOk (k ∷ ks) u n → f.place ≡ (outermost k ks).number
    → lead u (f ∷ []) ++ by_place_once n 1 (f ∷ []) ≡ []
show_away value n k ks f b o p = rw (p, ne_eqb n (outermost k ks).number (λ e. omega arith))
show_away (callee c) n k ks f b o p =
    let l : (outermost k ks).number < c.number = o.0 in
    let m : c.number < n = o.1 in
    rw (p, ne_eqb n (outermost k ks).number (λ e. omega arith), ne_eqb c.number (outermost k ks).number (λ e. omega arith))

-- the fault of a read where it stands, for its value or as a callee: kinds i and j
module _ (i j : ℕ) (r : Placed) (oi : once [] (fault_at i r r ∷ []) ≡ fault_at i r r ∷ []) (oj : (c : Placed) → once [] (fault_at j c r ∷ []) ≡ fault_at j c r ∷ []) where
  abbrev here : Use → Fault
  here value = fault_at i r r
  here (callee c) = fault_at j c r

  here_shown : (u : Use) (ls : List Placed) → UseOk ls u r.number → lead u (here u ∷ []) ++ by_place_once r.number 1 (here u ∷ []) ≡ here u ∷ []
  here_shown value ls o = rw (eqb_same r.number) (ap (λ x. x ++ []) oi)
  here_shown (callee c) ls o =
      let l : c.number < r.number = o.1 in
      rw (eqb_same c.number, ne_eqb r.number c.number (λ e. omega arith)) (ap (λ x. x ++ []) (oj c))

-- which faults a read has, where it stands and under lambdas
unbound_shown : (u : Use) (r : Placed) (ls : List Placed) → UseOk ls u r.number → lead u (unbound_here u r ∷ []) ++ by_place_once r.number 1 (unbound_here u r ∷ []) ≡ unbound_here u r ∷ []
unbound_shown value r ls o = here_shown 11 12 r refl (λ c. refl) value ls o
unbound_shown (callee c) r ls o = here_shown 11 12 r refl (λ c. refl) (callee c) ls o

undefined_shown : (u : Use) (r : Placed) (ls : List Placed) → UseOk ls u r.number → lead u (undefined_here u r ∷ []) ++ by_place_once r.number 1 (undefined_here u r ∷ []) ≡ undefined_here u r ∷ []
undefined_shown value r ls o = here_shown 8 9 r refl (λ c. refl) value ls o
undefined_shown (callee c) r ls o = here_shown 8 9 r refl (λ c. refl) (callee c) ls o

unbound_else : (u : Use) (r : Placed) (l : ℕ) → l ≢ r.number → NotUse l u → placed l (unbound_here u r ∷ []) ≡ []
unbound_else value r l d c = one_else (fault_at 11 r r) l d
unbound_else (callee k) r l d c = one_else (fault_at 12 k r) l c

undefined_else : (u : Use) (r : Placed) (l : ℕ) → l ≢ r.number → NotUse l u → placed l (undefined_here u r ∷ []) ≡ []
undefined_else value r l d c = one_else (fault_at 8 r r) l d
undefined_else (callee k) r l d c = one_else (fault_at 9 k r) l c

read_order : (h : Home) (ls : List Placed) (u : Use) (r : Placed) (p o a v : Bool) → LamBelow r.number ls → UseOk ls u r.number
    → lead u (judge_read h ls u r p o a v) ++ by_place_once r.number 1 (judge_read h ls u r p o a v) ≡ test (mode_of ls) u h r p o a v
read_order h ls u r true o a v b k = show_none u r.number
read_order h [] u r false true true v b k = show_none u r.number
read_order h [] u r false true false v b k = unbound_shown u r [] k
read_order h [] u r false false a true b k = show_none u r.number
read_order h [] u r false false a false b k = undefined_shown u r [] k
read_order h (j ∷ js) u r false true true v b k = show_none u r.number
read_order h (j ∷ js) u r false true false v b k = show_away u r.number j js (fault_at 13 (outermost j js) r) b k refl
read_order in_module (j ∷ js) u r false false a true b k = show_none u r.number
read_order in_module (j ∷ js) u r false false a false b k = show_away u r.number j js (fault_at 10 (outermost j js) r) b k refl
read_order in_def (j ∷ js) u r false false a true b k = show_none u r.number
read_order in_def (j ∷ js) u r false false a false b k = undefined_shown u r (j ∷ js) k
read_order in_method (j ∷ js) u r false false a true b k = show_none u r.number
read_order in_method (j ∷ js) u r false false a false b k = undefined_shown u r (j ∷ js) k

read_else : (h : Home) (ls : List Placed) (u : Use) (r : Placed) (p o a v : Bool) (l : ℕ) → NotLam l ls → l ≢ r.number → NotUse l u → placed l (judge_read h ls u r p o a v) ≡ []
read_else h ls u r true o a v l b d c = refl
read_else h [] u r false true true v l b d c = refl
read_else h [] u r false true false v l b d c = unbound_else u r l d c
read_else h [] u r false false a true l b d c = refl
read_else h [] u r false false a false l b d c = undefined_else u r l d c
read_else h (j ∷ js) u r false true true v l b d c = refl
read_else h (j ∷ js) u r false true false v l b d c = one_else (fault_at 13 (outermost j js) r) l b
read_else h (j ∷ js) u r false false a true l b d c = refl
read_else in_module (j ∷ js) u r false false a false l b d c = one_else (fault_at 10 (outermost j js) r) l b
read_else in_def (j ∷ js) u r false false a false l b d c = undefined_else u r l d c
read_else in_method (j ∷ js) u r false false a false l b d c = undefined_else u r l d c

read_captures : (h : Home) (k : Placed) (ks : List Placed) (u : Use) (r : Placed) (p o a v : Bool) → (outermost k ks).number < r.number → NotUse (outermost k ks).number u
    → placed (outermost k ks).number (judge_read h (k ∷ ks) u r p o a v) ≡ test (captures (outermost k ks)) u h r p o a v
read_captures h k ks u r true o a v l d = refl
read_captures h k ks u r false true true v l d = refl
read_captures h k ks u r false true false v l d = rw (eqb_same (outermost k ks).number)
read_captures in_module k ks u r false false a true l d = refl
read_captures in_module k ks u r false false a false l d = rw (eqb_same (outermost k ks).number)
read_captures in_def k ks u r false false a true l d = refl
read_captures in_def k ks u r false false a false l d = undefined_else u r (outermost k ks).number (λ e. omega arith) d
read_captures in_method k ks u r false false a true l d = refl
read_captures in_method k ks u r false false a false l d = undefined_else u r (outermost k ks).number (λ e. omega arith) d

-- ---- expressions: at which lines nothing is placed
under_not : (l : ℕ) (p : Placed) (ls : List Placed) → NotLam l ls → l ≢ p.number → NotLam l (p ∷ ls)
under_not l p [] b d = d
under_not l p (k ∷ ks) b d = b

abbrev at : ℕ → Line → Placed
at n l = record { number = n; line = l }

mutual
  else_e : (e : Expr) (ls : List Placed) (n : ℕ) (u : Use) (v : Env) (s : State) (l : ℕ) → NotLam l ls → Out l n (len_e e) → NotUse l u → placed l (raw_e e n u ls v s) ≡ []
  else_e (var y) ls n u v s l b o d =
      read_else v.home ls u (at n y) (mem y.name.bytes v.params) (mem y.name.bytes v.locals) (mem y.name.bytes s.assigned) (mem y.name.bytes s.view) l b
      (λ i. o (omega arith) (omega arith)) d
  else_e (node y es) ls n u v s l b o d = else_es es ls (suc n) v s l b (λ i j. o (omega arith) (omega arith))
  else_e (access y es) ls n u v s l b o d = else_es es ls (suc n) v s l b (λ i j. o (omega arith) (omega arith))
  else_e (tuple y es) ls n u v s l b o d = else_es es ls (suc n) v s l b (λ i j. o (omega arith) (omega arith))
  else_e (call y f es) ls n u v s l b o d =
      placed_none l (raw_e f (suc n) (callee (at n y)) ls v s) (raw_es es (suc n + len_e f) ls v s)
      (else_e f ls (suc n) (callee (at n y)) v s l b (λ i j. o (omega arith) (omega arith)) (λ i. o (omega arith) (omega arith)))
      (else_es es ls (suc n + len_e f) v s l b (λ i j. o (omega arith) (omega arith)))
  else_e (lambda y e) ls n u v s l b o d =
      else_e e (at n y ∷ ls) (suc n) value (with_params y.params v) s l (under_not l (at n y) ls b (λ i. o (omega arith) (omega arith))) (λ i j. o (omega arith) (omega arith)) tt

  else_es : (es : Exprs) (ls : List Placed) (n : ℕ) (v : Env) (s : State) (l : ℕ) → NotLam l ls → Out l n (len_es es) → placed l (raw_es es n ls v s) ≡ []
  else_es enil ls n v s l b o = refl
  else_es (econs e es) ls n v s l b o =
      placed_none l (raw_e e n value ls v s) (raw_es es (n + len_e e) ls v s) (else_e e ls n value v s l b (λ i j. o (omega arith) (omega arith)) tt)
      (else_es es ls (n + len_e e) v s l b (λ i j. o (omega arith) (omega arith)))

-- ---- the captures of a lambda
mutual
  captures_e : (e : Expr) (k : Placed) (ks : List Placed) (n : ℕ) (u : Use) (v : Env) (s : State) → (outermost k ks).number < n → NotUse (outermost k ks).number u
      → placed (outermost k ks).number (raw_e e n u (k ∷ ks) v s) ≡ walk_e e n u (captures (outermost k ks)) v s
  captures_e (var y) k ks n u v s l d =
      read_captures v.home k ks u (at n y) (mem y.name.bytes v.params) (mem y.name.bytes v.locals) (mem y.name.bytes s.assigned) (mem y.name.bytes s.view) l d
  captures_e (node y es) k ks n u v s l d = captures_es es k ks (suc n) v s (omega arith)
  captures_e (access y es) k ks n u v s l d = captures_es es k ks (suc n) v s (omega arith)
  captures_e (tuple y es) k ks n u v s l d = captures_es es k ks (suc n) v s (omega arith)
  captures_e (call y f es) k ks n u v s l d =
      placed_append (outermost k ks).number (raw_e f (suc n) (callee (at n y)) (k ∷ ks) v s) (raw_es es (suc n + len_e f) (k ∷ ks) v s)
      ∙ ap₂ ◌++◌ (captures_e f k ks (suc n) (callee (at n y)) v s (omega arith) (λ e. omega arith)) (captures_es es k ks (suc n + len_e f) v s (omega arith))
  captures_e (lambda y e) k ks n u v s l d = captures_e e (at n y) (k ∷ ks) (suc n) value (with_params y.params v) s (omega arith) tt

  captures_es : (es : Exprs) (k : Placed) (ks : List Placed) (n : ℕ) (v : Env) (s : State) → (outermost k ks).number < n
      → placed (outermost k ks).number (raw_es es n (k ∷ ks) v s) ≡ walk_es es n (captures (outermost k ks)) v s
  captures_es enil k ks n v s l = refl
  captures_es (econs e es) k ks n v s l =
      placed_append (outermost k ks).number (raw_e e n value (k ∷ ks) v s) (raw_es es (n + len_e e) (k ∷ ks) v s)
      ∙ ap₂ ◌++◌ (captures_e e k ks n value v s l tt) (captures_es es k ks (n + len_e e) v s (omega arith))

-- ---- expressions, in order
-- nothing stands at the call's line of what is no var
lead_none : (u : Use) (ls : List Placed) (n m : ℕ) (a : List Fault) → UseOk ls u n → ((l : ℕ) → NotLam l ls → Out l n m → placed l a ≡ []) → lead u a ≡ []
lead_none value ls n m a o h = refl
lead_none (callee c) ls n m a o h = let l : c.number < n = o.1 in ap (once []) (h c.number (lam_not c.number c.number ls (omega arith) o.0) (λ i j. omega arith))

call_order : (n i j : ℕ) (a b F G : List Fault) → placed n b ≡ [] → ((l : ℕ) → suc n ≤ l → l < suc n + i → placed l b ≡ [])
    → ((l : ℕ) → suc n + i ≤ l → l < suc n + i + j → placed l a ≡ []) → once [] (placed n a) ++ by_place_once (suc n) i a ≡ F → by_place_once (suc n + i) j b ≡ G
    → by_place_once n (suc (i + j)) (a ++ b) ≡ F ++ G
call_order n i j a b F G h p q e f =
    ap₂ ◌++◌ (ap (once []) (placed_left n a b h)) (by_two (suc n) i j a b p q)
    ∙ sym (append_assoc (once [] (placed n a)) (by_place_once (suc n) i a) (by_place_once (suc n + i) j b)) ∙ ap₂ ◌++◌ e f

-- a line with its expressions below
order_node : (es : Exprs) (ls : List Placed) (n : ℕ) (u : Use) (v : Env) (s : State) → LamBelow n ls → UseOk ls u n
    → by_place_once (suc n) (len_es es) (raw_es es (suc n) ls v s) ≡ walk_es es (suc n) (mode_of ls) v s
    → lead u (raw_es es (suc n) ls v s) ++ by_place_once n (suc (len_es es)) (raw_es es (suc n) ls v s) ≡ walk_es es (suc n) (mode_of ls) v s
order_node es ls n u v s b k e =
    ap₂ ◌++◌ (lead_none u ls n (suc (len_es es)) (raw_es es (suc n) ls v s) k (λ l c o. else_es es ls (suc n) v s l c (λ i j. o (omega arith) (omega arith))))
    (by_head n (len_es es) (raw_es es (suc n) ls v s) _ (else_es es ls (suc n) v s n (lam_not n n ls (omega arith) b) (λ i j. omega arith)) e)

mutual
  order_e : (e : Expr) (ls : List Placed) (n : ℕ) (u : Use) (v : Env) (s : State) → LamBelow n ls → UseOk ls u n
      → lead u (raw_e e n u ls v s) ++ by_place_once n (len_e e) (raw_e e n u ls v s) ≡ walk_e e n u (mode_of ls) v s
  order_e (var y) ls n u v s b k =
      read_order v.home ls u (at n y) (mem y.name.bytes v.params) (mem y.name.bytes v.locals) (mem y.name.bytes s.assigned) (mem y.name.bytes s.view) b k
  order_e (node y es) ls n u v s b k = order_node es ls n u v s b k (order_es es ls (suc n) v s (lam_up n (suc n) ls (omega arith) b))
  order_e (access y es) ls n u v s b k = order_node es ls n u v s b k (order_es es ls (suc n) v s (lam_up n (suc n) ls (omega arith) b))
  order_e (tuple y es) ls n u v s b k = order_node es ls n u v s b k (order_es es ls (suc n) v s (lam_up n (suc n) ls (omega arith) b))
  order_e (call y f es) ls n u v s b k =
      ap₂ ◌++◌ (lead_none u ls n (len_e (call y f es)) (raw_e (call y f es) n u ls v s) k (λ l c o. else_e (call y f es) ls n value v s l c o tt))
      (call_order n (len_e f) (len_es es) (raw_e f (suc n) (callee (at n y)) ls v s) (raw_es es (suc n + len_e f) ls v s) _ _
      (else_es es ls (suc n + len_e f) v s n (lam_not n n ls (omega arith) b) (λ i j. omega arith))
      (λ l p q. else_es es ls (suc n + len_e f) v s l (lam_not n l ls (omega arith) b) (λ i j. omega arith))
      (λ l p q. else_e f ls (suc n) (callee (at n y)) v s l (lam_not n l ls (omega arith) b) (λ i j. omega arith) (λ i. omega arith))
      (order_e f ls (suc n) (callee (at n y)) v s (lam_up n (suc n) ls (omega arith) b) (b, omega arith))
      (order_es es ls (suc n + len_e f) v s (lam_up n (suc n + len_e f) ls (omega arith) b)))
  order_e (lambda y e) [] n u v s b k =
      ap₂ ◌++◌ (lead_none u [] n (suc (len_e e)) (raw_e (lambda y e) n u [] v s) k (λ l c o. else_e (lambda y e) [] n value v s l c o tt))
      (ap₂ ◌++◌ (ap (once []) (captures_e e (at n y) [] (suc n) value (with_params y.params v) s (omega arith) tt)) (order_e e (at n y ∷ []) (suc n) value (with_params y.params v) s (omega arith) tt))
  order_e (lambda y e) (j ∷ js) n u v s b k =
      ap₂ ◌++◌ (lead_none u (j ∷ js) n (suc (len_e e)) (raw_e (lambda y e) n u (j ∷ js) v s) k (λ l c o. else_e (lambda y e) (j ∷ js) n value v s l c o tt))
      (by_head n (len_e e) (raw_e e (suc n) value (at n y ∷ j ∷ js) (with_params y.params v) s) _
      (else_e e (at n y ∷ j ∷ js) (suc n) value (with_params y.params v) s n (λ i. omega arith) (λ i g. omega arith) tt) (order_e e (at n y ∷ j ∷ js) (suc n) value (with_params y.params v) s (omega arith) tt))

  order_es : (es : Exprs) (ls : List Placed) (n : ℕ) (v : Env) (s : State) → LamBelow n ls → by_place_once n (len_es es) (raw_es es n ls v s) ≡ walk_es es n (mode_of ls) v s
  order_es enil ls n v s b = refl
  order_es (econs e es) ls n v s b =
      by_two n (len_e e) (len_es es) (raw_e e n value ls v s) (raw_es es (n + len_e e) ls v s)
      (λ l p q. else_es es ls (n + len_e e) v s l (lam_not n l ls p b) (λ i g. omega arith)) (λ l p q. else_e e ls n value v s l (lam_not n l ls (omega arith) b) (λ i g. omega arith) tt)
      ∙ ap₂ ◌++◌ (order_e e ls n value v s b tt) (order_es es ls (n + len_e e) v s (lam_up n (n + len_e e) ls (omega arith) b))

-- ---- targets
refused_order : (n m : ℕ) (y : Line) → by_place_once n (suc m) (refused_at n y ∷ []) ≡ refused_at n y ∷ []
refused_order n m y = by_alone n m (refused_at n y) (eqb_same n) (λ l i. ne_eqb l n (λ e. omega arith)) refl

mutual
  else_t : (t : Expr) (n : ℕ) (v : Env) (s : State) (l : ℕ) → Out l n (len_e t) → placed l (raw_t t n [] v s) ≡ []
  else_t (var y) n v s l o = refl
  else_t (node y es) n v s l o = one_else (refused_at n y) l (λ e. o (omega arith) (omega arith))
  else_t (access y es) n v s l o = else_es es [] (suc n) v s l tt (λ i j. o (omega arith) (omega arith))
  else_t (tuple y es) n v s l o = else_ts es (suc n) v s l (λ i j. o (omega arith) (omega arith))
  else_t (call y f es) n v s l o = one_else (refused_at n y) l (λ e. o (omega arith) (omega arith))
  else_t (lambda y e) n v s l o = one_else (refused_at n y) l (λ e. o (omega arith) (omega arith))

  else_ts : (es : Exprs) (n : ℕ) (v : Env) (s : State) (l : ℕ) → Out l n (len_es es) → placed l (raw_ts es n [] v s) ≡ []
  else_ts enil n v s l o = refl
  else_ts (econs e es) n v s l o =
      placed_none l (raw_t e n [] v s) (raw_ts es (n + len_e e) [] v (after_t e s)) (else_t e n v s l (λ i j. o (omega arith) (omega arith)))
      (else_ts es (n + len_e e) v (after_t e s) l (λ i j. o (omega arith) (omega arith)))

-- all of the faults a are placed at the m lines from n on
abbrev Within : ℕ → ℕ → List Fault → Type 0
Within n m a = (l : ℕ) → Out l n m → placed l a ≡ []

within_two : (n i j : ℕ) (a b : List Fault) → Within n i a → Within (n + i) j b → Within n (i + j) (a ++ b)
within_two n i j a b p q l o = placed_none l a b (p l (λ g h. o (omega arith) (omega arith))) (q l (λ g h. o (omega arith) (omega arith)))

by_pair : (n i j : ℕ) (a b F G : List Fault) → Within n i a → Within (n + i) j b → by_place_once n i a ≡ F → by_place_once (n + i) j b ≡ G → by_place_once n (i + j) (a ++ b) ≡ F ++ G
by_pair n i j a b F G p q e f = by_two n i j a b (λ l g h. q l (λ r t. omega arith)) (λ l g h. p l (λ r t. omega arith)) ∙ ap₂ ◌++◌ e f

by_line : (n m : ℕ) (a F : List Fault) → Within (suc n) m a → by_place_once (suc n) m a ≡ F → by_place_once n (suc m) a ≡ F
by_line n m a F p e = by_head n m a F (p n (λ i j. omega arith)) e

values_w : (es : Exprs) (n : ℕ) (v : Env) (s : State) → Within n (len_es es) (raw_es es n [] v s)
values_w es n v s l o = else_es es [] n v s l tt o

mutual
  order_t : (t : Expr) (n : ℕ) (v : Env) (s : State) → by_place_once n (len_e t) (raw_t t n [] v s) ≡ walk_t t n v s
  order_t (var y) n v s = refl
  order_t (node y es) n v s = refused_order n (len_es es) y
  order_t (access y es) n v s = by_line n (len_es es) (raw_es es (suc n) [] v s) _ (values_w es (suc n) v s) (order_es es [] (suc n) v s tt)
  order_t (tuple y es) n v s = by_line n (len_es es) (raw_ts es (suc n) [] v s) _ (else_ts es (suc n) v s) (order_ts es (suc n) v s)
  order_t (call y f es) n v s = refused_order n (len_e f + len_es es) y
  order_t (lambda y e) n v s = refused_order n (len_e e) y

  order_ts : (es : Exprs) (n : ℕ) (v : Env) (s : State) → by_place_once n (len_es es) (raw_ts es n [] v s) ≡ walk_ts es n v s
  order_ts enil n v s = refl
  order_ts (econs e es) n v s =
      by_pair n (len_e e) (len_es es) (raw_t e n [] v s) (raw_ts es (n + len_e e) [] v (after_t e s)) _ _ (else_t e n v s) (else_ts es (n + len_e e) v (after_t e s))
      (order_t e n v s) (order_ts es (n + len_e e) v (after_t e s))

-- ---- statements
-- a part of m lines from n on: its faults a stay at its lines, and in order are F
record Listing (n m : ℕ) (a F : List Fault) : Type 0 where
  within : Within n m a
  order : by_place_once n m a ≡ F

two : {n i j : ℕ} {a b F G : List Fault} → Listing n i a F → Listing (n + i) j b G → Listing n (i + j) (a ++ b) (F ++ G)
two {n} {i} {j} {a} {b} p q =
    record { within = within_two n i j a b p.within q.within; order = by_pair n i j a b _ _ p.within q.within p.order q.order }

-- below a line at which nothing is placed
below : {n m : ℕ} {a F : List Fault} → Listing (suc n) m a F → Listing n (suc m) a F
below {n} {m} {a} p = record { within = λ l o. p.within l (λ i j. o (omega arith) (omega arith)); order = by_line n m a _ p.within p.order }

-- lines after it at which nothing is placed
padded : {n m : ℕ} {a F : List Fault} (i : ℕ) → Listing n m a F → Listing n (m + i) a F
padded {n} {m} {a} {F} i p =
    record {
      within = λ l o. p.within l (λ g h. o g (omega arith));
      order = by_split n m i a ∙ ap₂ ◌++◌ p.order (by_none (n + m) i a (λ l g h. p.within l (λ x y. omega arith))) ∙ append-nil F;
    }

nothing : (n m : ℕ) → Listing n m [] []
nothing n m = record { within = λ l o. refl; order = by_nil n m }

value_p : (e : Expr) (n : ℕ) (v : Env) (s : State) → Listing n (len_e e) (raw_e e n value [] v s) (walk_e e n value plain v s)
value_p e n v s = record { within = λ l o. else_e e [] n value v s l tt o tt; order = order_e e [] n value v s tt tt }

values_p : (es : Exprs) (n : ℕ) (v : Env) (s : State) → Listing n (len_es es) (raw_es es n [] v s) (walk_es es n plain v s)
values_p es n v s = record { within = values_w es n v s; order = order_es es [] n v s tt }

target_p : (t : Expr) (n : ℕ) (v : Env) (s : State) → Listing n (len_e t) (raw_t t n [] v s) (walk_t t n v s)
target_p t n v s = record { within = else_t t n v s; order = order_t t n v s }

class_p : (h : Home) (n m : ℕ) (a F : List Fault) → Listing n m a F → Listing n m (in_classes h a) (in_classes h F)
class_p in_module n m a F p = p
class_p in_def n m a F p = nothing n m
class_p in_method n m a F p = nothing n m

-- a method's own line, and what is below
self_p : (t : Bool) (n m : ℕ) (y c : Line) (a F : List Fault) → Listing (suc n) m a F → Listing n (suc m) (unless t (selfless n y c) ++ a) (unless t (selfless n y c) ++ F)
self_p true n m y c a F p = below p
self_p false n m y c a F p =
    let f : Fault = selfless n y c in
    let one : placed n (f ∷ []) ≡ f ∷ [] = rw (eqb_same n) in
    record {
      within = λ l o. placed_none l (f ∷ []) a (one_else f l (λ e. o (omega arith) (omega arith))) (p.within l (λ i j. o (omega arith) (omega arith)));
      order = ap₂ ◌++◌ (ap (once []) (placed_left n (f ∷ []) a (p.within n (λ i j. omega arith)) ∙ one))
          (by_same (suc n) m (f ∷ a) a (λ l i j. rw (ne_eqb l n (λ e. omega arith))) ∙ p.order);
    }

mutual
  stmt_p : (t : Stmt) (n : ℕ) (v : Env) (s : State) → Listing n (len_s t) (raw_s t n [] v s) (walk_s t n v s)
  stmt_p (simple y es) n v s = below (values_p es (suc n) v s)
  stmt_p (assign y e t) n v s = below (two (value_p e (suc n) v s) (target_p t (suc n + len_e e) v s))
  stmt_p (block y c b) n v s = below (two (value_p c (suc n) v s) (stmts_p b (suc n + len_e c) v s))
  stmt_p (choice y c b k e) n v s =
      below (two (value_p c (suc n) v s) (two (stmts_p b (suc n + len_e c) v s)
      (two (stmts_p k (suc n + len_e c + len_ss b) v (after_ss b s)) (stmts_p e (suc n + len_e c + len_ss b + len_ss k) v (after_ss k (after_ss b s))))))
  stmt_p (for y e b) n v s = below (two (value_p e (suc n) v s) (stmts_p b (suc n + len_e e) v (assigning y.name s)))
  stmt_p (def y b) n v s = below (stmts_p b (suc n) (def_env y b) (entered y.params (naming y.name s)))
  stmt_p (class y ms ats) n v s =
      class_p v.home n (len_s (class y ms ats)) (raw_ms ms (suc n) y (naming y.name s)) _ (below (padded (len_as ats) (methods_p ms (suc n) y (naming y.name s))))

  stmts_p : (ts : Stmts) (n : ℕ) (v : Env) (s : State) → Listing n (len_ss ts) (raw_ss ts n [] v s) (walk_ss ts n v s)
  stmts_p snil n v s = nothing n 0
  stmts_p (scons t ts) n v s = two (stmt_p t n v s) (stmts_p ts (n + len_s t) v (after_s t s))

  methods_p : (ms : Methods) (n : ℕ) (c : Line) (s : State) → Listing n (len_ms ms) (raw_ms ms n c s) (walk_ms ms n c s)
  methods_p mnil n c s = nothing n 0
  methods_p (mcons y b ms) n c s =
      self_p (not (lacks_self y.params)) n (len_ss b + len_ms ms) y c _ _ (two (stmts_p b (suc n) method_env (entered y.params s)) (methods_p ms (suc n + len_ss b) c s))

-- For every tree, the faults by position are what the walk lists.
pub faults_walk : (t : Tree) → faults t ≡ walk t
faults_walk t =
    faults_once t ∙ ap (by_place_once (first_line t) (len_ss t.body)) (raw_faults t) ∙ (stmts_p t.body (first_line t) module_env (start_state t)).order
