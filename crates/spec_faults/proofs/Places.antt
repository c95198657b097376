-- Every fault of a tree has its place within the tree's lines.
-- A read's place is its line, its call's or that of a lambda around it, and all of them lie within the part that is walked: by induction over
-- the tree, with the call and the lambdas around a part given to lie there.
use Rattle.std.proofs.Common.{ℕ, suc, ◌+◌, ◌≤◌, ◌<◌, arith, le_refl, Bool, true, false, not, List, [], ◌∷◌}
use Rattle.spec_text.specs.Tree.{Line, Expr, Exprs, Attrs, Stmt, Stmts, Methods, Tree, var, node, access, tuple, call, lambda, enil, econs, anil, acons, simple, assign, block, choice, for, def, class, snil, scons, mnil, mcons, len_e, len_es, len_s, len_ss, len_ms, first_line}
use Rattle.spec_faults.specs.Position.{Placed, Home, in_module, in_def, in_method, Where, Use, value, callee, Visited, at_module, under_lambda, under_block, under_class, lines_e, lines_es, lines_t, lines_ts, lines_as, lines_s, lines_ss, lines_ms, visited}
use Rattle.spec_faults.specs.Bindings.{Binding, bindings}
use Rattle.spec_faults.specs.Faults.{Fault, outermost, unless, lacks_self, refused_at, selfless, fault_of, judge}
use Rattle.spec_faults.proofs.Lists.{All, none, also, all_append}
use Rattle.spec_faults.proofs.Read.{PlaceOf, itself, its_call, its_lambda, read_fault}

abbrev Within : ℕ → ℕ → ℕ → Type 0
Within lo hi n = (lo ≤ n) × (n < hi)

abbrev CallWithin : ℕ → ℕ → Use → Type 0
CallWithin lo hi value = Unit {0}
CallWithin lo hi (callee c) = Within lo hi c.number

abbrev EachWithin : ℕ → ℕ → List Placed → Type 0
EachWithin lo hi [] = Unit {0}
EachWithin lo hi (p ∷ ps) = Within lo hi p.number × EachWithin lo hi ps

abbrev pub PlacedWithin : ℕ → ℕ → List Fault → Type 0
PlacedWithin lo hi fs = All (λ (f : Fault). Within lo hi f.place) fs

module _ (lo hi : ℕ) where
  outermost_within : (p : Placed) (ps : List Placed) → EachWithin lo hi (p ∷ ps) → Within lo hi (outermost p ps).number
  outermost_within p [] d = d.0
  outermost_within p (q ∷ qs) d = outermost_within q qs d.1

  place_within : {r p : Placed} {ls : List Placed} {u : Use} → PlaceOf r ls u p → Within lo hi r.number → CallWithin lo hi u → EachWithin lo hi ls → Within lo hi p.number
  place_within itself h c d = h
  place_within its_call h c d = c
  place_within (its_lambda {q} {qs}) h c d = outermost_within q qs d

  one_within : (f : Fault) → Within lo hi f.place → PlacedWithin lo hi (f ∷ [])
  one_within f h = also h none

  unless_within : (b : Bool) (f : Fault) → Within lo hi f.place → PlacedWithin lo hi (unless b f)
  unless_within true f h = none
  unless_within false f h = one_within f h

  -- ---- the parts of a tree
  module _ (bs : List Binding) where
    abbrev Lines : List Visited → Type 0
    Lines vs = All (λ (v : Visited). PlacedWithin lo hi (fault_of bs v)) vs

    line : (v : Visited) {vs : List Visited} → PlacedWithin lo hi (fault_of bs v) → Lines vs → Lines (v ∷ vs)
    line v h r = also {a = v} h r

    mutual
      within_e : (e : Expr) (n : ℕ) (u : Use) (w : Where) → lo ≤ n → n + len_e e ≤ hi → CallWithin lo hi u → EachWithin lo hi w.lambdas → Lines (lines_e e n u w)
      within_e (var l) n u w i j c d = line _ (read_fault (PlacedWithin lo hi) bs u n l w none (λ k p m. one_within _ (place_within m (omega arith) c d))) none
      within_e (node l es) n u w i j c d = line _ none (within_es es (suc n) w (omega arith) (omega arith) d)
      within_e (access l es) n u w i j c d = line _ none (within_es es (suc n) w (omega arith) (omega arith) d)
      within_e (tuple l es) n u w i j c d = line _ none (within_es es (suc n) w (omega arith) (omega arith) d)
      within_e (call l f es) n u w i j c d =
          line _ none (all_append (within_e f (suc n) _ w (omega arith) (omega arith) (omega arith) d) (within_es es (suc n + len_e f) w (omega arith) (omega arith) d))
      within_e (lambda l e) n u w i j c d = line _ none (within_e e (suc n) value (under_lambda n l w) (omega arith) (omega arith) tt (omega arith, d))

      within_es : (es : Exprs) (n : ℕ) (w : Where) → lo ≤ n → n + len_es es ≤ hi → EachWithin lo hi w.lambdas → Lines (lines_es es n w)
      within_es enil n w i j d = none
      within_es (econs e es) n w i j d = all_append (within_e e n value w i (omega arith) tt d) (within_es es (n + len_e e) w (omega arith) (omega arith) d)

    mutual
      within_t : (e : Expr) (n : ℕ) (w : Where) → lo ≤ n → n + len_e e ≤ hi → EachWithin lo hi w.lambdas → Lines (lines_t e n w)
      within_t (var l) n w i j d = line _ none none
      within_t (node l es) n w i j d = line _ (one_within (refused_at n l) (omega arith)) none
      within_t (access l es) n w i j d = line _ none (within_es es (suc n) w (omega arith) (omega arith) d)
      within_t (tuple l es) n w i j d = line _ none (within_ts es (suc n) w (omega arith) (omega arith) d)
      within_t (call l f es) n w i j d = line _ (one_within (refused_at n l) (omega arith)) none
      within_t (lambda l e) n w i j d = line _ (one_within (refused_at n l) (omega arith)) none

      within_ts : (es : Exprs) (n : ℕ) (w : Where) → lo ≤ n → n + len_es es ≤ hi → EachWithin lo hi w.lambdas → Lines (lines_ts es n w)
      within_ts enil n w i j d = none
      within_ts (econs e es) n w i j d = all_append (within_t e n w i (omega arith) d) (within_ts es (n + len_e e) w (omega arith) (omega arith) d)

    within_as : (ats : Attrs) (n : ℕ) (w : Where) → Lines (lines_as ats n w)
    within_as anil n w = none
    within_as (acons l e ats) n w = line _ none (within_as ats (suc n + len_e e) w)

    within_class : (k : Home) {vs : List Visited} → Lines vs → Lines (under_class k vs)
    within_class in_module a = a
    within_class in_def a = none
    within_class in_method a = none

    mutual
      within_s : (s : Stmt) (n : ℕ) (w : Where) → lo ≤ n → n + len_s s ≤ hi → EachWithin lo hi w.lambdas → Lines (lines_s s n w)
      within_s (simple l es) n w i j d = line _ none (within_es es (suc n) w (omega arith) (omega arith) d)
      within_s (assign l e t) n w i j d =
          line _ none (all_append (within_e e (suc n) value w (omega arith) (omega arith) tt d) (within_t t (suc n + len_e e) w (omega arith) (omega arith) d))
      within_s (block l c b) n w i j d =
          line _ none (all_append (within_e c (suc n) value w (omega arith) (omega arith) tt d) (within_ss b (suc n + len_e c) w (omega arith) (omega arith) d))
      within_s (choice l c b k e) n w i j d =
          line _ none (all_append (within_e c (suc n) value w (omega arith) (omega arith) tt d)
          (all_append (within_ss b (suc n + len_e c) w (omega arith) (omega arith) d)
          (all_append (within_ss k (suc n + len_e c + len_ss b) w (omega arith) (omega arith) d)
          (within_ss e (suc n + len_e c + len_ss b + len_ss k) w (omega arith) (omega arith) d))))
      within_s (for l e b) n w i j d =
          line _ none (all_append (within_e e (suc n) value w (omega arith) (omega arith) tt d) (within_ss b (suc n + len_e e) w (omega arith) (omega arith) d))
      within_s (def l b) n w i j d = line _ none (within_ss b (suc n) (under_block in_def n w) (omega arith) (omega arith) tt)
      within_s (class l ms ats) n w i j d =
          line _ none (within_class w.home (all_append (within_ms ms (suc n) l w (omega arith) (omega arith)) (within_as ats (suc n + len_ms ms) w)))

      within_ss : (ss : Stmts) (n : ℕ) (w : Where) → lo ≤ n → n + len_ss ss ≤ hi → EachWithin lo hi w.lambdas → Lines (lines_ss ss n w)
      within_ss snil n w i j d = none
      within_ss (scons s ss) n w i j d = all_append (within_s s n w i (omega arith) d) (within_ss ss (n + len_s s) w (omega arith) (omega arith) d)

      within_ms : (ms : Methods) (n : ℕ) (c : Line) (w : Where) → lo ≤ n → n + len_ms ms ≤ hi → Lines (lines_ms ms n c w)
      within_ms mnil n c w i j = none
      within_ms (mcons l b ms) n c w i j =
          line _ (unless_within (not (lacks_self l.params)) (selfless n l c) (omega arith))
          (all_append (within_ss b (suc n) (under_block in_method n w) (omega arith) (omega arith) tt) (within_ms ms (suc n + len_ss b) c w (omega arith) (omega arith)))

all_judge : {P : Fault → Type 0} (bs : List Binding) {vs : List Visited} → All (λ (v : Visited). All P (fault_of bs v)) vs → All P (judge bs vs)
all_judge bs none = none
all_judge bs (also h a) = all_append h (all_judge bs a)

pub faults_within : (t : Tree) → PlacedWithin (first_line t) (first_line t + len_ss t.body) (judge (bindings t) (visited t))
faults_within t =
    let hi : ℕ = first_line t + len_ss t.body in
    all_judge (bindings t) (within_ss (first_line t) hi (bindings t) t.body (first_line t) at_module (le_refl _) (le_refl _) tt)
