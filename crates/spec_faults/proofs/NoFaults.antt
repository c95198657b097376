-- A tree has no fault exactly when the rule holds of it: a line has none exactly when what the rule says of its role holds, and the list by
-- place is empty only where nothing was judged at fault.
use Rattle.std.proofs.Common.{ℕ, zero, suc, ◌+◌, ◌≤◌, ◌<◌, arith, ◌≡◌, refl, sym, ap, ap₂, ◌∙◌, subst, ◌↔◌, ◌⊎◌, inl, inr, ⊎_elim, Bool, true, false, cond, not, true≢false, List, [], ◌∷◌, ◌++◌, eqb}
use Rattle.std.proofs.lemmas.Bool.{false≢true, eqb-false, not-false}
use Rattle.std.proofs.Math.Logic.{⊎_map}
use Rattle.spec_text.specs.Bytes.{bytes, same, Part, In, here, there}
use Rattle.spec_text.specs.Tree.{Line, Tree, len_ss, first_line}
use Rattle.spec_text.proofs.Lists.{same_refl}
use Rattle.spec_faults.specs.Position.{Placed, Home, numbers, blocks, Use, Role, is_read, is_target, is_refused, is_def, is_class, is_lambda, is_other, is_for, is_method, Visited, visited}
use Rattle.spec_faults.specs.Bindings.{Binding, bindings}
use Rattle.spec_faults.specs.Faults.{Fault, bound, own, unless, lacks_self, selfless, capture, judge_read, judged, fault_of, judge, keep, repeated, by_place, faults}
use Rattle.spec_faults.specs.Rule.{Bound, Assigned, LambdaParam, Own, SelfFirst, Rule}
use Rattle.spec_faults.proofs.Lists.{same_eq, also}
use Rattle.spec_faults.proofs.FoundBindings.{bound_from, from_bound, assigned_from, from_assigned, own_from_lem, from_own, assigned_in_view, lambda_in_view}
use Rattle.spec_faults.proofs.LambdaParams.{lambda_param_lem}
use Rattle.spec_faults.proofs.ListingWalk.{once}
use Rattle.spec_faults.proofs.Once.{placed, by_place_once, faults_once}
use Rattle.spec_faults.proofs.Places.{PlacedWithin, faults_within}
use Rattle.spec_faults.proofs.Report.{by_place-nil}

-- ---- a read has no fault exactly when its name is in view and, where it is an own name, is assigned or a lambda's parameter
read_fine : (h : Home) (ls : List Placed) (u : Use) (r : Placed) (p o a v : Bool) → judge_read h ls u r p o a v ≡ []
    → (p ≡ true → v ≡ true) → (a ≡ true → v ≡ true) → (v ≡ true) × (o ≡ true → (a ≡ true) ⊎ (p ≡ true))
read_fine h ls u r true o a v e f g = (f refl, λ i. inr refl)
read_fine h ls u r false true true v e f g = (g refl, λ i. inl refl)
read_fine h ls u r false true false v e f g = absurd cc
read_fine h ls u r false false a true e f g = (refl, λ i. absurd (false≢true i))
read_fine h ls u r false false a false e f g = absurd cc

fine_read : (h : Home) (ls : List Placed) (u : Use) (r : Placed) (p o a v : Bool) → v ≡ true → (o ≡ true → (a ≡ true) ⊎ (p ≡ true)) → judge_read h ls u r p o a v ≡ []
fine_read h ls u r true o a v e f = refl
fine_read h ls u r false true true v e f = refl
fine_read h ls u r false true false v e f = absurd (⊎_elim false≢true false≢true (f refl))
fine_read h ls u r false false a true e f = refl
fine_read h ls u r false false a false e f = absurd (false≢true e)

-- ---- a method
self_from : (ps : List Part) → lacks_self ps ≡ false → SelfFirst ps
self_from [] e = absurd (true≢false e)
self_from (p ∷ ps) e = record { first = p; others = ps; there = refl; self = same_eq p.bytes (bytes "self") (not-false (same p.bytes (bytes "self")) e) }

from_self : (ps : List Part) → SelfFirst ps → lacks_self ps ≡ false
from_self ps s = ap lacks_self s.there ∙ ap not (ap (λ y. same y (bytes "self")) s.self ∙ same_refl (bytes "self"))

-- ---- a line: it has no fault exactly when what the rule says of its role holds
record Fine (t : Tree) (v : Visited) : Type 0 where
  reads : (u : Use) → v.role ≡ is_read u → Bound t v (blocks v.at) × (Own t v → Assigned t v ⊎ LambdaParam v)
  target : v.role ≡ is_refused → ⊥
  method : (c : Line) → v.role ≡ is_method c → SelfFirst v.line.params

module _ (t : Tree) (v : Visited) (i : In v (visited t)) where
  abbrev of_role : Role → List Fault
  of_role r = judged (bindings t) r v.number v.line v.at

  -- a test of a read, over the blocks of the lambdas between and over all blocks around
  abbrev bound_among : List ℕ → Bool
  bound_among ks = bound v.line.name.bytes ks v.number (bindings t)

  param_from : bound_among (numbers v.at.lambdas) ≡ true → LambdaParam v
  param_from e = (lambda_param_lem t v i).0 (bound_from t v (numbers v.at.lambdas) e)

  from_param : LambdaParam v → bound_among (numbers v.at.lambdas) ≡ true
  from_param p = from_bound t v (numbers v.at.lambdas) ((lambda_param_lem t v i).1 p)

  fine_from : fault_of (bindings t) v ≡ [] → Fine t v
  fine_from e = record { reads = reads; target = λ d. let e = as_role is_refused d in cc; method = method }
    where
      as_role : (r : Role) → v.role ≡ r → of_role r ≡ []
      as_role r d = subst (λ (r : Role). of_role r ≡ []) d e

      reads : (u : Use) → v.role ≡ is_read u → Bound t v (blocks v.at) × (Own t v → Assigned t v ⊎ LambdaParam v)
      reads u d =
          let all = blocks v.at in
          let p =
          read_fine v.at.home v.at.lambdas u (record { number = v.number; line = v.line }) _
          (own v.at.home v.line.name.bytes v.at.block (bindings t)) _ _ (as_role (is_read u) d)
          (λ e. from_bound t v all (lambda_in_view t v (bound_from t v (numbers v.at.lambdas) e)))
          (λ e. from_bound t v all (assigned_in_view t v (assigned_from t v e))) in
          (bound_from t v all p.0, λ o. ⊎_map (assigned_from t v) param_from (p.1 (from_own t v o)))

      unlacked : (c : Line) (b : Bool) → unless (not b) (selfless v.number v.line c) ≡ [] → b ≡ false
      unlacked c false e = refl
      unlacked c true e = absurd cc

      method : (c : Line) → v.role ≡ is_method c → SelfFirst v.line.params
      method c d = self_from v.line.params (unlacked c (lacks_self v.line.params) (as_role (is_method c) d))

  from_fine : Fine t v → fault_of (bindings t) v ≡ []
  from_fine f = go v.role refl
    where
      go : (r : Role) → v.role ≡ r → of_role r ≡ []
      go (is_read u) d =
          let p = f.reads u d in
          fine_read v.at.home v.at.lambdas u (record { number = v.number; line = v.line }) _ _ _ _ (from_bound t v (blocks v.at) p.0)
          (λ o. ⊎_map (from_assigned t v) from_param (p.1 (own_from_lem t v o)))
      go is_target d = refl
      go is_refused d = absurd (f.target d)
      go is_def d = refl
      go is_class d = refl
      go is_lambda d = refl
      go is_other d = refl
      go (is_for m) d = refl
      go (is_method c) d = ap (λ b. unless (not b) (selfless v.number v.line c)) (from_self v.line.params (f.method c d))

-- ---- no fault is listed exactly when no visited line has one
no_end : {A : Type 0} (a b : List A) → a ++ b ≡ [] → (a ≡ []) × (b ≡ [])
no_end [] b e = (refl, e)
no_end (x ∷ a) b e = absurd cc

each_line : (bs : List Binding) (vs : List Visited) → judge bs vs ≡ [] → (v : Visited) → In v vs → fault_of bs v ≡ []
each_line bs [] e v i = elim i [ ]
each_line bs (w ∷ vs) e v here = (no_end (fault_of bs v) (judge bs vs) e).0
each_line bs (w ∷ vs) e v (there i) = each_line bs vs (no_end (fault_of bs w) (judge bs vs) e).1 v i

no_line_lem : (bs : List Binding) (vs : List Visited) → ((v : Visited) → In v vs → fault_of bs v ≡ []) → judge bs vs ≡ []
no_line_lem bs [] h = refl
no_line_lem bs (v ∷ vs) h = ap₂ ◌++◌ (h v here) (no_line_lem bs vs (λ w i. h w (there i)))

first_listed : (f : Fault) (fs : List Fault) → once [] (f ∷ fs) ≡ [] → ⊥
first_listed f fs = go (capture f.kind)
  where
    go : (b : Bool) → cond b (f ∷ once (f.name ∷ []) fs) (f ∷ once [] fs) ≡ [] → ⊥
    go true e = cc
    go false e = cc

listed : (n m : ℕ) (f : Fault) (fs : List Fault) → n ≤ f.place → f.place < n + m → by_place_once n m (f ∷ fs) ≡ [] → ⊥
listed n zero f fs l h e = omega arith
listed n (suc m) f fs l h e =
    go (eqb n f.place) refl (no_end (once [] (placed n (f ∷ fs))) (by_place_once (suc n) m (f ∷ fs)) e) (listed (suc n) m f fs)
  where
    go : (b : Bool) → eqb n f.place ≡ b → (once [] (cond b (f ∷ placed n fs) (placed n fs)) ≡ []) × (by_place_once (suc n) m (f ∷ fs) ≡ [])
        → (suc n ≤ f.place → f.place < suc n + m → by_place_once (suc n) m (f ∷ fs) ≡ [] → ⊥) → ⊥
    go true d p next = first_listed f (placed n fs) p.0
    go false d p next = next (omega (arith, eqb-false n f.place d)) (omega arith) p.1

nothing_judged : (t : Tree) → faults t ≡ [] → judge (bindings t) (visited t) ≡ []
nothing_judged t e = go (judge (bindings t) (visited t)) (faults_within t) (sym (faults_once t) ∙ e)
  where
    go : (fs : List Fault) → PlacedWithin (first_line t) (first_line t + len_ss t.body) fs → by_place_once (first_line t) (len_ss t.body) fs ≡ [] → fs ≡ []
    go [] w d = refl
    go (f ∷ fs) (also h r) d = absurd (listed (first_line t) (len_ss t.body) f fs h.0 h.1 d)

nothing_listed : (t : Tree) → judge (bindings t) (visited t) ≡ [] → faults t ≡ []
nothing_listed t e =
    ap (λ fs. by_place (first_line t) (len_ss t.body) (keep (λ (f : Fault). not (repeated (bindings t) (visited t) f)) fs)) e
    ∙ by_place-nil (first_line t) (len_ss t.body)

-- ---- a tree
pub no_faults : (t : Tree) → (faults t ≡ []) ↔ Rule t
no_faults t = (to, λ r. nothing_listed t (no_line_lem (bindings t) (visited t) (λ v i. from_fine t v i (fine r v i))))
  where
    to : faults t ≡ [] → Rule t
    to e =
        let f : (v : Visited) → In v (visited t) → Fine t v = λ v i. fine_from t v i (each_line (bindings t) (visited t) (nothing_judged t e) v i) in
        record {
          every_read = λ v i u d. ((f v i).reads u d).0;
          own_name = λ v i u d. ((f v i).reads u d).1;
          target = λ v i. (f v i).target;
          method = λ v i. (f v i).method;
        }

    fine : Rule t → (v : Visited) → In v (visited t) → Fine t v
    fine r v i = record { reads = λ u d. (r.every_read v i u d, r.own_name v i u d); target = r.target v i; method = r.method v i }
