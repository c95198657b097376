-- Every listed fault has a kind from 8 to 15, and one of kind 14 has no name.
use Rattle.std.proofs.Common.{ℕ, zero, suc, ◌≤◌, arith, ◌≡◌, refl, Bool, true, false, not, List, [], ◌∷◌, eqb}
use Rattle.spec_text.specs.Bytes.{no_part}
use Rattle.spec_text.specs.Tree.{Line, Tree, len_ss, first_line}
use Rattle.spec_faults.specs.Position.{Placed, Home, in_module, in_def, in_method, Where, Use, value, callee, Role, is_read, is_target, is_refused, is_def, is_class, is_lambda, is_other, is_for, is_method, Visited, visited}
use Rattle.spec_faults.specs.Bindings.{Binding, bindings}
use Rattle.spec_faults.specs.Faults.{Fault, lambda_param, own, assigned, in_view, lacks_self, unless, refused_at, selfless, judge_read, judged, judge, repeated, by_place, faults}
use Rattle.spec_faults.proofs.Lists.{All, none, also, all_append, all_keep}

pub record FromEight (f : Fault) : Type 0 where
  pub least : 8 ≤ f.kind
  pub most : f.kind ≤ 15
  pub nameless : f.kind ≡ 14 → f.name ≡ no_part

named : {f : Fault} → 8 ≤ f.kind → f.kind ≤ 15 → (f.kind ≡ 14 → ⊥) → FromEight f
named l m d = record { least = l; most = m; nameless = λ e. absurd (d e) }

if_faulty : (b : Bool) (f : Fault) → FromEight f → All FromEight (unless b f)
if_faulty true f h = none
if_faulty false f h = also h none

of_read : (h : Home) (ls : List Placed) (u : Use) (r : Placed) (p o a v : Bool) → All FromEight (judge_read h ls u r p o a v)
of_read h ls u r true o a v = none
of_read h [] value r false true a v = if_faulty a _ (named (omega arith) (omega arith) (λ e. omega arith))
of_read h [] (callee c) r false true a v = if_faulty a _ (named (omega arith) (omega arith) (λ e. omega arith))
of_read h (q ∷ ls) u r false true a v = if_faulty a _ (named (omega arith) (omega arith) (λ e. omega arith))
of_read h [] value r false false a v = if_faulty v _ (named (omega arith) (omega arith) (λ e. omega arith))
of_read h [] (callee c) r false false a v = if_faulty v _ (named (omega arith) (omega arith) (λ e. omega arith))
of_read in_module (q ∷ ls) u r false false a v = if_faulty v _ (named (omega arith) (omega arith) (λ e. omega arith))
of_read in_def (q ∷ ls) value r false false a v = if_faulty v _ (named (omega arith) (omega arith) (λ e. omega arith))
of_read in_def (q ∷ ls) (callee c) r false false a v = if_faulty v _ (named (omega arith) (omega arith) (λ e. omega arith))
of_read in_method (q ∷ ls) value r false false a v = if_faulty v _ (named (omega arith) (omega arith) (λ e. omega arith))
of_read in_method (q ∷ ls) (callee c) r false false a v = if_faulty v _ (named (omega arith) (omega arith) (λ e. omega arith))

of_judged : (bs : List Binding) (k : Role) (n : ℕ) (l : Line) (w : Where) → All FromEight (judged bs k n l w)
of_judged bs (is_read u) n l w =
    of_read w.home w.lambdas u (record { number = n; line = l }) (lambda_param l.name.bytes n w bs)
    (own w.home l.name.bytes w.block bs) (assigned l.name.bytes w.block n bs) (in_view l.name.bytes n w bs)
of_judged bs is_target n l w = none
of_judged bs is_refused n l w = if_faulty false (refused_at n l) (record { least = omega arith; most = omega arith; nameless = λ e. refl })
of_judged bs is_def n l w = none
of_judged bs is_class n l w = none
of_judged bs is_lambda n l w = none
of_judged bs is_other n l w = none
of_judged bs (is_for m) n l w = none
of_judged bs (is_method c) n l w = if_faulty (not (lacks_self l.params)) (selfless n l c) (named (omega arith) (omega arith) (λ e. omega arith))

of_judge : (bs : List Binding) (vs : List Visited) → All FromEight (judge bs vs)
of_judge bs [] = none
of_judge bs (v ∷ vs) = all_append (of_judged bs v.role v.number v.line v.at) (of_judge bs vs)

of_places : (n m : ℕ) (fs : List Fault) → All FromEight fs → All FromEight (by_place n m fs)
of_places n zero fs h = none
of_places n (suc m) fs h = all_append (all_keep (λ (f : Fault). eqb n f.place) h) (of_places (suc n) m fs h)

pub kinds : (t : Tree) → All FromEight (faults t)
kinds t =
    of_places (first_line t) (len_ss t.body) _
    (all_keep (λ (f : Fault). not (repeated (bindings t) (visited t) f)) (of_judge (bindings t) (visited t)))
