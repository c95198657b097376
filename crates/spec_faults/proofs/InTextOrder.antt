-- In the text's order, the faults by position of a whole tree are those of a walk that carries the names in view, the locals and the assigned
-- names (TextWalk). The idea: at each line the names in view are those that a binding standing earlier binds in a block around, and a part
-- of the tree adds just its own bindings to what stands earlier (Covers). The given names stand before all.
use Rattle.std.proofs.Common.{ℕ, ◌+◌, ◌≤◌, ◌<◌, arith, ◌≡◌, refl, sym, ap, ap₂, ◌∙◌, Bool, false, ◌&&◌, ◌||◌, List, [], ◌∷◌, ◌++◌, map, eqb, ne_eqb, le-leb}
use Rattle.std.proofs.Math.Bool.{or-false, and-false}
use Rattle.spec_text.specs.Bytes.{Bytes, Part, same, mem, any}
use Rattle.spec_text.specs.Tree.{Stmts, Tree, len_ss, first_line}
use Rattle.spec_faults.specs.Builtins.{builtin_names}
use Rattle.spec_faults.specs.Position.{in_module, at_module, lines_ss, visited}
use Rattle.spec_faults.specs.Bindings.{given, Binding, bind, given_to, bindings, counts}
use Rattle.spec_faults.specs.Faults.{earlier, among, judge}
use Rattle.spec_faults.proofs.Lists.{any_append}
use Rattle.spec_faults.proofs.Bound.{binds_ss, bound_ss, range_ss}
use Rattle.spec_faults.proofs.ListingWalk.{module_env, start_state}
use Rattle.spec_faults.proofs.TextWalk.{raw_ss}
use Rattle.spec_faults.proofs.Earlier.{bound_nil, not_yet}
use Rattle.spec_faults.proofs.TextStmts.{main_ss}

abbrev givens : List Part → List Binding
givens ps = map (bind given 1 1) ps

given_earlier : (ps : List Part) (n : ℕ) → 1 ≤ n → (f : Binding → Bool) → any (λ b. earlier n b && f b) (givens ps) ≡ any f (givens ps)
given_earlier [] n l f = refl
given_earlier (p ∷ ps) n l f = ap₂ ◌||◌ (ap (λ t. t && f (bind given 1 1 p)) (le-leb 1 n l)) (given_earlier ps n l f)

given_view : (ps : List Part) (x : Bytes) → any (λ (b : Binding). among b.block (1 ∷ []) && same x b.name.bytes) (givens ps) ≡ mem x ps
given_view [] x = refl
given_view (p ∷ ps) x = ap (λ t. same x p.bytes || t) (given_view ps x)

given_block : (ps : List Part) (k : ℕ) (f : Binding → Bool) → 1 < k → any (λ (b : Binding). eqb k b.block && f b) (givens ps) ≡ false
given_block [] k f l = refl
given_block (p ∷ ps) k f l = ap₂ ◌||◌ (ap (λ t. t && f (bind given 1 1 p)) (ne_eqb k 1 (λ e. omega arith))) (given_block ps k f l)

given_counts : (ps : List Part) (x : Bytes) (k : ℕ) → any (λ (b : Binding). eqb k b.block && (same x b.name.bytes && counts b.how)) (givens ps) ≡ false
given_counts [] x k = refl
given_counts (p ∷ ps) x k = ap₂ ◌||◌ (ap (λ t. eqb k 1 && t) (and-false (same x p.bytes)) ∙ and-false (eqb k 1)) (given_counts ps x k)

module _ (ps : List Part) (ss : Stmts) (n : ℕ) (l : 1 < n) where
  raw_given : judge (givens ps ++ binds_ss ss n 1 in_module) (lines_ss ss n at_module) ≡ raw_ss ss n [] module_env (record { view = ps; assigned = [] })
  raw_given =
      let D : List Binding = binds_ss ss n 1 in_module in
      let B : List Binding = givens ps ++ D in
      let r = range_ss ss n 1 in_module in
      let at : (i : ℕ) → n ≤ i → (f : Binding → Bool) → any (λ b. earlier i b && f b) B ≡ (any f (givens ps) || any (λ b. earlier i b && f b) D) =
      λ i p f. any_append _ (givens ps) D ∙ ap (λ t. t || any (λ b. earlier i b && f b) D) (given_earlier ps i (omega arith) f) in
      let start : (f : Binding → Bool) → any (λ b. earlier n b && f b) B ≡ any f (givens ps) =
      λ f. at n (omega arith) f ∙ ap (λ t. any f (givens ps) || t) (not_yet 1 n _ _ n D (omega arith) r f) ∙ or-false _ in
      (main_ss B ss n (n + len_ss ss) at_module module_env (record { view = ps; assigned = [] }) (omega arith) refl
      (record {
        adds = λ i p q f. at i p f ∙ ap (λ t. t || any (λ b. earlier i b && f b) D) (sym (start f));
        owns = λ k p q f. any_append _ (givens ps) D ∙ ap (λ t. t || any (λ b. eqb k b.block && f b) D) (given_block ps k f (omega arith));
      })
      (record {
        below = (l, tt);
        hom = refl;
        ows = λ x. refl;
        par = λ x. sym (bound_nil B x n);
        view = λ x. sym (start (λ b. among b.block (1 ∷ []) && same x b.name.bytes) ∙ given_view ps x);
        asg = λ x. sym (start (λ b. eqb 1 b.block && (same x b.name.bytes && counts b.how)) ∙ given_counts ps x 1);
      })).faults

pub raw_faults : (t : Tree) → judge (bindings t) (visited t) ≡ raw_ss t.body (first_line t) [] module_env (start_state t)
raw_faults t =
    ap (λ D. judge (given_to t ++ D) (visited t)) (bound_ss t.body (first_line t) at_module)
    ∙ raw_given (builtin_names ++ t.globals) t.body (first_line t) (omega arith)
