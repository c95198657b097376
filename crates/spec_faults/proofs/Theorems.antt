-- The theorems about the definitions, for every tree, in one place. Their proofs stand in the files that the `use` lines name.
use Rattle.std.proofs.Common.{ℕ, ◌≤◌, ◌≡◌, refl, sym, ap, ◌∙◌, subst, ◌↔◌, true, cond, List, [], length}
use Rattle.std.proofs.Math.Option.{none}
use Rattle.spec_text.specs.Bytes.{any, all}
use Rattle.spec_text.specs.Tree.{Tree, len_ss}
use Rattle.spec_faults.specs.Faults.{Fault, is, keep, faults, is_fault, ordered, records, full_report}
use Rattle.spec_faults.specs.Rust.{Checked, Order, Rearranges, as_read, analyze_with_globals, Answers, no_error, first, captured}
use Rattle.spec_faults.specs.Rule.{Rule}
use Rattle.spec_faults.proofs.NoFaults.{no_faults}
use Rattle.spec_faults.proofs.ListingWalk.{walk}
use Rattle.spec_faults.proofs.Report.{listed_once, listed_are_faults, faults_are_listed, listed_in_order, faults_at_most_lines}
use Rattle.spec_faults.proofs.Order.{faults_walk}
use Rattle.spec_faults.proofs.Finds.{first_error, found_answers, found_first}
use Rattle.spec_faults.proofs.First.{rust_finds}

-- ---- The report lists exactly the faults.
-- Each fault is listed once, and what is no fault is not listed.
pub each_fault_once : (t : Tree) (k p r : ℕ) → length (keep (is k p r) (faults t)) ≡ cond (is_fault t k p r) 1 0
each_fault_once = listed_once

-- Every listed one is a fault.
pub only_faults : (t : Tree) → all (λ (f : Fault). is_fault t f.kind f.place f.line) (faults t) ≡ true
only_faults = listed_are_faults

-- Every fault is listed.
pub every_fault : (t : Tree) (k p r : ℕ) → is_fault t k p r ≡ true → any (is k p r) (faults t) ≡ true
every_fault = faults_are_listed

-- They stand strictly ordered by place, and then by read.
pub in_order : (t : Tree) → ordered (faults t) ≡ true
in_order = listed_in_order

-- There are at most as many as lines.
pub at_most_lines : (t : Tree) → length (faults t) ≤ len_ss t.body
at_most_lines = faults_at_most_lines

-- ---- There is none exactly when the rule holds of the tree.
pub rule_holds : (t : Tree) → (faults t ≡ []) ↔ Rule t
rule_holds = no_faults

-- ---- The Rust walk, in any order of a lambda's captured names: no error where there is no fault, else kind and span of the first fault,
-- with its message or that of another capture listed for the same lambda.
pub rust_any_order : (order : Order) → Rearranges order → (t : Tree) → Answers (analyze_with_globals order t) (faults t)
rust_any_order order h t = subst (Answers (analyze_with_globals order t)) (sym (faults_walk t)) (found_answers (rust_finds order h t))

-- In the order of the reads it answers with kind, message and span of the first fault.
pub rust_walk : (t : Tree) → analyze_with_globals as_read t ≡ first_error (faults t)
rust_walk t = found_first (rust_finds as_read (λ l xs x. refl) t) ∙ ap first_error (sym (faults_walk t))

-- No error exactly where the full report is empty.
pub rust_accepts : (order : Order) → Rearranges order → (t : Tree) → (analyze_with_globals order t ≡ none) ↔ (full_report t ≡ [])
rust_accepts order h t = (empty (rust_any_order order h t), no_errors (rust_any_order order h t))
  where
    empty : {c : Checked} {fs : List Fault} → Answers c fs → c ≡ none → records fs ≡ []
    empty no_error e = refl
    empty first e = absurd cc
    empty (captured c i k p s f) e = absurd cc

    no_errors : {c : Checked} {fs : List Fault} → Answers c fs → records fs ≡ [] → c ≡ none
    no_errors no_error e = refl
    no_errors first e = absurd cc
    no_errors (captured c i k p s f) e = absurd cc

-- ---- The walk that lists everything, with names in view, locals and assigned names, gives the same list.
pub walk_lists : (t : Tree) → walk t ≡ faults t
walk_lists t = sym (faults_walk t)
