-- What is left of the rows gives what is wanted.
use Rattle.std.proofs.Common.{◌-◌, ◌≡◌, ◌<◌, ℕ, List}
use Rattle.work_rows.specs.LoopsModel.{rows_to}
use Rattle.walk_own_names.proofs.each_row.Given as goal

abbrev pub invariant-loop-at : goal.invariant-loop-at
invariant-loop-at g l =
    (n : List ℕ → ℕ → ℕ) (f : ℕ → List ℕ → List ℕ) → ((v : List ℕ) (i : ℕ) → i < n v i) → ((v : _) (i j : ℕ) → goal.N-post g l.next v i j → j ≡ n v.now i)
    → ((v w : _) (i : ℕ) → goal.F-post g l.row v i tt w → w.now ≡ f i v.now) → rows_to n f l.at l.stop l.work ≡ rows_to n f l.first l.stop l.fn.work

abbrev pub decreases-loop-at : goal.decreases-loop-at
decreases-loop-at g l = l.stop - l.at
