-- A turn of each loop: over the built-in names, and over the `global` lines. What is left to do, done to the buffer of the next turn,
-- gives what it gives now.
use Rattle.std.proofs.Common.{ℕ, suc, ◌+◌, ◌-◌, ◌<◌, ◌≡◌, refl, sym, ap, ◌∙◌, List, ◌∷◌, arith}
use Rattle.spec_text.specs.Bytes.{Bytes}
use Rattle.work_rows.specs.Layout.{rows_most, number_at}
use Rattle.read_names.specs.ChainsModel.{lookup}
use Rattle.work_marks.specs.MarksModel.{raised_block}
use Rattle.walk_scopes.specs.ScopesModel.{top_of, defined}
use Rattle.walk_scopes.specs.declared.ScopeStack.{ScopeStack}
use Rattle.walk_given.specs.GivenModel.{given, globals_from}

-- ---- a name x, and the names after it: r is the number of its row
module _ (text : Bytes) (s : ScopeStack) (w : List ℕ) (x : Bytes) (xs : List Bytes) where
  pub given_row : (r : ℕ) (z : List ℕ) → r ≡ lookup text w x → z ≡ raised_block w r s.end → given text (top_of s) xs z ≡ given text (top_of s) (x ∷ xs) w
  unfolding given defined
  given_row r z p q = ap (given text (top_of s) xs) (q ∙ ap (λ b. raised_block w b s.end) p)

  pub given_none : rows_most ≡ lookup text w x → given text (top_of s) xs w ≡ given text (top_of s) (x ∷ xs) w
  unfolding raised_block
  given_none p = given_row rows_most w p refl

-- ---- n `global` lines, of which i are bound
pub globals_more : (n i : ℕ) (s : ScopeStack) (w z : List ℕ) → i < n → z ≡ raised_block w (number_at w i) s.end
    → globals_from (n - (i + 1)) (i + 1) (top_of s) z ≡ globals_from (n - i) i (top_of s) w
unfolding globals_from defined
globals_more n i s w z l q =
    let e : n - i ≡ suc (n - (i + 1)) = omega arith in
    ap (globals_from (n - (i + 1)) (i + 1) (top_of s)) q ∙ sym (ap (λ k. globals_from k i (top_of s) w) e)
