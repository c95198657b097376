-- The definitions by their tests: what a row binds by its kind, the next row by its kind, a flag, and the turns of the loops. Each next row
-- lies after the row, so the loops' laws hold.
use Rattle.std.proofs.Common.{ℕ, ◌+◌, ◌≤◌, ◌<◌, arith, ◌≡◌, ap, Bool, true, false, cond, ◌&&◌, ◌||◌, List, ◌⊎◌, inl, inr, eqb, leb, eq-eqb, ne_eqb, le-leb}
use Rattle.std.proofs.lemmas.Bool.{lt-leb}
use Rattle.work_rows.specs.Layout.{kind_at, number_at, after_row}
use Rattle.work_marks.specs.MarksModel.{stamp_at, put_flag, never}
use Rattle.work_rows.proofs.Loops.{rows_turn}
use Rattle.walk_own_names.specs.OwnNamesModel.{row_binds, next_binding, all_bindings, flag_for, row_flagged, next_in_block, all_flagged}

-- ---- what row i binds, by its kind
module _ (op : ℕ → ℕ → List ℕ → List ℕ) (i : ℕ) (w : List ℕ) where
  abbrev by_kind : ℕ → List ℕ
  by_kind k =
      cond (eqb k 5 || eqb k 13) (op (number_at w i) never w)
      (cond (eqb k 10) (op (number_at w i) (after_row w (i + 1)) w) (cond (eqb k 17) (op (number_at w i) (i + 1) w) w))

  row_by : (k : ℕ) → kind_at w i ≡ k → row_binds op i w ≡ by_kind k
  unfolding row_binds
  row_by k e = ap by_kind e

  pub row_def : kind_at w i ≡ 5 → row_binds op i w ≡ op (number_at w i) never w
  row_def e = row_by 5 e

  pub row_class : kind_at w i ≡ 13 → row_binds op i w ≡ op (number_at w i) never w
  row_class e = row_by 13 e

  pub row_for : kind_at w i ≡ 10 → row_binds op i w ≡ op (number_at w i) (after_row w (i + 1)) w
  row_for e = row_by 10 e

  pub row_var : kind_at w i ≡ 17 → row_binds op i w ≡ op (number_at w i) (i + 1) w
  row_var e = row_by 17 e

  pub row_none : (kind_at w i ≡ 5 → ⊥) → (kind_at w i ≡ 13 → ⊥) → (kind_at w i ≡ 10 → ⊥) → (kind_at w i ≡ 17 → ⊥) → row_binds op i w ≡ w
  unfolding row_binds
  row_none p q r s = rw (ne_eqb (kind_at w i) 5 p, ne_eqb (kind_at w i) 13 q, ne_eqb (kind_at w i) 10 r, ne_eqb (kind_at w i) 17 s)

-- ---- the next row, by the row's kind
module _ (w : List ℕ) (i : ℕ) where
  pub next_past : 6 ≤ kind_at w i → kind_at w i ≤ 10 → next_binding w i ≡ after_row w (i + 1)
  unfolding next_binding
  next_past l m = rw (le-leb 6 (kind_at w i) l, le-leb (kind_at w i) 10 m)

  pub next_child : kind_at w i ≡ 24 → next_binding w i ≡ i + 1
  unfolding next_binding
  next_child e = ap (λ k. cond (leb 6 k && leb k 10) (after_row w (i + 1)) (cond (eqb k 24) (i + 1) (after_row w i))) e

  pub next_after : (kind_at w i < 6) ⊎ (10 < kind_at w i) → (kind_at w i ≡ 24 → ⊥) → next_binding w i ≡ after_row w i
  unfolding next_binding
  next_after (inl l) d = rw (lt-leb 6 (kind_at w i) l, ne_eqb (kind_at w i) 24 d)
  next_after (inr l) d = rw (le-leb 6 (kind_at w i) (omega arith), lt-leb (kind_at w i) 10 l, ne_eqb (kind_at w i) 24 d)

  pub next_on : i < next_binding w i
  unfolding next_binding
  next_on = go (leb 6 (kind_at w i) && leb (kind_at w i) 10) (eqb (kind_at w i) 24)
    where
      go : (s t : Bool) → i < cond s (after_row w (i + 1)) (cond t (i + 1) (after_row w i))
      go true t = omega arith
      go false true = omega arith
      go false false = omega arith

  -- and of the block
  pub block_past : (kind_at w i ≡ 5) ⊎ (kind_at w i ≡ 13) → next_in_block w i ≡ after_row w i
  unfolding next_in_block
  block_past (inl e) = ap (λ k. cond (eqb k 5 || eqb k 13) (after_row w i) (i + 1)) e
  block_past (inr e) = ap (λ k. cond (eqb k 5 || eqb k 13) (after_row w i) (i + 1)) e

  pub block_next : (kind_at w i ≡ 5 → ⊥) → (kind_at w i ≡ 13 → ⊥) → next_in_block w i ≡ i + 1
  unfolding next_in_block
  block_next p q = rw (ne_eqb (kind_at w i) 5 p, ne_eqb (kind_at w i) 13 q)

  pub block_on : i < next_in_block w i
  unfolding next_in_block
  block_on = go (eqb (kind_at w i) 5 || eqb (kind_at w i) 13)
    where
      go : (s : Bool) → i < cond s (after_row w i) (i + 1)
      go true = omega arith
      go false = omega arith

-- ---- a flag
module _ (b i : ℕ) (w : List ℕ) where
  pub flagged_var : kind_at w i ≡ 17 → row_flagged b i w ≡ put_flag w i (flag_for b i (stamp_at w (number_at w i)))
  unfolding row_flagged
  flagged_var e = rw (eq-eqb (kind_at w i) 17 e)

  pub flagged_none : (kind_at w i ≡ 17 → ⊥) → row_flagged b i w ≡ w
  unfolding row_flagged
  flagged_none d = rw (ne_eqb (kind_at w i) 17 d)

-- ---- turns of the loops
pub bindings_more : (op : ℕ → ℕ → List ℕ → List ℕ) (at stop n : ℕ) (w z : List ℕ) → at < stop → n ≡ next_binding w at → z ≡ row_binds op at w
    → all_bindings op n stop z ≡ all_bindings op at stop w
bindings_more op = rows_turn next_binding (row_binds op) next_on

pub flags_more : (b at stop n : ℕ) (w z : List ℕ) → at < stop → n ≡ next_in_block w at → z ≡ row_flagged b at w → all_flagged b n stop z ≡ all_flagged b at stop w
flags_more b = rows_turn next_in_block (row_flagged b) block_on
