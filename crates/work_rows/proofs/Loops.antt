-- Loops over rows: the loop ends at a row past its last, and goes on at the next row before that. Each row found lies after the one
-- before it, so any count of steps that is not below the number of rows left does.
use Rattle.std.proofs.Common.{ℕ, zero, suc, ◌-◌, ◌≤◌, ◌<◌, arith, ◌≡◌, refl, sym, ap, ◌∙◌, cond, List, ltb, lt-ltb, le-ltb}
use Rattle.work_rows.specs.LoopsModel.{each, rows_to, next_row}

module _ {A : Type 0} (next : A → ℕ → ℕ) (f : ℕ → A → A) where
  pub rows_end : (at stop : ℕ) (w : A) → stop ≤ at → rows_to next f at stop w ≡ w
  unfolding each
  rows_end at stop w l = let e : stop - at ≡ 0 = omega arith in ap (λ k. each next f k at stop w) e

  each_end : (k at stop : ℕ) (w : A) → stop ≤ at → each next f k at stop w ≡ w
  unfolding each
  each_end zero at stop w l = refl
  each_end (suc k) at stop w l = ap (λ t. cond t (each next f k (next w at) stop (f at w)) w) (le-ltb at stop l)

  module _ (on : (v : A) (i : ℕ) → i < next v i) where
    each_fuel : (k m at stop : ℕ) (w : A) → stop - at ≤ k → stop - at ≤ m → each next f k at stop w ≡ each next f m at stop w
    unfolding each
    each_fuel zero m at stop w a b = sym (each_end m at stop w (omega arith))
    each_fuel (suc k) zero at stop w a b = each_end (suc k) at stop w (omega arith)
    each_fuel (suc k) (suc m) at stop w a b =
        ap (λ v. cond (ltb at stop) v w) (each_fuel k m (next w at) stop (f at w) (omega (arith, on w at)) (omega (arith, on w at)))

    pub rows_more : (at stop : ℕ) (w : A) → at < stop → rows_to next f at stop w ≡ rows_to next f (next w at) stop (f at w)
    unfolding each
    rows_more at stop w l =
        let e : stop - at ≡ suc (stop - at - 1) = omega arith in
        ap (λ k. each next f k at stop w) e
        ∙ (ap (λ t. cond t (each next f (stop - at - 1) (next w at) stop (f at w)) w) (lt-ltb at stop l)
        ∙ each_fuel (stop - at - 1) (stop - next w at) (next w at) stop (f at w) (omega (arith, on w at)) (omega arith))

    -- a turn of the loop: n is the next row, and z what the row leaves
    pub rows_turn : (at stop n : ℕ) (w z : A) → at < stop → n ≡ next w at → z ≡ f at w → rows_to next f n stop z ≡ rows_to next f at stop w
    rows_turn at stop n w z l p q =
        ap (λ j. rows_to next f j stop z) p ∙ (ap (rows_to next f (next w at) stop) q ∙ sym (rows_more at stop w l))

pub row_on : (w : List ℕ) (i : ℕ) → i < next_row w i
row_on w i = omega arith
