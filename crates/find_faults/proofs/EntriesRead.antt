-- Entries that are written where the stamps were: each is read there again, and what stands before them stays. So a row's line is read as before.
use Rattle.std.proofs.Common.{ℕ, zero, suc, ◌+◌, ◌%◌, ◌≤◌, ◌<◌, arith, ◌≡◌, ap, ◌∙◌, List, [], ◌∷◌, length, get_or, length-set, get_or-set_same}
use Rattle.spec_text.specs.Bytes.{Bytes}
use Rattle.work_rows.specs.Layout.{put}
use Rattle.report_order.specs.OrderModel.{entry_base, stored}
use Rattle.report_order.proofs.Stored.{stored_before}
use Rattle.read_row.specs.RowModel.{line_of_row}

-- the i-th of those that are written from the j-th on
stored_at : (es : List ℕ) (j : ℕ) (w : List ℕ) (i : ℕ) → i < length es → 12_288 + j + length es ≤ length w → get_or es i 0 < 4_294_967_296
    → get_or (stored es j w) (entry_base + (j + i)) 0 ≡ get_or es i 0
unfolding stored
stored_at [] j w i l room small = absurd (omega arith)
stored_at (e ∷ es) j w zero l room small =
    let q : entry_base + (j + 0) ≡ entry_base + j = omega arith in
    ap (λ k. get_or (stored es (j + 1) (put w (entry_base + j) e)) k 0) q
    ∙ (stored_before es (j + 1) (put w (entry_base + j) e) (entry_base + j) (omega arith) ∙ (get_or-set_same w (entry_base + j) _ 0 (omega arith) ∙ omega arith))
stored_at (e ∷ es) j w (suc i) l room small =
    let q : entry_base + (j + suc i) ≡ entry_base + (j + 1 + i) = omega arith in
    ap (λ k. get_or (stored es (j + 1) (put w (entry_base + j) e)) k 0) q
    ∙ stored_at es (j + 1) (put w (entry_base + j) e) i (omega arith) (omega (arith, length-set w (entry_base + j) (e % 4_294_967_296))) small

-- ---- all of them
module _ (es : List ℕ) (w : List ℕ) where
  pub entry_stored : (j : ℕ) → j < length es → length es ≤ 4_096 → 16_384 ≤ length w → get_or es j 0 < 4_294_967_296
      → get_or (stored es 0 w) (entry_base + j) 0 ≡ get_or es j 0
  entry_stored j l few room small =
      let q : entry_base + j ≡ entry_base + (0 + j) = omega arith in
      ap (λ k. get_or (stored es 0 w) k 0) q ∙ stored_at es 0 w j l (omega arith) small

  pub line_stored : (text : Bytes) (i : ℕ) → i < 4_096 → line_of_row text (stored es 0 w) i ≡ line_of_row text w i
  unfolding line_of_row
  line_stored text i l = rw (stored_before es 0 w (4_096 + i) (omega arith))
