-- Where nothing but fourth numbers changes: rows, names, heads, marks and slots stay.
use Rattle.std.proofs.Common.{ℕ, ◌+◌, ◌<◌, ◌≡◌, refl, ◌∙◌, List}
use Rattle.work_rows.specs.Layout.{put}
use Rattle.work_marks.specs.MarksModel.{stamp_base, lambda_end, block_end, slot_at}
use Rattle.work_marks.proofs.Writes.{Words, Kept, kept_refl, kept_trans, fourth_lambda, fourth_block, fourth_slot, kept_fourth, words_fourth}

pub record Fourths (w v : List ℕ) : Type 0 where
  pub kept : Kept w v
  pub words : Words w → Words v
  pub lambda : (a : ℕ) → a < 4_096 → lambda_end v a ≡ lambda_end w a
  pub block : (a : ℕ) → a < 4_096 → block_end v a ≡ block_end w a
  pub slot : (i : ℕ) → i < 4_096 → slot_at v i ≡ slot_at w i

pub fourths_refl : (w : List ℕ) → Fourths w w
fourths_refl w = record { kept = kept_refl w; words = λ h. h; lambda = λ _ _. refl; block = λ _ _. refl; slot = λ _ _. refl }

pub fourths_trans : {w v z : List ℕ} → Fourths w v → Fourths v z → Fourths w z
fourths_trans p q = record {
  kept = kept_trans p.kept q.kept;
  words = λ h. q.words (p.words h);
  lambda = λ a l. q.lambda a l ∙ p.lambda a l;
  block = λ a l. q.block a l ∙ p.block a l;
  slot = λ i l. q.slot i l ∙ p.slot i l;
}

-- one of them is written
pub fourths_put : (w : List ℕ) (a v : ℕ) → Fourths w (put w (stamp_base + a) v)
fourths_put w a v = record {
  kept = kept_fourth w a v;
  words = words_fourth w a v;
  lambda = fourth_lambda w a v;
  block = fourth_block w a v;
  slot = fourth_slot w a v;
}
