-- What each write of a mark, a slot, a stamp or a flag leaves in the work buffer: what is written is there, the same of other names and rows
-- stays, and so does all else (`Kept`: the rows, the second numbers, the heads). It follows from one law: where a number is written, a
-- part of the numbers stays if the number that stood there had the same part.
use Rattle.std.proofs.Common.{ℕ, ◌+◌, ◌/◌, ◌%◌, ◌≤◌, ◌<◌, max, arith, ◌≡◌, refl, sym, ap, ◌∙◌, subst, Bool, true, false, cond, List, eqb, ltb, length, get_or, length-set, get_or-set_same, get_or-set_other, eqb-true, ltb-true, ltb-false}
use Rattle.std.proofs.Math.Seq.{set_out}
use Rattle.std.proofs.lemmas.Bool.{eqb-false}
use Rattle.work_rows.specs.Layout.{put, rows_most, head_base, kind_at, number_at}
use Rattle.work_marks.specs.MarksModel.{stamp_base, lambda_end, block_end, slot_at, stamp_at, flag_at, put_lambda_end, put_block_end, raised_lambda, raised_block, put_slot, put_stamp, put_flag, bare}
use Rattle.work_marks.proofs.Raised.{raise_has}

-- ---- a number is written
put_at : (P : ℕ → Type 0) (w : List ℕ) (k v j : ℕ) → (j ≡ k → P (v % 4_294_967_296)) → P (get_or w j 0) → P (get_or (put w k v) j 0)
put_at P w k v j new old = go (eqb j k) (ltb k (length w)) refl refl
  where
    go : (s t : Bool) → eqb j k ≡ s → ltb k (length w) ≡ t → P (get_or (put w k v) j 0)
    go true true p q =
        let e : j ≡ k = eqb-true j k p in
        subst P (sym (ap (λ i. get_or (put w k v) i 0) e ∙ get_or-set_same w k (v % 4_294_967_296) 0 (ltb-true k (length w) q))) (new e)
    go true false p q = subst (λ z. P (get_or z j 0)) (sym (set_out w k (v % 4_294_967_296) (ltb-false k (length w) q))) old
    go false t p q = subst P (sym (get_or-set_other w k j (v % 4_294_967_296) 0 (eqb-false j k p))) old

put_keeps : (f : ℕ → ℕ) (w : List ℕ) (k v : ℕ) → f (v % 4_294_967_296) ≡ f (get_or w k 0) → (j : ℕ) → f (get_or (put w k v) j 0) ≡ f (get_or w j 0)
put_keeps f w k v e j = put_at (λ x. f x ≡ f (get_or w j 0)) w k v j (λ p. e ∙ ap (λ i. f (get_or w i 0)) (sym p)) refl

put_other : (w : List ℕ) (k v j : ℕ) → (j ≡ k → ⊥) → get_or (put w k v) j 0 ≡ get_or w j 0
put_other w k v j d = get_or-set_other w k j (v % 4_294_967_296) 0 d

put_length : (w : List ℕ) (k v : ℕ) → length (put w k v) ≡ length w
put_length w k v = length-set w k (v % 4_294_967_296)

-- all numbers have 32 bits
abbrev pub Words : List ℕ → Type 0
Words w = (j : ℕ) → get_or w j 0 < 4_294_967_296

pub words_put : (w : List ℕ) (k v : ℕ) → Words w → Words (put w k v)
words_put w k v h j = put_at (λ x. x < 4_294_967_296) w k v j (λ _. omega arith) (h j)

-- ---- nothing else changes
pub record Kept (w v : List ℕ) : Type 0 where
  pub rows : (i : ℕ) → i < 4_096 → get_or v i 0 % 131_072 ≡ get_or w i 0 % 131_072
  pub seconds : (i : ℕ) → i < 4_096 → get_or v (4_096 + i) 0 ≡ get_or w (4_096 + i) 0
  pub heads : (h : ℕ) → h < 4_096 → get_or v (8_192 + h) 0 % 8_192 ≡ get_or w (8_192 + h) 0 % 8_192
  pub long : length v ≡ length w

pub kept_refl : (w : List ℕ) → Kept w w
kept_refl w = record { rows = λ _ _. refl; seconds = λ _ _. refl; heads = λ _ _. refl; long = refl }

pub kept_trans : {w v z : List ℕ} → Kept w v → Kept v z → Kept w z
kept_trans p q = record {
  rows = λ i l. q.rows i l ∙ p.rows i l;
  seconds = λ i l. q.seconds i l ∙ p.seconds i l;
  heads = λ h l. q.heads h l ∙ p.heads h l;
  long = q.long ∙ p.long;
}

-- a number is written in place of one that has the same row, or the same head; and no second number is written
kept_put : (w : List ℕ) (k v : ℕ) → (k < 4_096 → (v % 4_294_967_296) % 131_072 ≡ get_or w k 0 % 131_072) → (k < 8_192 → k < 4_096)
    → (k < 12_288 → 8_192 ≤ k → (v % 4_294_967_296) % 8_192 ≡ get_or w k 0 % 8_192) → Kept w (put w k v)
kept_put w k v row second head = record {
  rows = λ i l. put_at (λ x. x % 131_072 ≡ get_or w i 0 % 131_072) w k v i (λ p. row (omega arith) ∙ ap (λ j. get_or w j 0 % 131_072) (sym p)) refl;
  seconds = λ i l. put_other w k v (4_096 + i) (λ p. let m : k < 4_096 = second (omega arith) in omega arith);
  heads = λ h l. put_at (λ x. x % 8_192 ≡ get_or w (8_192 + h) 0 % 8_192) w k v (8_192 + h)
      (λ p. head (omega arith) (omega arith) ∙ ap (λ j. get_or w j 0 % 8_192) (sym p)) refl;
  long = put_length w k v;
}

-- what is read of a row
module _ {w v : List ℕ} (k : Kept w v) (i : ℕ) (l : i < 4_096) where
  pub kept_kind : kind_at v i ≡ kind_at w i
  kept_kind = omega (arith, k.rows i l)

  pub kept_number : number_at v i ≡ number_at w i
  kept_number = ap (λ x. cond (ltb (x / 65_536) rows_most) (x / 65_536) i) (k.seconds i l)

-- ---- the mark of a lambda is raised
module _ (w : List ℕ) (a e : ℕ) where
  lambda_has : (P : List ℕ → Type 0) → ((a < rows_most → e ≤ lambda_end w a) → P w) → (a < rows_most → lambda_end w a < e → P (put_lambda_end w a e))
      → P (raised_lambda w a e)
  unfolding raised_lambda
  lambda_has = raise_has w (put_lambda_end w a e) a (lambda_end w a) e

  pub raised_lambda_same : 16_384 ≤ length w → a < 4_096 → e < 8_192 → lambda_end (raised_lambda w a e) a ≡ max (lambda_end w a) e
  raised_lambda_same room l s =
      lambda_has (λ v. lambda_end v a ≡ max (lambda_end w a) e) (λ h. omega (arith, h l))
      (λ _ m. ap (λ x. x / 131_072) (get_or-set_same w a _ 0 (omega arith)) ∙ omega arith)

  -- all numbers but the name's
  raised_lambda_apart : (j : ℕ) → (a < 4_096 → j ≡ a → ⊥) → get_or (raised_lambda w a e) j 0 ≡ get_or w j 0
  raised_lambda_apart j d = lambda_has (λ v. get_or v j 0 ≡ get_or w j 0) (λ _. refl) (λ l _. put_other w a _ j (d l))

  pub raised_lambda_other : (b : ℕ) → (b ≡ a → ⊥) → lambda_end (raised_lambda w a e) b ≡ lambda_end w b
  raised_lambda_other b d = ap (λ x. x / 131_072) (raised_lambda_apart b (λ _. d))

  pub raised_lambda_block : (b : ℕ) → block_end (raised_lambda w a e) b ≡ block_end w b
  raised_lambda_block b = ap (λ x. x / 8_192 % 8_192) (raised_lambda_apart (head_base + b) (λ l p. omega arith))

  pub raised_lambda_slot : (i : ℕ) → slot_at (raised_lambda w a e) i ≡ slot_at w i
  raised_lambda_slot i = ap (λ x. x / 67_108_864) (raised_lambda_apart (head_base + i) (λ l p. omega arith))

  -- all fourth numbers
  pub raised_lambda_fourth : (b : ℕ) → get_or (raised_lambda w a e) (stamp_base + b) 0 ≡ get_or w (stamp_base + b) 0
  raised_lambda_fourth b = raised_lambda_apart (stamp_base + b) (λ l p. omega arith)

  pub kept_raised_lambda : Kept w (raised_lambda w a e)
  kept_raised_lambda =
      lambda_has (Kept w) (λ _. kept_refl w) (λ l _. kept_put w a _ (λ _. omega arith) (λ _. l) (λ _ m. absurd (omega arith)))

  pub words_raised_lambda : Words w → Words (raised_lambda w a e)
  words_raised_lambda h = lambda_has Words (λ _. h) (λ _ _. words_put w a _ h)

-- ---- the mark of a block is raised
module _ (w : List ℕ) (a e : ℕ) where
  block_has : (P : List ℕ → Type 0) → ((a < rows_most → e ≤ block_end w a) → P w) → (a < rows_most → block_end w a < e → P (put_block_end w a e))
      → P (raised_block w a e)
  unfolding raised_block
  block_has = raise_has w (put_block_end w a e) a (block_end w a) e

  pub raised_block_same : 16_384 ≤ length w → a < 4_096 → e < 8_192 → block_end (raised_block w a e) a ≡ max (block_end w a) e
  raised_block_same room l s =
      block_has (λ v. block_end v a ≡ max (block_end w a) e) (λ h. omega (arith, h l))
      (λ _ m. ap (λ x. x / 8_192 % 8_192) (get_or-set_same w (head_base + a) _ 0 (omega arith)) ∙ omega arith)

  -- all numbers but the one that has the mark
  raised_block_apart : (j : ℕ) → (a < 4_096 → j ≡ 8_192 + a → ⊥) → get_or (raised_block w a e) j 0 ≡ get_or w j 0
  raised_block_apart j d = block_has (λ v. get_or v j 0 ≡ get_or w j 0) (λ _. refl) (λ l _. put_other w (head_base + a) _ j (d l))

  pub raised_block_other : (b : ℕ) → (b ≡ a → ⊥) → block_end (raised_block w a e) b ≡ block_end w b
  raised_block_other b d = ap (λ x. x / 8_192 % 8_192) (raised_block_apart (head_base + b) (λ _ p. d (omega arith)))

  pub raised_block_lambda : (b : ℕ) → b < 4_096 → lambda_end (raised_block w a e) b ≡ lambda_end w b
  raised_block_lambda b l = ap (λ x. x / 131_072) (raised_block_apart b (λ _ p. omega arith))

  pub raised_block_slot : Words w → (i : ℕ) → slot_at (raised_block w a e) i ≡ slot_at w i
  raised_block_slot h i =
      block_has (λ v. slot_at v i ≡ slot_at w i) (λ _. refl)
      (λ _ _. put_keeps (λ x. x / 67_108_864) w (head_base + a) _ (omega (arith, h (head_base + a))) (head_base + i))

  pub raised_block_fourth : (b : ℕ) → get_or (raised_block w a e) (stamp_base + b) 0 ≡ get_or w (stamp_base + b) 0
  raised_block_fourth b = raised_block_apart (stamp_base + b) (λ l p. omega arith)

  pub kept_raised_block : Kept w (raised_block w a e)
  kept_raised_block =
      block_has (Kept w) (λ _. kept_refl w) (λ l _. kept_put w (head_base + a) _ (λ m. absurd (omega arith)) (λ m. absurd (omega arith)) (λ _ _. omega arith))

  pub words_raised_block : Words w → Words (raised_block w a e)
  words_raised_block h = block_has Words (λ _. h) (λ _ _. words_put w (head_base + a) _ h)

-- ---- a slot is written
module _ (w : List ℕ) (i k : ℕ) where
  pub slot_same : 16_384 ≤ length w → i < 4_096 → k < 16 → slot_at (put_slot w i k) i ≡ k
  unfolding put_slot
  slot_same room l s = ap (λ x. x / 67_108_864) (get_or-set_same w (head_base + i) _ 0 (omega arith)) ∙ omega arith

  -- all numbers but the one that has the slot
  slot_apart : (j : ℕ) → (j ≡ 8_192 + i → ⊥) → get_or (put_slot w i k) j 0 ≡ get_or w j 0
  unfolding put_slot
  slot_apart j d = put_other w (head_base + i) _ j d

  pub slot_other : (j : ℕ) → (j ≡ i → ⊥) → slot_at (put_slot w i k) j ≡ slot_at w j
  slot_other j d = ap (λ x. x / 67_108_864) (slot_apart (head_base + j) (λ p. d (omega arith)))

  pub slot_lambda : (b : ℕ) → b < 4_096 → lambda_end (put_slot w i k) b ≡ lambda_end w b
  slot_lambda b l = ap (λ x. x / 131_072) (slot_apart b (λ p. omega arith))

  pub slot_block : (b : ℕ) → block_end (put_slot w i k) b ≡ block_end w b
  unfolding put_slot
  slot_block b = put_keeps (λ x. x / 8_192 % 8_192) w (head_base + i) _ (omega arith) (head_base + b)

  pub slot_fourth : i < 4_096 → (b : ℕ) → get_or (put_slot w i k) (stamp_base + b) 0 ≡ get_or w (stamp_base + b) 0
  slot_fourth l b = slot_apart (stamp_base + b) (λ p. omega arith)

  pub kept_slot : Kept w (put_slot w i k)
  unfolding put_slot
  kept_slot = kept_put w (head_base + i) _ (λ m. absurd (omega arith)) (λ m. absurd (omega arith)) (λ _ _. omega arith)

  pub words_slot : Words w → Words (put_slot w i k)
  unfolding put_slot
  words_slot h = words_put w (head_base + i) _ h

-- ---- of a third number the head alone stays
pub bare_kept : (i : ℕ) (w : List ℕ) → Kept w (bare i w)
bare_kept i w = kept_put w (head_base + i) _ (λ m. absurd (omega arith)) (λ m. absurd (omega arith)) (λ _ _. omega arith)

-- ---- a fourth number is written
module _ (w : List ℕ) (a v : ℕ) where
  -- all numbers before the fourth ones
  pub fourth_apart : (j : ℕ) → j < 12_288 → get_or (put w (stamp_base + a) v) j 0 ≡ get_or w j 0
  fourth_apart j l = put_other w (stamp_base + a) v j (λ p. omega arith)

  pub fourth_lambda : (b : ℕ) → b < 4_096 → lambda_end (put w (stamp_base + a) v) b ≡ lambda_end w b
  fourth_lambda b l = ap (λ x. x / 131_072) (fourth_apart b (omega arith))

  pub fourth_block : (b : ℕ) → b < 4_096 → block_end (put w (stamp_base + a) v) b ≡ block_end w b
  fourth_block b l = ap (λ x. x / 8_192 % 8_192) (fourth_apart (head_base + b) (omega arith))

  pub fourth_slot : (i : ℕ) → i < 4_096 → slot_at (put w (stamp_base + a) v) i ≡ slot_at w i
  fourth_slot i l = ap (λ x. x / 67_108_864) (fourth_apart (head_base + i) (omega arith))

  pub kept_fourth : Kept w (put w (stamp_base + a) v)
  kept_fourth = kept_put w (stamp_base + a) v (λ m. absurd (omega arith)) (λ m. absurd (omega arith)) (λ m. absurd (omega arith))

  pub words_fourth : Words w → Words (put w (stamp_base + a) v)
  words_fourth h = words_put w (stamp_base + a) v h

-- a stamp
module _ (w : List ℕ) (a v : ℕ) where
  pub stamp_same : 16_384 ≤ length w → a < 4_096 → v < 8_192 → stamp_at (put_stamp w a v) a ≡ v
  stamp_same room l s = ap (λ x. x % 8_192) (get_or-set_same w (stamp_base + a) _ 0 (omega arith)) ∙ omega arith

  pub stamp_other : (b : ℕ) → (b ≡ a → ⊥) → stamp_at (put_stamp w a v) b ≡ stamp_at w b
  stamp_other b d = ap (λ x. x % 8_192) (put_other w (stamp_base + a) _ (stamp_base + b) (λ p. d (omega arith)))

  pub stamp_flag : Words w → (i : ℕ) → flag_at (put_stamp w a v) i ≡ flag_at w i
  stamp_flag h i = put_keeps (λ x. x / 8_192) w (stamp_base + a) _ (omega (arith, h (stamp_base + a))) (stamp_base + i)

-- a flag
module _ (w : List ℕ) (i f : ℕ) where
  pub flag_same : 16_384 ≤ length w → i < 4_096 → f < 524_288 → flag_at (put_flag w i f) i ≡ f
  flag_same room l s = ap (λ x. x / 8_192) (get_or-set_same w (stamp_base + i) _ 0 (omega arith)) ∙ omega arith

  pub flag_other : (j : ℕ) → (j ≡ i → ⊥) → flag_at (put_flag w i f) j ≡ flag_at w j
  flag_other j d = ap (λ x. x / 8_192) (put_other w (stamp_base + i) _ (stamp_base + j) (λ p. d (omega arith)))

  pub flag_stamp : (a : ℕ) → stamp_at (put_flag w i f) a ≡ stamp_at w a
  flag_stamp a = put_keeps (λ x. x % 8_192) w (stamp_base + i) _ (omega arith) (stamp_base + a)
