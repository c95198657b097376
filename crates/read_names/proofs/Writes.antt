-- What the writes leave in the work buffer: its length, the numbers written elsewhere, and the offset of the row written.
use Rattle.std.proofs.Common.{ℕ, zero, suc, ◌+◌, ◌%◌, ◌≤◌, ◌<◌, arith, ◌≡◌, refl, ap, ◌∙◌, Bool, true, false, List, ◌⊎◌, inl, inr, ⊎_elim, ltb, length, get_or, set, length-set, get_or-set_same, get_or-set_other, lt-ltb, le-ltb}
use Rattle.std.proofs.lemmas.Bool.{cases_eq}
use Rattle.spec_text.specs.Bytes.{Bytes, part_of}
use Rattle.work_rows.specs.Layout.{put, rows_most, name_base, head_base, head_end, name_of, offset_at}
use Rattle.read_names.specs.ChainsModel.{head_at, row_number, found, placed, name_entered, added, cleared_from, cleared}

-- ---- a row's name: its second number, and for a new name the head of its hash
abbrev pub marked : List ℕ → ℕ → ℕ → ℕ → List ℕ
marked w i at mark = put w (name_base + i) (name_of at mark)

abbrev pub headed : List ℕ → ℕ → ℕ → List ℕ
headed w i h = put w (head_base + h % 4_096) (i + 1)

pub entered_old : (w : List ℕ) (i at h r : ℕ) → r < rows_most → name_entered w i at h r ≡ marked w i at r
entered_old w i at h r l = rw (lt-ltb r rows_most l, name_entered)

pub entered_new : (w : List ℕ) (i at h r : ℕ) → rows_most ≤ r → name_entered w i at h r ≡ headed (marked w i at (rows_most + head_at w h)) i h
entered_new w i at h r l = rw (le-ltb r rows_most l, name_entered)

-- what holds once the second number is written, and is kept by a head
entered_has : (P : List ℕ → Type 0) (w : List ℕ) (i at h r : ℕ) → ((mark : ℕ) → P (marked w i at mark)) → ((z : List ℕ) → P z → P (headed z i h))
    → P (name_entered w i at h r)
entered_has P w i at h r first then = go (ltb r rows_most)
  where
    go : (t : Bool) → P (elim t [ true ↦ marked w i at r | false ↦ headed (marked w i at (rows_most + head_at w h)) i h ])
    go true = first r
    go false = then _ (first (rows_most + head_at w h))

added_has : (P : List ℕ → Type 0) (text : Bytes) (w : List ℕ) (i at len h : ℕ) → ((mark : ℕ) → P (marked w i at mark))
    → ((z : List ℕ) → P z → P (headed z i h)) → P (added text w i at len h)
unfolding added
added_has P text w i at len h first then = entered_has P w i at h (row_number (found text w h (part_of text at len))) first then

-- the places that are neither second numbers nor heads
abbrev pub Outside : ℕ → Type 0
Outside k = (k < name_base) ⊎ (head_end ≤ k)

not_second : (i k : ℕ) → i < rows_most → Outside k → k ≡ name_base + i → ⊥
not_second i k l (inl m) e = omega arith
not_second i k l (inr m) e = omega arith

not_head : (h k : ℕ) → Outside k → k ≡ head_base + h % 4_096 → ⊥
not_head h k (inl m) e = omega arith
not_head h k (inr m) e = omega arith

module _ (w : List ℕ) (i at : ℕ) where
  pub placed_length : length (placed w i at) ≡ length w
  placed_length = length-set w (name_base + i) (at % 4_294_967_296)

  pub placed_offset : at < 65_536 → i < rows_most → 16_384 ≤ length w → offset_at (placed w i at) i ≡ at
  placed_offset l m room = ap (λ z. z % 65_536) (get_or-set_same w (name_base + i) (at % 4_294_967_296) 0 (omega arith)) ∙ omega arith

  -- the other rows' second numbers
  pub placed_rows : (k : ℕ) → (k ≡ i → ⊥) → get_or (placed w i at) (name_base + k) 0 ≡ get_or w (name_base + k) 0
  placed_rows k d = get_or-set_other w (name_base + i) (name_base + k) (at % 4_294_967_296) 0 (λ e. d (omega arith))

  pub placed_outside : (k : ℕ) → i < rows_most → Outside k → get_or (placed w i at) k 0 ≡ get_or w k 0
  placed_outside k l o = get_or-set_other w (name_base + i) k (at % 4_294_967_296) 0 (not_second i k l o)

module _ (text : Bytes) (w : List ℕ) (i at len h : ℕ) where
  pub added_length : length (added text w i at len h) ≡ length w
  added_length =
      added_has (λ z. length z ≡ length w) text w i at len h
      (λ mark. length-set w (name_base + i) (name_of at mark % 4_294_967_296))
      (λ z e. length-set z (head_base + h % 4_096) ((i + 1) % 4_294_967_296) ∙ e)

  added_at : (k : ℕ) → (k ≡ name_base + i → ⊥) → (k ≡ head_base + h % 4_096 → ⊥) → get_or (added text w i at len h) k 0 ≡ get_or w k 0
  added_at k d e =
      added_has (λ z. get_or z k 0 ≡ get_or w k 0) text w i at len h
      (λ mark. get_or-set_other w (name_base + i) k (name_of at mark % 4_294_967_296) 0 d)
      (λ z q. get_or-set_other z (head_base + h % 4_096) k ((i + 1) % 4_294_967_296) 0 e ∙ q)

  pub added_offset : at < 65_536 → i < rows_most → 16_384 ≤ length w → offset_at (added text w i at len h) i ≡ at
  added_offset l m room =
      added_has (λ z. offset_at z i ≡ at) text w i at len h
      (λ mark. ap (λ z. z % 65_536) (get_or-set_same w (name_base + i) (name_of at mark % 4_294_967_296) 0 (omega arith)) ∙ omega arith)
      (λ z e. ap (λ y. y % 65_536) (get_or-set_other z (head_base + h % 4_096) (name_base + i) ((i + 1) % 4_294_967_296) 0 (λ q. omega arith)) ∙ e)

  pub added_rows : (k : ℕ) → k < rows_most → (k ≡ i → ⊥) → get_or (added text w i at len h) (name_base + k) 0 ≡ get_or w (name_base + k) 0
  added_rows k l d = added_at (name_base + k) (λ e. d (omega arith)) (λ e. omega arith)

  pub added_outside : (k : ℕ) → i < rows_most → Outside k → get_or (added text w i at len h) k 0 ≡ get_or w k 0
  added_outside k l o = added_at k (not_second i k l o) (not_head h k o)

-- ---- the heads cleared
from_length : (n i : ℕ) (w : List ℕ) → length (cleared_from n i w) ≡ length w
unfolding cleared_from
from_length zero i w = refl
from_length (suc n) i w = from_length n (i + 1) (set w i 0) ∙ length-set w i 0

from_other : (n i : ℕ) (w : List ℕ) (k : ℕ) → (k < i) ⊎ (i + n ≤ k) → get_or (cleared_from n i w) k 0 ≡ get_or w k 0
unfolding cleared_from
from_other zero i w k o = refl
from_other (suc n) i w k o =
    from_other n (i + 1) (set w i 0) k (⊎_elim (λ l. inl (omega arith)) (λ l. inr (omega arith)) o)
    ∙ get_or-set_other w i k 0 0 (λ e. ⊎_elim (λ l. omega arith) (λ l. omega arith) o)

from_here : (n i : ℕ) (w : List ℕ) (k : ℕ) → i ≤ k → k < i + n → i + n ≤ length w → get_or (cleared_from n i w) k 0 ≡ 0
unfolding cleared_from
from_here zero i w k a b r = absurd (omega arith)
from_here (suc n) i w k a b r =
    ⊎_elim
    (λ e. from_other n (i + 1) (set w i 0) k (inl (omega arith)) ∙ (ap (λ j. get_or (set w i 0) j 0) e ∙ get_or-set_same w i 0 0 (omega arith)))
    (λ (d : k ≡ i → ⊥). from_here n (i + 1) (set w i 0) k (omega arith) (omega arith) (rw length-set (omega arith)))
    (cases_eq k i)

pub cleared_length : (w : List ℕ) → length (cleared w) ≡ length w
cleared_length w = from_length 4_096 head_base w

pub cleared_head : (w : List ℕ) (h : ℕ) → 16_384 ≤ length w → head_at (cleared w) h ≡ 0
cleared_head w h room = ap (λ z. z % 8_192) (from_here 4_096 head_base w (head_base + h % 4_096) (omega arith) (omega arith) (omega arith))

pub cleared_other : (w : List ℕ) (k : ℕ) → (k < head_base) ⊎ (head_end ≤ k) → get_or (cleared w) k 0 ≡ get_or w k 0
cleared_other w k o = from_other 4_096 head_base w k (⊎_elim (λ l. inl l) (λ l. inr (omega arith)) o)
