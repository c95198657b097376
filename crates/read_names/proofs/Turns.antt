-- The code's steps, as the definitions have them: along a chain, and over the heads that are cleared.
use Rattle.std.proofs.Common.{ℕ, zero, suc, ◌+◌, ◌-◌, ◌≤◌, ◌<◌, ◌≡◌, refl, sym, ap, ◌∙◌, Bool, true, false, cond, List, leb, length, take, drop, set, replicate, arith, leb-true, add-one, append_assoc, take-append-drop, length-set, length-drop, length-take-le, take-suc-set, drop-set-lt, drop-drop, min, ◌++◌, cond, Some, ◌⊎◌, inl, inr}
use Rattle.std.proofs.lemmas.Bool.{cases_lt}
use Rattle.std.proofs.lemmas.List.{set_past}
use Rattle.spec_text.specs.Bytes.{Bytes, same}
use Rattle.read_fields.specs.FieldsModel.{field_at}
use Rattle.work_rows.specs.Layout.{rows_most, head_base, head_end, offset_at, same_at}
use Rattle.read_names.specs.ChainsModel.{link_at, follow, cleared_from, cleared}

pub link_falls : (w : List ℕ) (j : ℕ) → link_at w j ≤ j
link_falls w j = go (leb (same_at w j - rows_most) j) refl
  where
    go : (t : Bool) → leb (same_at w j - rows_most) j ≡ t → cond t (same_at w j - rows_most) 0 ≤ j
    go true e = leb-true (same_at w j - rows_most) j e
    go false e = omega arith

-- ---- along a chain from c on, with c steps
module _ (text : Bytes) (w : List ℕ) (x : Bytes) where
  enough : (n m c : ℕ) → c ≤ n → c ≤ m → follow n text w c x ≡ follow m text w c x
  unfolding follow
  enough zero zero c a b = refl
  enough zero (suc m) zero a b = refl
  enough zero (suc m) (suc j) a b = absurd (omega arith)
  enough (suc n) zero zero a b = refl
  enough (suc n) zero (suc j) a b = absurd (omega arith)
  enough (suc n) (suc m) zero a b = refl
  enough (suc n) (suc m) (suc j) a b =
      ap (cond (same (field_at text (offset_at w j)) x) (Some j))
      (enough n m (link_at w j) (omega (arith, link_falls w j)) (omega (arith, link_falls w j)))

  -- the steps that a row leaves are enough for the rest of its chain
  pub follow_rest : (j : ℕ) → follow j text w (link_at w j) x ≡ follow (link_at w j) text w (link_at w j) x
  follow_rest j = enough j (link_at w j) (link_at w j) (link_falls w j) (omega arith)

-- ---- the heads cleared: so many numbers from i on are 0, as far as the buffer goes
past_end : (n i : ℕ) (w : List ℕ) → length w ≤ i → cleared_from n i w ≡ w
unfolding cleared_from
past_end zero i w l = refl
past_end (suc n) i w l = ap (cleared_from n (i + 1)) (set_past w i 0 l) ∙ past_end n (i + 1) w (omega arith)

-- m of them are to be 0, and n are there
cleared_fill : (n m i : ℕ) (w : List ℕ) → n ≤ m → i + n ≤ length w → (n < m → length w ≤ i + n)
    → cleared_from m i w ≡ take i w ++ (replicate n 0 ++ drop n (drop i w))
unfolding cleared_from
cleared_fill zero zero i w a l b = sym (take-append-drop i w)
cleared_fill zero (suc m) i w a l b = past_end (suc m) i w (omega (arith, b (omega arith))) ∙ sym (take-append-drop i w)
cleared_fill (suc n) zero i w a l b = absurd (omega arith)
cleared_fill (suc n) (suc m) i w a l b =
    let inside : i < length w = omega arith in
    let rest : suc i + n ≡ i + suc n = omega arith in
    cleared_fill n m (i + 1) (set w i 0) (omega arith) (omega (arith, length-set w i 0)) (λ c. omega (arith, length-set w i 0, b (omega arith)))
    ∙ rw (add-one i, take-suc-set w i 0 inside, drop-set-lt (suc i) w i 0 (omega arith), drop-drop, append_assoc) (rw (drop-drop, rest))

pub heads_filled : (w ys : List ℕ) (end start : ℕ) → end ≡ min (length w) head_end → start ≡ min end head_base
    → ys ≡ replicate (length (take (end - start) (drop start w))) 0 → take start w ++ (ys ++ drop (end - start) (drop start w)) ≡ cleared w
heads_filled w ys end start p q e =
    ap (λ z. take start w ++ (z ++ drop (end - start) (drop start w))) (e ∙ ap (λ n. replicate n 0) all) ∙ go (cases_lt (length w) head_base)
  where
    all : length (take (end - start) (drop start w)) ≡ end - start
    all = length-take-le (end - start) (drop start w) (omega (arith, length-drop start w))

    go : (length w < head_base) ⊎ (head_base ≤ length w) → take start w ++ (replicate (end - start) 0 ++ drop (end - start) (drop start w)) ≡ cleared w
    go (inl l) =
        sym (cleared_fill (end - start) 0 start w (omega arith) (omega arith) (λ c. absurd (omega arith)))
        ∙ past_end 0 start w (omega arith) ∙ sym (past_end 4_096 head_base w (omega arith))
    go (inr l) =
        let here : start ≡ head_base = omega arith in
        sym (cleared_fill (end - start) 4_096 start w (omega arith) (omega arith) (λ c. omega arith)) ∙ ap (λ i. cleared_from 4_096 i w) here
