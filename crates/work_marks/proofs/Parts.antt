-- A loop over rows that writes a number of each leaves what writing that part of the buffer at once leaves, as far as the buffer goes.
use Rattle.std.proofs.Common.{ℕ, zero, suc, ◌+◌, ◌-◌, ◌≤◌, ◌<◌, ◌≡◌, min, refl, sym, ap, ◌∙◌, arith, Bool, true, false, cond, ltb, lt-ltb, ltb-true, ltb-false, List, [], ◌∷◌, ◌++◌, map, length, get_or, set, take, drop, length-drop, drop-cons, append_assoc}
use Rattle.std.proofs.Math.Seq.{take-suc-set, set_out}
use Rattle.std.proofs.lemmas.List.{append-nil, take-append-drop, drop-set-lt, take_all, drop_all, take_min, drop_min}
use Rattle.work_rows.specs.LoopsModel.{each, rows_to, next_row}

module _ (g : ℕ → ℕ) where
  -- k numbers are written, from the one at a on
  abbrev at_once : ℕ → ℕ → List ℕ → List ℕ
  at_once a k w = take a w ++ (map g (take k (drop a w)) ++ drop k (drop a w))

  -- past the end none is
  none_past : (a k : ℕ) (w : List ℕ) → length w ≤ a → at_once a k w ≡ w
  none_past a k w past = rw (take_all a w past, drop_all a w past) (by k)
    where
      by : (k : ℕ) → w ++ (map g (take k []) ++ drop k []) ≡ w
      by zero = append-nil w
      by (suc k) = append-nil w

  -- the number at a first, then the others
  one_more : (a k : ℕ) (w : List ℕ) → at_once (suc a) k (set w a (g (get_or w a 0))) ≡ at_once a (suc k) w
  one_more a k w = go (ltb a (length w)) refl
    where
      go : (t : Bool) → ltb a (length w) ≡ t → at_once (suc a) k (set w a (g (get_or w a 0))) ≡ at_once a (suc k) w
      go true p =
          let here : a < length w = ltb-true a (length w) p in
          let x : ℕ = g (get_or w a 0) in
          rw (take-suc-set w a x here, drop-set-lt (suc a) w a x (omega arith), drop-cons w a 0 here) (append_assoc (take a w) (x ∷ []) _)
      go false p =
          let past : length w ≤ a = ltb-false a (length w) p in
          rw (set_out w a (g (get_or w a 0)) past) (none_past (suc a) k w (omega arith) ∙ sym (none_past a (suc k) w past))

  module _ (b : ℕ) where
    -- row i's number, the one at b + i, is written
    abbrev written : ℕ → List ℕ → List ℕ
    written i w = set w (b + i) (g (get_or w (b + i) 0))

    each_written : (k at : ℕ) (w : List ℕ) → each next_row written k at (at + k) w ≡ at_once (b + at) k w
    unfolding each
    each_written zero at w = sym (take-append-drop (b + at) w)
    each_written (suc k) at w =
        let v : List ℕ = written at w in
        let stop : at + suc k ≡ at + 1 + k = omega arith in
        let next : b + (at + 1) ≡ suc (b + at) = omega arith in
        ap (λ t. cond t (each next_row written k (at + 1) (at + suc k) v) w) (lt-ltb at (at + suc k) (omega arith))
        ∙ (ap (λ j. each next_row written k (at + 1) j v) stop ∙ (each_written k (at + 1) v ∙ (ap (λ n. at_once n k v) next ∙ one_more (b + at) k w)))

    -- the first rows, as many as the buffer has: the part from a on has k numbers, and holds ys then
    pub rows_written : (rows a k : ℕ) (w ys : List ℕ) → a ≡ min b (length w) → k ≡ min (b + rows) (length w) - a → ys ≡ map g (take k (drop a w))
        → take a w ++ (ys ++ drop k (drop a w)) ≡ rows_to next_row written 0 rows w
    rows_written rows a k w ys p q r = rw r (part (ltb b (length w)) refl ∙ sym all)
      where
        all : rows_to next_row written 0 rows w ≡ at_once b rows w
        all =
            let count : rows - 0 ≡ rows = omega arith in
            let stop : 0 + rows ≡ rows = omega arith in
            let start : b + 0 ≡ b = omega arith in
            ap (λ n. each next_row written n 0 rows w) count
            ∙ (ap (λ j. each next_row written rows 0 j w) (sym stop) ∙ (each_written rows 0 w ∙ ap (λ n. at_once n rows w) start))

        part : (t : Bool) → ltb b (length w) ≡ t → at_once a k w ≡ at_once b rows w
        part true e =
            let here : b < length w = ltb-true b (length w) e in
            let from : a ≡ b = omega arith in
            let many : k ≡ min rows (length (drop b w)) = omega (arith, length-drop b w) in
            rw (from, many, take_min rows (drop b w), drop_min rows (drop b w)) refl
        part false e =
            let past : length w ≤ b = ltb-false b (length w) e in
            none_past a k w (omega arith) ∙ sym (none_past b rows w past)
