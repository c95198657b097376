-- What is listed at a row by the tests of the code, what is around the rows below it, one row more, and how many entries rows have.
use Rattle.std.proofs.Common.{ℕ, zero, suc, ◌+◌, ◌*◌, ◌-◌, ◌≤◌, ◌<◌, arith, ◌≡◌, ap, Bool, true, false, cond, ◌||◌, List, [], ◌∷◌, ◌++◌, append-nil, eqb, length, length-append, ne_eqb, le-leb}
use Rattle.std.proofs.lemmas.Bool.{lt-leb}
use Rattle.spec_faults.specs.Faults.{capture}
use Rattle.work_rows.specs.Layout.{kind_at, lines_below, after_row}
use Rattle.report_order.specs.declared.Around.{Around}
use Rattle.report_order.specs.declared.list.Entries.{Entries}
use Rattle.report_order.specs.ListModel.{Listed}
use Rattle.report_order.specs.OrderModel.{entry, slot_in, captured, captures, called, itself, new_lambda, new_class, around, placed_at, entries_from}
use Rattle.report_order.proofs.Stored.{captures_same, called_same, entries_same, listed_then, Left, left_more, left_none}

-- ---- what is around the rows below: a class is a row
module _ (w : List ℕ) (x : Around) (p : ℕ) where
  pub class_few : p ≤ 4_096 → x.class ≤ 4_096 → (around w x p).class ≤ 4_096
  unfolding around
  class_few l m = go (new_class w x p)
    where
      go : (b : Bool) → cond b p x.class ≤ 4_096
      go true = l
      go false = m

-- ---- one row more
module _ (here : Entries) (p i stop : ℕ) {all : List ℕ} {start : Entries} (left : Left (captures here.work.now p (stop - i) i) here all start) where
  pub captures_more : i < stop → {next : Entries} → Listed here (captured here.work.now p i) next → Left (captures next.work.now p (stop - (i + 1)) (i + 1)) next all start
  unfolding captures
  captures_more l {next} h =
      let w : List ℕ = here.work.now in
      let n : stop - i ≡ suc (stop - (i + 1)) = omega arith in
      rw (captures_same w next.work.now h.same_rows p (stop - (i + 1)) (i + 1))
      (left_more (captured w p i) (captures w p (stop - (i + 1)) (i + 1)) (ap (λ n. captures w p n i) n) h left)

  pub captures_end : stop ≤ i → Listed start all here
  unfolding captures
  captures_end l = left_none (ap (λ n. captures here.work.now p n i) (let n : stop - i ≡ 0 = omega arith in n)) left

module _ (here : Entries) (x : Around) (p stop : ℕ) {all : List ℕ} {start : Entries} (left : Left (entries_from here.work.now x (stop - p) p) here all start) where
  pub entries_more : p < stop → stop ≤ 4_096 → {y : Around} {next : Entries} → y ≡ around here.work.now x p → Listed here (placed_at here.work.now x p) next
      → Left (entries_from next.work.now y (stop - (p + 1)) (p + 1)) next all start
  unfolding entries_from
  entries_more l m {y} {next} e h =
      let w : List ℕ = here.work.now in
      let n : stop - p ≡ suc (stop - (p + 1)) = omega arith in
      rw (e, entries_same w next.work.now h.same_rows (around w x p) (stop - (p + 1)) (p + 1) (omega arith))
      (left_more (placed_at w x p) (entries_from w (around w x p) (stop - (p + 1)) (p + 1)) (ap (λ n. entries_from w x n p) n) h left)

  pub entries_end : stop ≤ p → Listed start all here
  unfolding entries_from
  entries_end l = left_none (ap (λ n. entries_from here.work.now x n p) (let n : stop - p ≡ 0 = omega arith in n)) left

pub ruleset row_more = (captures_more, captures_end, entries_more, entries_end)

-- ---- how many
few : (b : Bool) (c d : List ℕ) {n : ℕ} → length c ≤ n → length d ≤ n → length (cond b c d) ≤ n
few true c d h k = h
few false c d h k = k

module _ (w : List ℕ) (p : ℕ) where
  captured_few : (i : ℕ) → length (captured w p i) ≤ 1
  unfolding captured
  captured_few i = few (capture (slot_in w i)) (entry (slot_in w i) p i ∷ []) [] (omega arith) (omega arith)

  captures_few : (n i : ℕ) → length (captures w p n i) ≤ n
  unfolding captures
  captures_few zero i = omega arith
  captures_few (suc n) i = omega (arith, length-append (captured w p i) (captures w p n (i + 1)), captured_few i, captures_few n (i + 1))

  called_few : length (called w p) ≤ 1
  unfolding called
  called_few = few (eqb (slot_in w (p + 1)) 9 || eqb (slot_in w (p + 1)) 12) (entry (slot_in w (p + 1)) p (p + 1) ∷ []) [] (omega arith) (omega arith)

  itself_few : (c : ℕ) → length (itself w c p) ≤ 1
  unfolding itself
  itself_few c =
      few (eqb (slot_in w p) 8 || (eqb (slot_in w p) 11 || eqb (slot_in w p) 14)) (entry (slot_in w p) p p ∷ []) (cond (eqb (slot_in w p) 15) (entry 15 c p ∷ []) []) (omega arith)
      (few (eqb (slot_in w p) 15) (entry 15 c p ∷ []) [] (omega arith) (omega arith))

  placed_few : (x : Around) → length (placed_at w x p) ≤ 8_192
  unfolding placed_at
  placed_few x =
      let a : List ℕ = cond (new_lambda w x p) (captures w p (lines_below w p) (p + 1)) [] in
      let b : List ℕ = cond (eqb (kind_at w p) 21) (called w p) [] in
      let m : length a ≤ 4_096 = few (new_lambda w x p) (captures w p (lines_below w p) (p + 1)) [] (omega (arith, captures_few (lines_below w p) (p + 1))) (omega arith) in
      let n : length b ≤ 1 = few (eqb (kind_at w p) 21) (called w p) [] called_few (omega arith) in
      omega (arith, length-append (itself w (around w x p).class p) (a ++ b), length-append a b, itself_few (around w x p).class)

-- ---- the entries of n rows
pub entries_few : (w : List ℕ) (x : Around) (n p : ℕ) → length (entries_from w x n p) ≤ 8_192 * n
unfolding entries_from
entries_few w x zero p = omega arith
entries_few w x (suc n) p = omega (arith, length-append (placed_at w x p) (entries_from w (around w x p) n (p + 1)), placed_few w p x, entries_few w (around w x p) n (p + 1))

-- ---- the entries of a row: its own, then those of the rows below it
module _ {a b : Entries} (x : Around) (p : ℕ) {y : Around} (is : y ≡ around a.work.now x p) (own : Listed a (itself a.work.now y.class p) b) where
  -- of a lambda, and of a lambda in a lambda
  pub row_lambda : kind_at a.work.now p ≡ 28 → x.lambda ≤ p → {c : Entries} {stop : ℕ} → stop ≡ after_row a.work.now p
      → Listed b (captures b.work.now p (stop - (p + 1)) (p + 1)) c → Listed a (placed_at a.work.now x p) c
  unfolding placed_at
  row_lambda e l {stop = stop} s h =
      let n : stop - (p + 1) ≡ lines_below a.work.now p = omega (arith, s) in
      rw (
        e,
        le-leb x.lambda p l,
        ← is,
        append-nil (captures a.work.now p (lines_below a.work.now p) (p + 1)),
        ← n,
        ← captures_same a.work.now b.work.now own.same_rows p (stop - (p + 1)) (p + 1),
      )
      (listed_then own h)

  pub row_inner : kind_at a.work.now p ≡ 28 → p < x.lambda → Listed a (placed_at a.work.now x p) b
  unfolding placed_at
  row_inner e l = rw (e, lt-leb x.lambda p l, ← is, append-nil (itself a.work.now y.class p)) own

  -- of a call, and of a row of another kind
  pub row_call : kind_at a.work.now p ≡ 21 → {c : Entries} → Listed b (called b.work.now p) c → Listed a (placed_at a.work.now x p) c
  unfolding placed_at
  row_call e h = rw (e, ← is, ← called_same a.work.now b.work.now own.same_rows p) (listed_then own h)

  pub row_other : (kind_at a.work.now p ≡ 28 → ⊥) → (kind_at a.work.now p ≡ 21 → ⊥) → Listed a (placed_at a.work.now x p) b
  unfolding placed_at
  row_other d e = rw (ne_eqb (kind_at a.work.now p) 28 d, ne_eqb (kind_at a.work.now p) 21 e, append-nil, ← is) own
