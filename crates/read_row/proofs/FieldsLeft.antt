-- The fields of a line, one after the other: the first, and those after it (`first_at`), at whatever offset the line stands. So the iterator
-- yields them, and what is left past the first two or three of a row is its parameters. A cursor stands at the first of those that it has
-- still to take, and the others are those of the cursor after the byte that ends it (`parts_more`).
use Rattle.std.proofs.Common.{◌≡◌, refl, sym, ap, ◌∙◌, Bool, true, false, cond, ◌||◌, Option, None, Some, List, [], ◌∷◌, ℕ, zero, suc, ◌-◌, ◌+◌, ◌≤◌, ◌<◌, arith, eqb, eqb-true, length, drop, drop-drop, drop_of_length-le, ◌⊎◌, ⊎_elim, MatchOption, Bor}
use Rattle.std.proofs.Math.Seq.{drop-nil}
use Rattle.std.specs.Iterator.{YieldsFirstRef, MakesProgress, item_count}
use Rattle.std.specs.List.{slice_range}
use Rattle.std.proofs.lemmas.List.{drop-map}
use Rattle.std.proofs.lemmas.Slice.{between_to_end}
use Rattle.spec_text.specs.Bytes.{Bytes, Part}
use Rattle.spec_text.specs.Lines.{cut}
use Rattle.read_fields.specs.FieldsModel.{start_at, field, field_at, end_of, end_byte, next_at}
use Rattle.read_fields.specs.declared.Cursor.{Cursor}
use Rattle.read_fields.proofs.Fields.{field_within}
use Rattle.read_line.proofs.Cut.{to_come, field_of, before, stop, unroll}
use Rattle.work_rows.specs.Layout.{kind_at, offset_at}
use Rattle.read_row.specs.RowModel.{parts_from, before_params, params_of}
use Rattle.read_row.specs.Left.{bytes_of, fields_of, left_in, fields_left, fields_after}
use Rattle.read_row.specs.declared.Fields.{Fields}
use Rattle.read_row.proofs.Runs.{cut_at}

-- ---- a byte more in the first field
byte_more : (o b : ℕ) (bs : Bytes) (x : Bytes) (xs : List Bytes) (fs : List Part) → eqb b 10 ≡ false → eqb b 9 ≡ false → (cut (suc o) bs).fields ≡ fs
    → bytes_of fs ≡ x ∷ xs → bytes_of (cut o (b ∷ bs)).fields ≡ (b ∷ x) ∷ xs
byte_more o b bs x xs [] d e f h = absurd (let z : ◌≡◌ {A = ℕ} 0 1 = cc in omega arith)
byte_more o b bs x xs (g ∷ fs) d e f h = rw (d, e, cut, f) (cc)

-- at any offset
first_at : (o : ℕ) (bs : Bytes) → bytes_of (cut o bs).fields ≡ field bs ∷ fields_after (drop (length (field bs)) bs)
unfolding field
first_at o [] = refl
first_at o (b ∷ bs) = go (eqb b 10) (eqb b 9) refl refl (first_at (suc o) bs) (first_at 0 bs)
  where
    go : (x y : Bool) → eqb b 10 ≡ x → eqb b 9 ≡ y → bytes_of (cut (suc o) bs).fields ≡ field bs ∷ fields_after (drop (length (field bs)) bs)
        → fields_of bs ≡ field bs ∷ fields_after (drop (length (field bs)) bs)
        → bytes_of (cut o (b ∷ bs)).fields ≡ field (b ∷ bs) ∷ fields_after (drop (length (field (b ∷ bs))) (b ∷ bs))
    go true y d e f g = let h : b ≡ 10 = eqb-true b 10 d in rw (h, field) refl
    go false true d e f g = let h : b ≡ 9 = eqb-true b 9 e in rw (h, field) (ap (λ xs. [] ∷ xs) (f ∙ sym g))
    go false false d e f g = rw (d, e, field) (byte_more o b bs (field bs) _ (cut (suc o) bs).fields d e refl f)

-- x is the first field of what was left
pub field_yielded : (s p : Option (Bor Bytes)) (r : Bor Bytes) (x : Bytes) → s ≡ Some r → x ≡ field_at r.now 0 → left_in p ≡ fields_after (drop (length x) r.now)
    → left_in s ≡ x ∷ left_in p
field_yielded s p r x e f h = rw (e, h, f) (first_at 0 r.now)

-- so less is left
pub less_left : (s t : Fields) (x : Bor Bytes) → fields_left s ≡ x.now ∷ fields_left t → MakesProgress (λ _. Unit) (item_count fields_left) s (Some x) t
less_left s t x e = record { on = λ _. (tt, tt, omega (arith, ap length e)); keeps = tt; rests = λ _. tt }

-- ---- the fields before the parameters of row i are passed
-- past the end of the text there is one field, which is empty
one_past : (n at : ℕ) (text : Bytes) → 0 < n → length text < at → bytes_of (drop n (cut at (drop at text)).fields) ≡ []
one_past zero at text l far = absurd (omega arith)
one_past (suc n) at text l far = rw (drop_of_length-le text {i = at} (omega arith)) (ap bytes_of (drop-nil n))

-- the text from an offset on
pub rest_from : (text : Bytes) (at : ℕ) (r : Option (Bor Bytes)) → MatchOption r ((length text < at) ⊎ (length text < length text))
    (λ x. (at ≤ length text) × (length text ≤ length text) × (x.now ≡ slice_range text at (length text)) × (length x.now + at ≡ length text))
    → MatchOption r (length text < at) (λ x. x.now ≡ drop at text)
rest_from text at None o = ⊎_elim (λ l. l) (λ l. absurd (omega arith)) o
rest_from text at (Some x) h = h.2 ∙ between_to_end text at (length text) (omega arith)

pub from_offset : (text : Bytes) (w : List ℕ) (i at n : ℕ) (r : Option (Bor Bytes)) → at ≡ offset_at w i → n ≡ before_params (kind_at w i)
    → MatchOption r (length text < at) (λ x. x.now ≡ drop at text) → drop n (left_in r) ≡ bytes_of (params_of text w i)
unfolding params_of
from_offset text w i at n r e f g = rw (← e, ← f) (go r g)
  where
    some : (t : Bool) → 0 < cond t 3 2
    some true = omega arith
    some false = omega arith

    go : (r : Option (Bor Bytes)) → MatchOption r (length text < at) (λ x. x.now ≡ drop at text) → drop n (left_in r) ≡ bytes_of (drop n (cut at (drop at text)).fields)
    go None far = drop-nil n ∙ sym (one_past n at text (rw f (some (eqb (kind_at w i) 28))) far)
    go (Some x) here =
        ap (drop n) (ap fields_of here ∙ first_at 0 (drop at text) ∙ sym (first_at at (drop at text))) ∙ drop-map (λ (p : Part). p.bytes) n (cut at (drop at text)).fields

-- one of them is passed
passed : (m : ℕ) (s t : Fields) (r : Option (Bor Bytes)) → YieldsFirstRef fields_left s r t → drop m (fields_left t) ≡ drop (suc m) (fields_left s)
passed m s t None h = rw (h.0, h.1) (drop-nil m)
passed m s t (Some x) h = rw h refl

pub field_passed : (n k : ℕ) (s t : Fields) (r : Option (Bor Bytes)) → k < n → YieldsFirstRef fields_left s r t
    → drop (n - (k + 1)) (fields_left t) ≡ drop (n - k) (fields_left s)
field_passed n k s t r l h =
    let e : suc (n - (k + 1)) ≡ n - k = omega arith in passed (n - (k + 1)) s t r h ∙ ap (λ i. drop i (fields_left s)) e

-- ---- the fields of a line, from an offset on
pub fields_more : (text : Bytes) (at : ℕ) → (cut_at text at).fields ≡ field_of text at ∷ parts_from text (next_at text (end_of text at))
fields_more text at = rw (unroll text at) (go (eqb (end_byte text at) 9) (eqb (end_byte text at) 10))
  where
    go : (t f : Bool) → (let c : Cursor = record { at = end_of text at + 1; more = t } in
        (cond (t || f) (before (field_of text at) (to_come text c)) (stop (field_of text at))).fields ≡ field_of text at ∷ parts_from text c)
    go true f = refl
    go false true = refl
    go false false = refl

pub parts_more : (text : Bytes) (c : Cursor) → c.more ≡ true
    → parts_from text c ≡ record { offset = c.at; bytes = field_at text c.at } ∷ parts_from text (next_at text (c.at + length (field_at text c.at)))
parts_more text c h = ap (λ (t : Bool). cond t (cut_at text c.at).fields []) h ∙ fields_more text c.at

-- ---- the cursor after a field
-- a field ends inside the text
pub end_inside : (text : Bytes) (at : ℕ) → at ≤ length text → end_of text at ≤ length text
end_inside text at l = omega (arith, field_within text at)

-- those that come after a field are those of the cursor after it
pub parts_after : (text : Bytes) (c d : Cursor) (x : Bytes) → c.more ≡ true → x ≡ field_at text c.at → d ≡ next_at text (c.at + length x)
    → parts_from text d ≡ drop 1 (parts_from text c)
parts_after text c d x m e f =
    ap (λ (b : Cursor). parts_from text b) (f ∙ ap (λ (y : Bytes). next_at text (c.at + length y)) e) ∙ sym (ap (drop 1) (parts_more text c m))

-- ---- the cursor passes the fields before the parameters of row i, n of them
pub some_before : (n kind : ℕ) → n ≡ before_params kind → 0 < n
some_before n kind e = rw e (go (eqb kind 28))
  where
    go : (t : Bool) → 0 < cond t 3 2
    go true = omega arith
    go false = omega arith

pub parts_start : (text : Bytes) (w : List ℕ) (i n : ℕ) (c : Cursor) → c ≡ start_at (offset_at w i) → n ≡ before_params (kind_at w i)
    → drop (n - 0) (parts_from text c) ≡ params_of text w i
unfolding params_of
parts_start text w i n c e f = let k : n - 0 ≡ n = omega arith in rw (k, e, f)

-- a field is passed
pub part_passed : (n k : ℕ) (a b : List Part) → k < n → b ≡ drop 1 a → drop (n - (k + 1)) b ≡ drop (n - k) a
part_passed n k a b l e =
    let m : 1 + (n - (k + 1)) ≡ n - k = omega arith in
    ap (drop (n - (k + 1))) e ∙ drop-drop (n - (k + 1)) 1 a ∙ ap (λ (j : ℕ). drop j a) m

pub parts_left : (n k : ℕ) (a : List Part) → n ≤ k → drop (n - k) a ≡ a
parts_left n k a l = let z : n - k ≡ 0 = omega arith in rw z
