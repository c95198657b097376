-- `cut` by fields: the fields of a line are the one at its offset and those that come after the byte that ends it (`unroll`).
-- A cursor stands before the fields that are still to come (`to_come`).
use Rattle.std.proofs.Common.{◌≡◌, refl, Bool, true, false, cond, [], ◌∷◌, ℕ, suc, ◌+◌, add-zero, add-suc, suc-add, add-one, eqb, eqb-true, length, get_or, drop, drop-drop, get_or-drop}
use Rattle.spec_text.specs.Bytes.{Bytes, Part}
use Rattle.spec_text.specs.Lines.{Cut, cut}
use Rattle.read_fields.specs.FieldsModel.{field, field_at, end_of, end_byte, past}
use Rattle.read_bytes.specs.BytesModel.{is_end}
use Rattle.read_fields.specs.declared.Cursor.{Cursor}

-- the fields of the bytes at an offset where there is one more field; else the line has ended
abbrev from : Bool → ℕ → Bytes → Cut
from more o bs = cond more (cut o bs) (record { fields = []; ended = true; rest = bs; next = o })

abbrev pub to_come : Bytes → Cursor → Cut
to_come text c = from c.more c.at (drop c.at text)

abbrev pub field_of : Bytes → ℕ → Part
field_of text at = record { offset = at; bytes = field_at text at }

abbrev pub before : Part → Cut → Cut
before f k = record { fields = f ∷ k.fields; ended = k.ended; rest = k.rest; next = k.next }

-- a field at the end of the text: nothing ends the line
abbrev pub stop : Part → Cut
stop f = record { fields = f ∷ []; ended = false; rest = []; next = f.offset + length f.bytes }

-- a field, and the bytes that stand where it ends
abbrev split : Part → Bytes → Cut
split f r =
    cond (is_end (get_or r 0 0)) (before f (from (eqb (get_or r 0 0) 9) (suc (f.offset + length f.bytes)) (drop 1 r))) (stop f)

-- the first field of some bytes, and what follows it
abbrev by_field : ℕ → Bytes → Cut
by_field o bs = split (record { offset = o; bytes = field bs }) (drop (length (field bs)) bs)

cut_split : (o : ℕ) (bs : Bytes) → cut o bs ≡ by_field o bs
unfolding field
cut_split o [] = rw add-zero
cut_split o (b ∷ bs) = go (eqb b 10) (eqb b 9) refl refl (cut_split (suc o) bs)
  where
    inside : (t : Bool) (r : Bytes) → is_end (get_or r 0 0) ≡ t → cut (suc o) bs ≡ split (record { offset = suc o; bytes = field bs }) r
        → eqb b 10 ≡ false → eqb b 9 ≡ false → cut o (b ∷ bs) ≡ split (record { offset = o; bytes = b ∷ field bs }) r
    inside true r e k d f = rw (d, f, cut, k, e, suc-add, add-suc)
    inside false r e k d f = rw (d, f, cut, k, e, suc-add, add-suc)

    go : (x y : Bool) → eqb b 10 ≡ x → eqb b 9 ≡ y → cut (suc o) bs ≡ by_field (suc o) bs → cut o (b ∷ bs) ≡ by_field o (b ∷ bs)
    go x true d f k = let h : b ≡ 9 = eqb-true b 9 f in rw h (rw (add-zero, field))
    go true false d f k = let h : b ≡ 10 = eqb-true b 10 d in rw h (rw (add-zero, field))
    go false false d f k = rw (f, d, field) (inside (is_end (get_or (drop (length (field bs)) bs) 0 0)) (drop (length (field bs)) bs) refl k d f)

pub unroll : (text : Bytes) (at : ℕ)
    → cut at (drop at text) ≡ cond (is_end (end_byte text at)) (before (field_of text at) (to_come text (past text at))) (stop (field_of text at))
unroll text at =
    let n : ℕ = end_of text at in
    rw (cut_split at (drop at text), drop-drop (length (field_at text at)) at text, get_or-drop n text 0 0, add-zero, drop-drop 1 n text, add-one)
