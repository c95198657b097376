-- Fields of one sort in a row, as the two numbers of a span: a cursor takes k of them just where the list of fields to come begins with
-- k that are right, and then stands before the others (`row_taken`).
use Rattle.std.proofs.Common.{◌≡◌, refl, ap, Bool, true, false, cond, ◌&&◌, List, [], ◌∷◌, ℕ, zero, suc, take, drop, Option, Some, None}
use Rattle.std.proofs.Math.Bool.{and-false}
use Rattle.spec_text.specs.Bytes.{Bytes, Part}
use Rattle.spec_text.specs.Lines.{Cut}
use Rattle.read_fields.specs.FieldsModel.{field_at, end_byte, past, takes}
use Rattle.read_bytes.specs.BytesModel.{is_end}
use Rattle.read_fields.specs.declared.Cursor.{Cursor}
use Rattle.read_line.proofs.Cut.{to_come, field_of, before, stop, unroll}

-- the fields that were taken, and the cursor past them; none where one was not right
pub record Row : Type 0 where
  pub parts : List Part
  pub next : Option Cursor

abbrev pub row_from : ℕ → (Bytes → Bool) → Bytes → Cursor → Row
row_from zero right text c = record { parts = []; next = Some c }
row_from (suc k) right text c =
    cond (takes right text c)
    (let r = row_from k right text (past text c.at) in record { parts = field_of text c.at ∷ r.parts; next = r.next })
    (record { parts = []; next = None })

-- a list begins with k fields that are right
abbrev pub begins : ℕ → (Bytes → Bool) → List Part → Bool
begins zero right fs = true
begins (suc k) right [] = false
begins (suc k) right (f ∷ fs) = right f.bytes && begins k right fs

-- without its first k fields
abbrev pub without : ℕ → Cut → Cut
without k l = record { fields = drop k l.fields; ended = l.ended; rest = l.rest; next = l.next }

pub data Taken (k : ℕ) (right : Bytes → Bool) (text : Bytes) (l : Cut) (r : Row) : Type 0 where
  took : (d : Cursor) → begins k right l.fields ≡ true → r.parts ≡ take k l.fields → r.next ≡ Some d → to_come text d ≡ without k l → Taken k right text l r
  lost : (l.ended && begins k right l.fields) ≡ false → r.next ≡ None → Taken k right text l r

row_at : (k : ℕ) (right : Bytes → Bool) (text : Bytes) (at : ℕ) (more : Bool)
    → (let c : Cursor = record { at = at; more = more } in Taken k right text (to_come text c) (row_from k right text c))
row_at zero right text at more = took (record { at = at; more = more }) refl refl refl refl
row_at (suc k) right text at false = lost refl refl
row_at (suc k) right text at true =
    rw (unroll text at)
    (go (is_end (end_byte text at)) (right (field_at text at)) refl refl (row_at k right text (past text at).at (past text at).more))
  where
    c : Cursor
    c = record { at = at; more = true }

    go : (e r : Bool) → is_end (end_byte text at) ≡ e → right (field_at text at) ≡ r
        → Taken k right text (to_come text (past text at)) (row_from k right text (past text at))
        → Taken (suc k) right text (cond (is_end (end_byte text at)) (before (field_of text at) (to_come text (past text at))) (stop (field_of text at)))
        (row_from (suc k) right text c)
    go false r e h t = rw (e, h, and-false) (lost refl refl)
    go true false e h t = rw (e, h) (lost (rw (h, and-false)) refl)
    go true true e h (took n a b d f) = rw (e, h) (took n (rw h a) (ap (λ l. field_of text at ∷ l) b) d f)
    go true true e h (lost a b) = rw (e, h) (lost (rw h a) b)

pub row_taken : (k : ℕ) (right : Bytes → Bool) (text : Bytes) (c : Cursor) → Taken k right text (to_come text c) (row_from k right text c)
row_taken k right text c = row_at k right text c.at c.more
