-- The steps of a line as rows of fields: numbers or a name that are due or not are a row of so many fields, whose values are read off its
-- parts (`numbers_row`, `name_row_lem`). At the parameters, the line ends well where the fields to come are so many names, or none (`end_taken`).
use Rattle.std.proofs.Common.{◌≡◌, refl, ap, ◌∙◌, Bool, true, false, cond, ◌&&◌, List, ℕ, zero, suc, ◌≤◌, arith, eqb, ltb, length, get_or, Option, Some, None, option_map, option_and_then}
use Rattle.std.proofs.Math.Bool.{and-false}
use Rattle.std.proofs.Math.Dec.{eqb-zero-suc}
use Rattle.spec_text.specs.Bytes.{Bytes, Part, no_part, all, is_name, is_number, value_of}
use Rattle.spec_text.specs.Lines.{Cut}
use Rattle.read_fields.specs.FieldsModel.{end_byte, past, takes, hash_of, hash_from, end_from}
use Rattle.read_bytes.specs.BytesModel.{is_end}
use Rattle.read_fields.specs.declared.Cursor.{Cursor}
use Rattle.read_fields.specs.declared.Number.{Number}
use Rattle.read_fields.specs.declared.Name.{Name}
use Rattle.read_line.specs.StepsModel.{number_if, name_if, params_if, all_names}
use Rattle.read_line.specs.declared.Params.{Params}
use Rattle.read_line.specs.declared.Line.{Line}
use Rattle.read_line.proofs.Cut.{to_come, field_of, before, stop, unroll}
use Rattle.read_line.proofs.FieldRows.{row_from}

-- ---- up to three numbers
pub record Numbers : Type 0 where
  pub first : ℕ
  pub second : ℕ
  pub third : ℕ
  pub next : Cursor

abbrev pub numbers_if : Bool → Bool → Bool → ℕ → Bytes → Cursor → Option Numbers
numbers_if x y z largest text c =
    option_and_then (λ (a : Number).
    option_and_then (λ (b : Number).
    option_map (λ (d : Number). record { first = a.value; second = b.value; third = d.value; next = d.next })
    (number_if z largest text b.next))
    (number_if y largest text a.next))
    (number_if x largest text c)

abbrev pub number_at : List Part → ℕ → ℕ
number_at ps i = value_of (get_or ps i no_part).bytes

abbrev pub numbers_at : List Part → Cursor → Numbers
numbers_at ps next = record { first = number_at ps 0; second = number_at ps 1; third = number_at ps 2; next = next }

pub numbers_row : (k largest : ℕ) (text : Bytes) (c : Cursor) → k ≤ 3
    → (let r = row_from k (is_number largest) text c in numbers_if (ltb 0 k) (ltb 1 k) (ltb 2 k) largest text c ≡ option_map (numbers_at r.parts) r.next)
unfolding number_if
numbers_row k largest text c h = go k (test c) (test d) (test (past text d.at)) refl refl refl h
  where
    test : Cursor → Bool
    test c = takes (is_number largest) text c

    d : Cursor
    d = past text c.at

    go : (k : ℕ) (x y z : Bool) → test c ≡ x → test d ≡ y → test (past text d.at) ≡ z → k ≤ 3
        → (let r = row_from k (is_number largest) text c in numbers_if (ltb 0 k) (ltb 1 k) (ltb 2 k) largest text c ≡ option_map (numbers_at r.parts) r.next)
    go zero x y z p q r h = refl
    go (suc zero) true y z p q r h = rw p
    go (suc zero) false y z p q r h = rw p
    go (suc (suc zero)) true true z p q r h = rw (p, q)
    go (suc (suc zero)) true false z p q r h = rw (p, q)
    go (suc (suc zero)) false y z p q r h = rw p
    go (suc (suc (suc zero))) true true true p q r h = rw (p, q, r)
    go (suc (suc (suc zero))) true true false p q r h = rw (p, q, r)
    go (suc (suc (suc zero))) true false z p q r h = rw (p, q)
    go (suc (suc (suc zero))) false y z p q r h = rw p
    go (suc (suc (suc (suc k)))) x y z p q r h = absurd (omega arith)

-- ---- a name
abbrev pub name_at : List Part → Cursor → Name
name_at ps next = let x = get_or ps 0 no_part in record { part = record { offset = x.offset; len = length x.bytes }; hash = hash_of x.bytes; next = next }

pub name_row_lem : (due : Bool) (text : Bytes) (c : Cursor)
    → (let r = row_from (cond due 1 0) is_name text c in name_if due text c ≡ option_map (name_at r.parts) r.next)
unfolding hash_from name_if
name_row_lem false text c = refl
name_row_lem true text c = go (takes is_name text c) refl
  where
    go : (t : Bool) → takes is_name text c ≡ t → (let r = row_from 1 is_name text c in name_if true text c ≡ option_map (name_at r.parts) r.next)
    go true e = rw e
    go false e = rw e

-- ---- parameters and the end
abbrev pub is_name_part : Part → Bool
is_name_part f = is_name f.bytes

-- what may be left after the other fields
abbrev pub left : Bool → List Part → Bool
left params fs = cond params (all is_name_part fs) (eqb 0 (length fs))

-- a line by how many parameters it has and where it ends
abbrev ended : Option Params → (ℕ → ℕ → Line) → Option Line
ended o line = option_and_then (λ (p : Params). option_and_then (λ (e : Cursor). Some (line p.count e.at)) (end_from p.next)) o

abbrev pub end_line : Bool → Bytes → Cursor → (ℕ → ℕ → Line) → Option Line
end_line params text c line = ended (params_if params text c) line

abbrev pub end_cut : Bool → Cut → (ℕ → ℕ → Line) → Option Line
end_cut params l line = cond (l.ended && left params l.fields) (Some (line (length l.fields) l.next)) None

-- parameters that are due are the fields to come
names_at : (text : Bytes) (at : ℕ) (more : Bool) → (let c : Cursor = record { at = at; more = more } in params_if true text c ≡ all_names (to_come text c))
unfolding params_if
names_at text at true = refl
names_at text at false = refl

pub names_left : (text : Bytes) (c : Cursor) → params_if true text c ≡ all_names (to_come text c)
names_left text c = names_at text c.at c.more

none_due : (text : Bytes) (line : ℕ → ℕ → Line) (at : ℕ) (more : Bool)
    → (let c : Cursor = record { at = at; more = more } in end_line false text c line ≡ end_cut false (to_come text c) line)
unfolding params_if
none_due text line at false = refl
none_due text line at true = rw (unroll text at) (go (is_end (end_byte text at)) (to_come text (past text at)))
  where
    go : (t : Bool) (l : Cut) → None ≡ end_cut false (cond t (before (field_of text at) l) (stop (field_of text at))) line
    go true l = rw (eqb-zero-suc, and-false)
    go false l = refl

pub end_taken : (params : Bool) (text : Bytes) (line : ℕ → ℕ → Line) (c : Cursor) → end_line params text c line ≡ end_cut params (to_come text c) line
end_taken false text line c = none_due text line c.at c.more
end_taken true text line c = ap (λ (p : Option Params). ended p line) (names_left text c) ∙ go (l.ended && all is_name_part l.fields)
  where
    l : Cut
    l = to_come text c

    go : (t : Bool)
        → ended (cond t (Some (record { count = length l.fields; next = record { at = l.next; more = false } })) None) line
        ≡ cond t (Some (line (length l.fields) l.next)) None
    go true = refl
    go false = refl
