-- The fields of a line in the text: each is the field that a cursor meets at its offset, and the next line starts after the first LF.
-- By induction over the bytes, as `cut` goes.
use Rattle.std.proofs.Common.{ℕ, suc, ◌-◌, ◌≤◌, ◌<◌, arith, ◌≡◌, refl, subst, Bool, true, false, List, [], ◌∷◌, eqb, length, drop, length-drop, le-leb}
use Rattle.spec_text.specs.Bytes.{Bytes, Part, part_of}
use Rattle.spec_text.specs.Lines.{cut}
use Rattle.spec_text.proofs.Lists.{All, all_nil, all_cons, next_of}
use Rattle.read_fields.specs.FieldsModel.{field, field_at}
use Rattle.read_tree.specs.Laid.{skip}
use Rattle.read_fields.proofs.FieldFront.{Front, field_front}

-- ---- a field
abbrev pub FieldIn : Bytes → Part → Type 0
FieldIn text x = field_at text x.offset ≡ x.bytes

-- a field that is not empty starts inside the text, and is a part of it
pub field_inside : (text : Bytes) (x : Part) → FieldIn text x → (x.bytes ≡ [] → ⊥)
    → (x.offset < length text) × (part_of text x.offset (length x.bytes) ≡ x.bytes)
field_inside text x f h = go x.bytes f h
  where
    go : (y : Bytes) → field_at text x.offset ≡ y → (y ≡ [] → ⊥) → (x.offset < length text) × (part_of text x.offset (length y) ≡ y)
    go [] e h = absurd (h refl)
    go (b ∷ y) e h =
        let k : Front (drop x.offset text) (b ∷ y) = subst (Front (drop x.offset text)) e (field_front (drop x.offset text)) in
        let s : length (b ∷ y) ≤ length text - x.offset = omega (arith, k.short, length-drop x.offset text) in
        (omega arith, rw (le-leb x.offset (length text) (omega arith), le-leb (length (b ∷ y)) (length text - x.offset) s) k.here)

-- ---- the fields of a line that starts at an offset
record FieldsAt (text : Bytes) (o : ℕ) (fs : List Part) : Type 0 where
  others : List Part
  fields : fs ≡ record { offset = o; bytes = field_at text o } ∷ others
  inside : All (FieldIn text) others

cut_from : (text bs : Bytes) (o : ℕ) → drop o text ≡ bs → FieldsAt text o (cut o bs).fields
unfolding field
cut_from text [] o e = record { others = []; fields = rw e; inside = all_nil }
cut_from text (b ∷ bs) o e = go (eqb b 10) (eqb b 9) refl refl (cut_from text bs (suc o) n)
  where
    n : drop (suc o) text ≡ bs
    n = (next_of text o b bs e).1

    go : (x y : Bool) → eqb b 10 ≡ x → eqb b 9 ≡ y → FieldsAt text (suc o) (cut (suc o) bs).fields → FieldsAt text o (cut o (b ∷ bs)).fields
    go true true d f k = record { others = []; fields = rw (e, d, f, cut, field); inside = all_nil }
    go true false d f k = record { others = []; fields = rw (e, d, f, cut, field); inside = all_nil }
    go false true d f k =
        record {
          others = record { offset = suc o; bytes = field_at text (suc o) } ∷ k.others;
          fields = rw (e, d, f, cut, field, k.fields);
          inside = all_cons refl k.inside;
        }
    go false false d f k = record { others = k.others; fields = rw (e, d, f, cut, field, k.fields, n); inside = k.inside }

pub cut_fields : (text : Bytes) (o : ℕ) → All (FieldIn text) (cut o (drop o text)).fields
cut_fields text o = let k = cut_from text (drop o text) o refl in rw k.fields (all_cons refl k.inside)

-- ---- where the next line starts
pub cut_skips : (o : ℕ) (bs : Bytes) → skip 1 o bs ≡ (cut o bs).next
cut_skips o [] = refl
cut_skips o (b ∷ bs) = go (eqb b 10) (eqb b 9) refl refl (cut_skips (suc o) bs)
  where
    go : (x y : Bool) → eqb b 10 ≡ x → eqb b 9 ≡ y → skip 1 (suc o) bs ≡ (cut (suc o) bs).next → skip 1 o (b ∷ bs) ≡ (cut o (b ∷ bs)).next
    go true y d f k = rw (d, skip, cut)
    go false true d f k = rw (d, f, skip, cut) k
    go false false d f k = rw (d, f, skip, cut) k

further : {o k : ℕ} (x : Bool) → o < k → o < (elim x [ true ↦ suc o | false ↦ k ])
further true h = omega arith
further false h = h

pub skip_onward : (o b : ℕ) (bs : Bytes) → o < skip 1 o (b ∷ bs)
skip_onward o b [] = further (eqb b 10) (omega arith)
skip_onward o b (c ∷ bs) = further (eqb b 10) (omega (arith, skip_onward (suc o) c bs))
