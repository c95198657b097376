-- An offset on a line leads back to where the line starts: each field of a line is on it, and after its LF the next line starts.
-- By induction over the bytes, as `cut` goes: where a byte is no LF, the offset after it is on the same line.
use Rattle.std.proofs.Common.{ℕ, suc, ◌≡◌, refl, sym, subst, Bool, true, false, List, [], ◌∷◌, eqb, drop}
use Rattle.std.proofs.Math.Bool.{false≢true}
use Rattle.spec_text.specs.Bytes.{Bytes, Part}
use Rattle.spec_text.specs.Lines.{cut}
use Rattle.spec_text.proofs.Lists.{All, all_nil, all_cons, next_of, at_next}
use Rattle.read_row.specs.RowModel.{line_start}

-- on the line that starts at s
abbrev pub On : Bytes → ℕ → Part → Type 0
On text s x = line_start text x.offset ≡ s

module _ (text : Bytes) (o b : ℕ) (bs : Bytes) (e : drop o text ≡ b ∷ bs) where
  same_line : eqb b 10 ≡ false → line_start text (suc o) ≡ line_start text o
  unfolding line_start
  same_line d = rw (at_next text o b bs 0 e, d)

  next_line_lem : eqb b 10 ≡ true → line_start text (suc o) ≡ suc o
  unfolding line_start
  next_line_lem d = rw (at_next text o b bs 0 e, d)

-- the fields from an offset on, the first of them at the offset
record Fields (text : Bytes) (s o : ℕ) (fs : List Part) : Type 0 where
  first : Bytes
  others : List Part
  fields : fs ≡ record { offset = o; bytes = first } ∷ others
  on : All (On text s) others

fields_on : (text bs : Bytes) (s o : ℕ) → drop o text ≡ bs → line_start text o ≡ s → Fields text s o (cut o bs).fields
fields_on text [] s o e h = record { first = []; others = []; fields = refl; on = all_nil }
fields_on text (b ∷ bs) s o e h = go (eqb b 10) (eqb b 9) refl refl (fields_on text bs s (suc o) (next_of text o b bs e).1)
  where
    go : (x y : Bool) → eqb b 10 ≡ x → eqb b 9 ≡ y → (line_start text (suc o) ≡ s → Fields text s (suc o) (cut (suc o) bs).fields)
        → Fields text s o (cut o (b ∷ bs)).fields
    go true y d f k = record { first = []; others = []; fields = rw (d, cut); on = all_nil }
    go false true d f k =
        let i : line_start text (suc o) ≡ s = cc (same_line text o b bs e d) in
        record {
          first = [];
          others = record { offset = suc o; bytes = (k i).first } ∷ (k i).others;
          fields = rw (d, f, cut, (k i).fields);
          on = all_cons i (k i).on;
        }
    go false false d f k =
        let i : line_start text (suc o) ≡ s = cc (same_line text o b bs e d) in
        record { first = b ∷ (k i).first; others = (k i).others; fields = rw (d, f, cut, (k i).fields); on = (k i).on }

pub cut_on : (text : Bytes) (s o : ℕ) → line_start text o ≡ s → All (On text s) (cut o (drop o text)).fields
cut_on text s o h = let k = fields_on text (drop o text) s o refl h in subst (All (On text s)) (sym k.fields) (all_cons h k.on)

pub cut_next : (text bs : Bytes) (o : ℕ) → drop o text ≡ bs → (cut o bs).ended ≡ true → line_start text (cut o bs).next ≡ (cut o bs).next
cut_next text [] o e h = absurd (false≢true h)
cut_next text (b ∷ bs) o e h = go (eqb b 10) (eqb b 9) refl refl h (cut_next text bs (suc o) (next_of text o b bs e).1)
  where
    go : (x y : Bool) → eqb b 10 ≡ x → eqb b 9 ≡ y → (cut o (b ∷ bs)).ended ≡ true
        → ((cut (suc o) bs).ended ≡ true → line_start text (cut (suc o) bs).next ≡ (cut (suc o) bs).next)
        → line_start text (cut o (b ∷ bs)).next ≡ (cut o (b ∷ bs)).next
    go true y d f h k = rw (d, cut) (next_line_lem text o b bs e d)
    go false true d f h k = rw (d, f, cut) (k (rw (d, f, cut) at h))
    go false false d f h k = rw (d, f, cut) (k (rw (d, f, cut) at h))
