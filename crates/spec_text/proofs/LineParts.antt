-- What a line that was read holds: numbers within their limits, and names that are parts of the text.
-- Each field that `cut` cuts is a part of the text, by induction over the bytes; a word's fields are among them, by the tests of `well_formed`.
use Rattle.std.proofs.Common.{ℕ, suc, ◌+◌, ◌<◌, ◌≤◌, arith, ◌≡◌, refl, ap, Bool, true, false, cond, not, List, [], ◌∷◌, eqb, leb, ltb, length, take, drop, get_or, length-take, length-drop, get_or-take, get_or-drop, add-zero, leb-true, eqb-true}
use Rattle.std.proofs.Math.Option.{Option, none, some}
use Rattle.std.proofs.Math.ListN.{get_elem?}
use Rattle.spec_text.specs.Bytes.{Bytes, Part, no_part, all, is_name, is_number, is_digit, leading_zero, value_of, largest_span, largest_count, same}
use Rattle.spec_text.specs.Tree.{Line}
use Rattle.spec_text.specs.Lines.{Word, words, Cut, cut, Parsed, Form, well_formed, parsed, line_of, parse, sort_of, as_sort}
use Rattle.spec_text.specs.Reading.{most_params}
use Rattle.spec_text.proofs.Lists.{and_split, All, all_nil, all_cons, all_at, all_drop, all_and, test_at, test_of, next_of}

-- ---- parts of the text
pub record IsPart (text : Bytes) (x : Part) : Type 0 where
  pub here : take (length x.bytes) (drop x.offset text) ≡ x.bytes
  pub within : x.offset + length x.bytes ≤ length text

abbrev pub IsNameOf : Bytes → Part → Type 0
IsNameOf text x = IsPart text x × (is_name x.bytes ≡ true)

-- what stands up to the first LF, from an offset on: the first field, the others, and what is left are parts of the text
pub record CutIn (text : Bytes) (o : ℕ) (c : Cut) : Type 0 where
  first : Bytes
  others : List Part
  fields : c.fields ≡ record { offset = o; bytes = first } ∷ others
  part : IsPart text (record { offset = o; bytes = first })
  parts : All (IsPart text) others
  pub rest : drop c.next text ≡ c.rest
  pub next : c.next ≤ length text

empty_part : (text : Bytes) (o : ℕ) → o ≤ length text → IsPart text (record { offset = o; bytes = [] })
empty_part text o h = record { here = refl; within = omega arith }

pub cut_in : (text bs : Bytes) (o : ℕ) → drop o text ≡ bs → o ≤ length text → CutIn text o (cut o bs)
cut_in text [] o e h = record { first = []; others = []; fields = refl; part = empty_part text o h; parts = all_nil; rest = e; next = h }
cut_in text (b ∷ bs) o e h = go (eqb b 10) (eqb b 9) refl refl (cut_in text bs (suc o) n.1 n.2)
  where
    n : (get_elem? text o ≡ some b) × (drop (suc o) text ≡ bs) × (suc o ≤ length text)
    n = next_of text o b bs e

    go : (x y : Bool) → eqb b 10 ≡ x → eqb b 9 ≡ y → CutIn text (suc o) (cut (suc o) bs) → CutIn text o (cut o (b ∷ bs))
    go true y d f k =
        record { first = []; others = []; fields = rw (d, cut); part = empty_part text o h; parts = all_nil; rest = rw (d, cut) n.1; next = rw (d, cut) n.2 }
    go false true d f k =
        record {
          first = [];
          others = record { offset = suc o; bytes = k.first } ∷ k.others;
          fields = rw (d, f, cut, k.fields);
          part = empty_part text o h;
          parts = all_cons k.part k.parts;
          rest = rw (d, f, cut) k.rest;
          next = rw (d, f, cut) k.next;
        }
    go false false d f k =
        record {
          first = b ∷ k.first;
          others = k.others;
          fields = rw (d, f, cut, k.fields);
          part = record { here = rw e (ap (λ l. b ∷ l) (rw n.1 at k.part.here)); within = omega arith };
          parts = k.parts;
          rest = rw (d, f, cut) k.rest;
          next = rw (d, f, cut) k.next;
        }

-- ---- a line
-- the name of a line whose word has one, or has none
abbrev pub NameFits : Bytes → Bool → Part → Type 0
NameFits text true x = IsNameOf text x
NameFits text false x = x ≡ no_part

-- a line of the tree, by the row of its word
pub record LineFits (text : Bytes) (w : Word) (l : Line) : Type 0 where
  pub row : get_elem? words l.word ≡ some w
  pub start : l.start ≤ largest_span
  pub end : l.end ≤ largest_span
  pub name : NameFits text w.named l.name
  pub params : All (IsNameOf text) l.params
  pub few : length l.params ≤ most_params

abbrev pub LineIn : Bytes → Line → Type 0
LineIn text l = (w : Word) × LineFits text w l

-- a line as it is read: it fits the row that its form is of
pub record ParsedFits (text : Bytes) (p : Parsed) : Type 0 where
  pub word : Word
  pub form : word.form ≡ p.form
  pub fits : LineFits text word p.line

-- a line that is found in the table fits, if it has not too many parameters
abbrev pub Found : Bytes → Option Parsed → Type 0
Found text none = Unit
Found text (some p) = length p.line.params ≤ most_params → ParsedFits text p

pub number_small : (largest : ℕ) (bs : Bytes) → is_number largest bs ≡ true → value_of bs ≤ largest
number_small largest bs e =
    leb-true _ _ (and_split (not (leading_zero bs)) _ (and_split (all is_digit bs) _ (and_split (ltb 0 (length bs)) _ e).1).1).1

abbrev is_span : Part → Bool
is_span f = is_number largest_span f.bytes

abbrev is_name_part : Part → Bool
is_name_part f = is_name f.bytes

span_fits : (b : Bool) (fs : List Part) (i : ℕ) → i < 2 → cond b 2 0 ≤ length fs → all is_span (take (cond b 2 0) fs) ≡ true
    → cond b (value_of (get_or fs i no_part).bytes) 0 ≤ largest_span
span_fits true fs i h k e = number_small largest_span (get_or fs i no_part).bytes (rw get_or-take at (test_at is_span (take 2 fs) i no_part e (simp length-take (omega arith))))
span_fits false fs i h k e = omega arith

enough : (b : Bool) (m n : ℕ) → cond b (leb m n) (eqb m n) ≡ true → m ≤ n
enough true m n e = leb-true m n e
enough false m n e = omega (arith, eqb-true m n e)

module _ (text : Bytes) (fs : List Part) (parts : All (IsPart text) fs) where
  name_fits : (b : Bool) (i : ℕ) → i + cond b 1 0 ≤ length fs → all is_name_part (take (cond b 1 0) (drop i fs)) ≡ true → NameFits text b (cond b (get_or fs i no_part) no_part)
  name_fits true i h e =
      let z : 0 < 1 = omega arith in
      let l : 0 < length (take 1 (drop i fs)) = simp (length-take, length-drop) (omega arith) in
      (all_at parts i no_part (omega arith), rw (get_or-take, get_or-drop, add-zero) at (test_at is_name_part (take 1 (drop i fs)) 0 no_part e l))
  name_fits false i h e = refl

  line_fits : (n : ℕ) (w : Word) → get_elem? words n ≡ some w → well_formed w fs ≡ true → length (parsed n w fs).line.params ≤ most_params → LineFits text w (parsed n w fs).line
  line_fits n w r e h =
      let s : ℕ = cond w.spanned 2 0 in
      let m : ℕ = cond w.named 1 0 in
      let t : ℕ = s + m + w.counts in
      let a = and_split (cond w.params (leb t (length fs)) (eqb t (length fs))) _ e in
      let b = and_split (all is_span (take s fs)) _ a.1 in
      let c = and_split (all is_name_part (take m (drop s fs))) _ b.1 in
      let d = and_split (all (λ (f : Part). is_number largest_count f.bytes) (take w.counts (drop (s + m) fs))) _ c.1 in
      let k = enough w.params t (length fs) a.0 in
      record {
        row = r;
        start = span_fits w.spanned fs 0 (omega arith) (omega arith) b.0;
        end = span_fits w.spanned fs 1 (omega arith) (omega arith) b.0;
        name = name_fits w.named s (omega arith) c.0;
        params = all_and is_name_part (all_drop parts t) d.1;
        few = h;
      }

  found : (n : ℕ) (ws : List Word) (x : Bytes) → drop n words ≡ ws → Found text (line_of n ws x fs)
  found n [] x e = tt
  found n (w ∷ ws) x e = go (same x w.spelling) (well_formed w fs) refl (found (suc n) ws x k.1)
    where
      k : (get_elem? words n ≡ some w) × (drop (suc n) words ≡ ws) × (n < length words)
      k = next_of words n w ws e

      go : (a b : Bool) → well_formed w fs ≡ b → Found text (line_of (suc n) ws x fs)
          → Found text (elim a [ true ↦ elim b [ true ↦ some (parsed n w fs) | false ↦ none ] | false ↦ line_of (suc n) ws x fs ])
      go true true d f = λ h. record { word = w; form = refl; fits = line_fits n w k.0 d h }
      go true false d f = tt
      go false b d f = f

pub cut_found : (text : Bytes) (o : ℕ) (c : Cut) → CutIn text o c → Found text (parse c.fields)
cut_found text o c k = rw k.fields (found text k.others k.parts 0 words k.first refl)

-- the name of a `global` line: its row has a name
pub global_name : (text : Bytes) (p : Parsed) (f : Form) → ParsedFits text p → as_sort Form.global p.form ≡ some f → IsNameOf text p.line.name
global_name text p f k e = go (eqb 1 (sort_of p.form)) refl
  where
    named : Word → Bool
    named w = cond (eqb 1 (sort_of w.form)) w.named true

    row : named k.word ≡ true
    row = test_of named words p.line.word k.word refl k.fits.row

    go : (b : Bool) → eqb 1 (sort_of p.form) ≡ b → IsNameOf text p.line.name
    go true d = let n : k.word.named ≡ true = rw (k.form, d) at row in rw n at k.fits.name
    go false d = absurd (cc (rw d at e))
