-- The parameters of a line, found again from what its row keeps: where its name starts, or the line if it has none.
-- The fields from any field of a line on are the last fields of that line; a line's parameters are its last fields, by the table of words.
use Rattle.std.proofs.Common.{ℕ, zero, suc, ◌+◌, ◌<◌, arith, ◌≡◌, refl, sym, ap, subst, ◌∙◌, Bool, true, false, cond, List, [], ◌∷◌, eqb, length, get_or, drop, drop-drop}
use Rattle.std.proofs.Math.Option.{Option, none, some}
use Rattle.std.proofs.Math.ListN.{get_elem?}
use Rattle.spec_text.specs.Bytes.{Bytes, Part, no_part, same}
use Rattle.spec_text.specs.Tree.{Line}
use Rattle.spec_text.specs.Lines.{Word, words, Parsed, well_formed, parsed, line_of, parse}
use Rattle.spec_text.proofs.Lists.{next_of}
use Rattle.read_fields.specs.FieldsModel.{end_of, end_byte}
use Rattle.read_row.specs.RowModel.{params_at}
use Rattle.read_row.specs.Worded.{Some}
use Rattle.read_row.proofs.FormWords.{named}
use Rattle.read_row.proofs.Runs.{cut_at, Stands}
use Rattle.read_row.proofs.FieldsLeft.{fields_more}

-- ---- the fields from field k on, where there are fields from an offset on
from_field : (k : ℕ) (more : Bool) (text : Bytes) (at : ℕ) → let fs = cond more (cut_at text at).fields [] in
    k < length fs → (cut_at text (get_or fs k no_part).offset).fields ≡ drop k fs
from_field zero false text at l = absurd (omega arith)
from_field zero true text at l = ap (λ (fs : List Part). (cut_at text (get_or fs 0 no_part).offset).fields) (fields_more text at)
from_field (suc k) false text at l = absurd (omega arith)
from_field (suc k) true text at l =
    subst (λ (fs : List Part). suc k < length fs → (cut_at text (get_or fs (suc k) no_part).offset).fields ≡ drop (suc k) fs) (sym (fields_more text at))
    (λ l. from_field k (eqb (end_byte text at) 9) text (end_of text at + 1) (omega arith)) l

some_inside : (fs : List Part) (i : ℕ) → Some (get_or fs i no_part) → i < length fs
some_inside [] i h = absurd (h refl)
some_inside (f ∷ fs) zero h = omega arith
some_inside (f ∷ fs) (suc i) h = omega (arith, some_inside fs i h)

-- ---- the row of the table that a line is of
record OfRow (fs : List Part) (p : Parsed) : Type 0 where
  word : Word
  row : get_elem? words p.line.word ≡ some word
  is : p ≡ parsed p.line.word word fs

abbrev Found : List Part → Option Parsed → Type 0
Found fs none = Unit
Found fs (some p) = OfRow fs p

found : (fs : List Part) (n : ℕ) (ws : List Word) (x : Bytes) → drop n words ≡ ws → Found fs (line_of n ws x fs)
found fs n [] x e = tt
found fs n (w ∷ ws) x e = go (same x w.spelling) (well_formed w fs) (found fs (suc n) ws x (next_of words n w ws e).1)
  where
    go : (a b : Bool) → Found fs (line_of (suc n) ws x fs)
        → Found fs (elim a [ true ↦ elim b [ true ↦ some (parsed n w fs) | false ↦ none ] | false ↦ line_of (suc n) ws x fs ])
    go true true k = record { word = w; row = (next_of words n w ws e).0; is = refl }
    go true false k = tt
    go false b k = k

-- the fields of a line: its word, and those after it
record Fields (fs : List Part) (p : Parsed) : Type 0 where
  first : Part
  others : List Part
  fields : fs ≡ first ∷ others
  row : OfRow others p

fields_of : (fs : List Part) {p : Parsed} → parse fs ≡ some p → Fields fs p
fields_of [] e = let z : ◌≡◌ {A = ℕ} 0 1 = cc in absurd (omega arith)
fields_of (f ∷ fs) {p} e = record { first = f; others = fs; fields = refl; row = subst (Found fs) e (found fs 0 words f.bytes refl) }

-- ---- words with parameters
pub data ParamWord : ℕ → Type 0 where
  def : ParamWord 5
  method : ParamWord 14
  lambda : ParamWord 28

-- what a row keeps, by its name and where its line starts
abbrev pub kept : ℕ → Part → ℕ
kept at x = elim x.bytes [ [] ↦ at | b ∷ bs ↦ x.offset ]

kept_name : (at : ℕ) (x : Part) → Some x → kept at x ≡ x.offset
kept_name at x h = go x.bytes h
  where
    go : (y : Bytes) → (y ≡ [] → ⊥) → (elim y [ [] ↦ at | b ∷ bs ↦ x.offset ]) ≡ x.offset
    go [] h = absurd (h refl)
    go (b ∷ bs) h = refl

module _ (text : Bytes) (at : ℕ) (f : Part) (fs : List Part) (e : (cut_at text at).fields ≡ f ∷ fs) where
  -- after the name, which is field k of those after the word, stand a count and the parameters
  after_name : (k : ℕ) → Some (get_or fs k no_part) → drop 2 (cut_at text (kept at (get_or fs k no_part))).fields ≡ drop (k + 2) fs
  after_name k h =
      ap (λ (o : ℕ). drop 2 (cut_at text o).fields) (kept_name at (get_or fs k no_part) h)
      ∙ ap (drop 2) (subst (λ (l : List Part). suc k < length l → (cut_at text (get_or l (suc k) no_part).offset).fields ≡ drop (suc k) l) e (from_field (suc k) true text at)
      (omega (arith, some_inside fs k h)))
      ∙ drop-drop 2 k fs

  abbrev Says : ℕ → Word → Type 0
  Says n w = (w.named ≡ true → Some (parsed n w fs).line.name) → params_at text n (kept at (parsed n w fs).line.name) ≡ (parsed n w fs).line.params

  by_word : {n : ℕ} → ParamWord n → (w : Word) → get_elem? words n ≡ some w → Says n w
  by_word def w r = let k : get_or words 5 w ≡ w = cc in subst (Says 5) k (λ h. after_name 2 (h refl))
  by_word method w r = let k : get_or words 14 w ≡ w = cc in subst (Says 14) k (λ h. after_name 0 (h refl))
  by_word lambda w r = let k : get_or words 28 w ≡ w = cc in subst (Says 28) k (λ h. ap (drop 3) e)

pub stands_params : {text : Bytes} {at : ℕ} {l : Line} → Stands text at l → ParamWord l.word → params_at text l.word (kept at l.name) ≡ l.params
stands_params {text} {at} h k = subst (λ (l : Line). ParamWord l.word → params_at text l.word (kept at l.name) ≡ l.params) h.line go k
  where
    p : Parsed
    p = h.parsed

    f : Fields (cut_at text at).fields p
    f = fields_of (cut_at text at).fields h.is

    some_name : f.row.word.named ≡ true → Some (parsed p.line.word f.row.word f.others).line.name
    some_name n =
        let i : h.fits.word ≡ f.row.word = cc (h.fits.fits.row, f.row.row) in
        let m : h.fits.word.named ≡ true = ap (λ (w : Word). w.named) i ∙ n in
        subst (λ (q : Parsed). Some q.line.name) f.row.is (named h.fits m)

    go : ParamWord p.line.word → params_at text p.line.word (kept at p.line.name) ≡ p.line.params
    go k =
        subst (λ (q : Parsed). params_at text p.line.word (kept at q.line.name) ≡ q.line.params) (sym f.row.is)
        (by_word text at f.first f.others f.fields k f.row.word f.row.row some_name)
