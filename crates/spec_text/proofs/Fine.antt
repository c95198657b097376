-- What is said of a reader: what it returns is `Fine`. What it read fits, or its refusal is one of 3 to 7, with a line number within the limits.
-- That passes through `and_then`, and here it is shown of the reader of one line, test by test.
use Rattle.std.proofs.Common.{ℕ, suc, ◌≤◌, arith, le_refl, ◌≡◌, refl, Bool, true, false, cond, [], ◌∷◌, leb, length, drop, leb-true}
use Rattle.std.proofs.Math.Option.{Option, none, some}
use Rattle.spec_text.specs.Bytes.{Bytes}
use Rattle.spec_text.specs.Lines.{Form, Cut, cut, Parsed, parse}
use Rattle.spec_text.specs.Reading.{most_lines, most_params, Rest, Read, got, refused, and_then, Due, within_limits, limited, due_here, too_deep, line}
use Rattle.spec_text.proofs.Lists.{and_split}
use Rattle.spec_text.proofs.LineParts.{CutIn, cut_in, ParsedFits, Found, cut_found}

-- ---- what a reader returns
pub record IsLineNumber (n : ℕ) : Type 0 where
  pub first : 1 ≤ n
  pub last : n ≤ suc (suc most_lines)

pub data Fine {A : Type 0} (P : A → Rest → Type 0) : Read A → Type 0 where
  fine_got : {a : A} {r : Rest} → P a r → Fine P (got a r)
  fine_refused : (k : ℕ) {n : ℕ} → (3 ≤ k) × (k ≤ 7) → IsLineNumber n → Fine P (refused k n)

pub fine_then : {A B : Type 0} {P : A → Rest → Type 0} {Q : B → Rest → Type 0} {x : Read A} {f : A → Rest → Read B}
    → Fine P x → ((a : A) (r : Rest) → P a r → Fine Q (f a r)) → Fine Q (and_then x f)
fine_then (fine_got {a} {r} p) k = k a r p
fine_then (fine_refused k h i) f = fine_refused k h i

fine_deep : {A B : Type 0} {P : A → Rest → Type 0} {Q : B → Rest → Type 0} {x : Read A} (n : ℕ) → IsLineNumber n → Fine P x → Fine Q (too_deep n x)
fine_deep n h (fine_got p) = fine_refused 7 (omega arith) h
fine_deep n h (fine_refused k i j) = fine_refused k i j

-- what is left stands in the text, and its line has a number
pub record Good (text : Bytes) (r : Rest) : Type 0 where
  pub here : drop r.offset text ≡ r.bytes
  pub within : r.offset ≤ length text
  pub number : IsLineNumber r.number

-- a line that was due was read, with n levels left, and m below it
pub record Headed (text : Bytes) {A : Type 0} (due : Form → Option A) (m n : ℕ) (r : Rest) (d : Due A) (left : Rest) : Type 0 where
  pub good : Good text left
  pub number : left.number ≡ suc r.number
  pub level : suc m ≤ n
  pub fits : ParsedFits text d.parsed
  pub is_due : due d.parsed.form ≡ some d.is

-- ---- one line
-- the tests of the definitions, over their outcome: within the limits, due here
abbrev limited_if : {A : Type 0} → ℕ → Cut → Parsed → A → Bool → Read (Due A)
limited_if n c p a b = cond b (got (record { is = a; parsed = p }) (record { bytes = c.rest; offset = c.next; number = suc n })) (refused 7 n)

abbrev due_if : {A : Type 0} → ℕ → Cut → Parsed → Option A → Read (Due A)
due_if n c p o = elim o [ some a ↦ limited n c p a | none ↦ refused 6 n ]

module _ (text : Bytes) {A : Type 0} (due : Form → Option A) (m : ℕ) (r : Rest) (good : Good text r) where
  due_fine : (c : Cut) → CutIn text r.offset c → (p : Parsed) → Found text (some p) → (o : Option A) → due p.form ≡ o
      → Fine (Headed text due m (suc m) r) (due_if r.number c p o)
  due_fine c k p f none d = fine_refused 6 (omega arith) good.number
  due_fine c k p f (some a) d = go (within_limits r.number p) refl
    where
      go : (b : Bool) → within_limits r.number p ≡ b → Fine (Headed text due m (suc m) r) (limited_if r.number c p a b)
      go true e =
          let s = and_split (leb r.number (suc most_lines)) _ e in
          let i : IsLineNumber (suc r.number) = omega (arith, leb-true r.number (suc most_lines) s.0) in
          fine_got (record {
            good = record { here = k.rest; within = k.next; number = i };
            number = refl;
            level = le_refl (suc m);
            fits = f (leb-true _ most_params s.1);
            is_due = d;
          })
      go false e = fine_refused 7 (omega arith) good.number

  formed_fine : (c : Cut) → CutIn text r.offset c → (e : Bool) (q : Option Parsed) → Found text q
      → Fine (Headed text due m (suc m) r) (elim e [ true ↦ elim q [ some p ↦ due_here due r.number c p | none ↦ refused 5 r.number ] | false ↦ refused 5 r.number ])
  formed_fine c k true none f = fine_refused 5 (omega arith) good.number
  formed_fine c k true (some p) f = due_fine c k p f (due p.form) refl
  formed_fine c k false q f = fine_refused 5 (omega arith) good.number

  pub line_fine : Fine (Headed text due m (suc m) r) (line due r)
  line_fine = go r.bytes (cut_in text r.bytes r.offset good.here good.within)
    where
      go : (bs : Bytes) → CutIn text r.offset (cut r.offset bs) → Fine (Headed text due m (suc m) r) (line due (record { bytes = bs; offset = r.offset; number = r.number }))
      go [] k = fine_refused 3 (omega arith) good.number
      go (b ∷ bs) k = let c = cut r.offset (b ∷ bs) in formed_fine c k c.ended (parse c.fields) (cut_found text r.offset c k)

  -- a line and what is read after it
  pub line_then : {B : Type 0} {Q : B → Rest → Type 0} (f : Due A → Rest → Read B)
      → ((i : A) (p : Parsed) (left : Rest) → Headed text due m (suc m) r (record { is = i; parsed = p }) left → Fine Q (f (record { is = i; parsed = p }) left))
      → Fine Q (and_then (line due r) f)
  line_then f h = fine_then line_fine (λ d. h d.is d.parsed)

-- a line with no level left
pub too_deep_lem : (text : Bytes) {A B : Type 0} (due : Form → Option A) {Q : B → Rest → Type 0} (r : Rest) → Good text r → Fine Q (too_deep r.number (line due r))
too_deep_lem text due r good = fine_deep r.number good.number (line_fine text due 0 r good)
