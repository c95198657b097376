-- What a reader gives: where it does not refuse, what is said of what it read and of what is left. That passes through `and_then`.
-- A reader of one line gives the line that stands where the rest begins; by the tests of `line`, one after the other.
use Rattle.std.proofs.Common.{ℕ, suc, ◌≤◌, arith, ◌≡◌, refl, ap, subst, Bool, true, false, cond, [], ◌∷◌, leb, length, drop, leb-true}
use Rattle.std.proofs.Math.Option.{Option, none, some}
use Rattle.spec_text.specs.Bytes.{Bytes}
use Rattle.spec_text.specs.Tree.{Line}
use Rattle.spec_text.specs.Lines.{Form, Cut, cut, Parsed, parse}
use Rattle.spec_text.specs.Reading.{most_lines, most_params, Rest, Read, got, refused, and_then, Due, within_limits, limited, due_here, formed, too_deep, line}
use Rattle.spec_text.proofs.Lists.{and_split}
use Rattle.spec_text.proofs.LineParts.{cut_in, ParsedFits, Found, cut_found}
use Rattle.read_agenda.proofs.Sorts.{Fits, fits_some, fits_none, Sorts}
use Rattle.read_row.specs.RowModel.{line_start}
use Rattle.read_row.proofs.OnLine.{cut_next}
use Rattle.read_row.proofs.Runs.{cut_at, Stands}

-- ---- what a reader gives
pub data Gives {A : Type 0} (P : A → Rest → Type 0) : Read A → Type 0 where
  gives : {a : A} {r : Rest} → P a r → Gives P (got a r)
  refuses : {k n : ℕ} → Gives P (refused k n)

pub gives_then : {A B : Type 0} {P : A → Rest → Type 0} {Q : B → Rest → Type 0} {x : Read A} {f : A → Rest → Read B}
    → Gives P x → ((a : A) (r : Rest) → P a r → Gives Q (f a r)) → Gives Q (and_then x f)
gives_then (gives {a} {r} p) h = h a r p
gives_then refuses h = refuses

-- a line with no level left is refused
pub too_deep_lem : {A B : Type 0} (made : Form → Option A) {Q : B → Rest → Type 0} (r : Rest) → Gives Q (too_deep r.number (line made r))
too_deep_lem {A} made {Q} r = go (line made r)
  where
    go : (x : Read (Due A)) → Gives Q (too_deep r.number x)
    go (got a left) = refuses
    go (refused k n) = refuses

-- what is left stands in the text, at the start of a line
pub record Here (text : Bytes) (r : Rest) : Type 0 where
  pub is : drop r.offset text ≡ r.bytes
  pub within : r.offset ≤ length text
  pub start : line_start text r.offset ≡ r.offset

-- ---- one line
-- a line of the form f stands at an offset, and what is left follows it
pub record One (text : Bytes) (f : Form) (at : ℕ) (p : Parsed) (left : Rest) : Type 0 where
  pub here : Here text left
  start : line_start text at ≡ at
  ended : (cut_at text at).ended ≡ true
  pub is : parse (cut_at text at).fields ≡ some p
  pub next : (cut_at text at).next ≡ left.offset
  pub fits : ParsedFits text p
  pub form : p.form ≡ f

pub one_stands : {text : Bytes} {f : Form} {at : ℕ} {p : Parsed} {left : Rest} {l : Line} → One text f at p left → p.line ≡ l → Stands text at l
one_stands {p} h e = record { parsed = p; start = h.start; ended = h.ended; is = h.is; fits = h.fits; line = e }

-- a reader takes lines of one form for what it makes of them
form_of : {A : Type 0} {back : A → Form} {f : Form} {o : Option A} {q : Option Form} {a : A} → Fits back f o q → o ≡ some a → f ≡ back a
form_of {back} (fits_some b) e = ap back (cc)
form_of fits_none e = let z : ◌≡◌ {A = ℕ} 0 1 = cc in absurd (omega arith)

-- the tests of `line`, over their outcome: within the limits, due here, well-formed
abbrev limited_if : {A : Type 0} → ℕ → Cut → Parsed → A → Bool → Read (Due A)
limited_if n c p a b = cond b (got (record { is = a; parsed = p }) (record { bytes = c.rest; offset = c.next; number = suc n })) (refused 7 n)

abbrev due_if : {A : Type 0} → ℕ → Cut → Parsed → Option A → Read (Due A)
due_if n c p o = elim o [ some a ↦ limited n c p a | none ↦ refused 6 n ]

abbrev formed_if : {A : Type 0} → (Form → Option A) → ℕ → Cut → Bool → Option Parsed → Read (Due A)
formed_if due n c e q = elim e [ true ↦ elim q [ some p ↦ due_here due n c p | none ↦ refused 5 n ] | false ↦ refused 5 n ]

module _ (text : Bytes) {A : Type 0} {back : A → Form} {made : Form → Option A} (s : ℕ) (sorts : Sorts back made s) (r : Rest) (h : Here text r) where
  abbrev Of : Due A → Rest → Type 0
  Of d left = One text (back d.is) r.offset d.parsed left

  abbrev c : Cut
  c = cut_at text r.offset

  due_gives : (p : Parsed) → c.ended ≡ true → parse c.fields ≡ some p → (o : Option A) → made p.form ≡ o → Gives Of (due_if r.number c p o)
  due_gives p e q none d = refuses
  due_gives p e q (some a) d = go (within_limits r.number p) refl
    where
      go : (b : Bool) → within_limits r.number p ≡ b → Gives Of (limited_if r.number c p a b)
      go true l =
          let k = cut_in text (drop r.offset text) r.offset refl h.within in
          let found : Found text (some p) = subst (Found text) q (cut_found text r.offset c k) in
          gives (record {
            here = record { is = k.rest; within = k.next; start = cut_next text (drop r.offset text) r.offset refl e };
            start = h.start;
            ended = e;
            is = q;
            next = refl;
            fits = found (leb-true _ most_params (and_split (leb r.number (suc most_lines)) _ l).1);
            form = form_of (sorts p.form) d;
          })
      go false l = refuses

  formed_gives : (e : Bool) (q : Option Parsed) → c.ended ≡ e → parse c.fields ≡ q → Gives Of (formed_if made r.number c e q)
  formed_gives true none e q = refuses
  formed_gives true (some p) e q = due_gives p e q (made p.form) refl
  formed_gives false o e q = refuses

  pub line_gives : Gives Of (line made r)
  line_gives = go r.bytes h.is
    where
      go : (bs : Bytes) → drop r.offset text ≡ bs → Gives Of (line made (record { bytes = bs; offset = r.offset; number = r.number }))
      go [] e = refuses
      go (b ∷ bs) e =
          subst (λ (x : Bytes). Gives Of (formed made r.number (cut r.offset x))) e (formed_gives c.ended (parse c.fields) refl refl)

  -- a line and what is read after it
  pub line_then : {B : Type 0} {Q : B → Rest → Type 0} (f : Due A → Rest → Read B)
      → ((i : A) (p : Parsed) (left : Rest) → One text (back i) r.offset p left → Gives Q (f (record { is = i; parsed = p }) left))
      → Gives Q (and_then (line made r) f)
  line_then f k = gives_then line_gives (λ d. k d.is d.parsed)
