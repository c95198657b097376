-- One line: where a reader reads a line for what it makes of its form, a turn reads it for its sort. Both are refused alike, or get the same line.
-- By the tests of `line`, one after the other; what a `global` line holds is found in the table of words.
use Rattle.std.proofs.Common.{ℕ, suc, ◌+◌, arith, ◌≡◌, refl, ap, subst, Bool, true, false, cond, not, ◌&&◌, List, [], ◌∷◌, ◌++◌, eqb, length, drop, drop_of_length-le, eqb-true}
use Rattle.std.proofs.Math.Option.{Option, none, some}
use Rattle.std.proofs.lemmas.Bool.{false≢true}
use Rattle.spec_text.specs.Bytes.{Bytes, Part, same}
use Rattle.spec_text.specs.Tree.{Line}
use Rattle.spec_text.specs.Lines.{Form, Word, words, Cut, cut, Parsed, well_formed, parsed, line_of, parse, sort_of}
use Rattle.spec_text.specs.Reading.{Rest, Read, got, refused, and_then, Due, within_limits, limited, due_here, line, too_deep}
use Rattle.spec_text.proofs.Lists.{and_split}
use Rattle.work_rows.specs.Rows.{Row, row}
use Rattle.read_agenda.specs.AgendaModel.{Entry, run, close, due, due_below, State, Phase, of_sort, line_opened, here, step, stop}
use Rattle.read_words.specs.ChildrenModel.{children_in}
use Rattle.read_agenda.proofs.Sorts.{Fits, fits_some, fits_none, Sorts}
use Rattle.read_agenda.proofs.Via.{at, Goes, goes_from, goes_out, Refuses, refuses}

-- ---- what the table says of a `global` line
abbrev global_line : Part → Line
global_line x = record { word = 1; start = 0; end = 0; name = x; params = [] }

abbrev Tabled : Parsed → Type 0
Tabled p = eqb 1 (sort_of p.form) ≡ true → p.line ≡ global_line p.line.name

abbrev Found : Option Parsed → Type 0
Found none = Unit
Found (some p) = Tabled p

-- a row of the table: if it is of a `global` line it is row 1, with no span and no parameters
abbrev bare : ℕ → Word → Bool
bare n w = cond (eqb 1 (sort_of w.form)) (eqb n 1 && (not w.spanned && not w.params)) true

abbrev bare_from : ℕ → List Word → Bool
bare_from n [] = true
bare_from n (w ∷ ws) = bare n w && bare_from (suc n) ws

module _ (n : ℕ) (x : Bytes) (named : Bool) (counts : ℕ) (form : Form) (fs : List Part) where
  abbrev word : Bool → Bool → Word
  word spanned params = record { spelling = x; spanned = spanned; named = named; counts = counts; params = params; form = form }

  bare_line : (spanned params : Bool) → (eqb n 1 && (not spanned && not params)) ≡ true → well_formed (word spanned params) fs ≡ true
      → (parsed n (word spanned params) fs).line ≡ global_line (parsed n (word spanned params) fs).line.name
  bare_line true params b e = absurd (false≢true (and_split (eqb n 1) _ b).1)
  bare_line false true b e = absurd (false≢true (and_split (eqb n 1) _ b).1)
  bare_line false false b e =
      let first : n ≡ 1 = eqb-true n 1 (and_split (eqb n 1) _ b).0 in
      let k : ℕ = 0 + cond named 1 0 + counts in
      let none : drop k fs ≡ [] = drop_of_length-le fs {i = k} (omega (arith, eqb-true k (length fs) (and_split (eqb k (length fs)) _ e).0)) in
      rw (first, none)

tabled : (n : ℕ) (w : Word) (fs : List Part) → bare n w ≡ true → well_formed w fs ≡ true → Tabled (parsed n w fs)
tabled n w fs b e g =
    let first : (eqb n 1 && (not w.spanned && not w.params)) ≡ true = subst (λ (t : Bool). cond t (eqb n 1 && (not w.spanned && not w.params)) true ≡ true) g b in
    bare_line n w.spelling w.named w.counts w.form fs w.spanned w.params first e

found : (fs : List Part) (n : ℕ) (ws : List Word) (x : Bytes) → bare_from n ws ≡ true → Found (line_of n ws x fs)
found fs n [] x e = tt
found fs n (w ∷ ws) x e =
    let s : (bare n w ≡ true) × (bare_from (suc n) ws ≡ true) = and_split (bare n w) (bare_from (suc n) ws) e in
    go (same x w.spelling) (well_formed w fs) refl s.0 (found fs (suc n) ws x s.1)
  where
    go : (a b : Bool) → well_formed w fs ≡ b → bare n w ≡ true → Found (line_of (suc n) ws x fs)
        → Found (elim a [ true ↦ elim b [ true ↦ some (parsed n w fs) | false ↦ none ] | false ↦ line_of (suc n) ws x fs ])
    go true true d h k = tabled n w fs h d
    go true false d h k = tt
    go false b d h k = k

parse_found : (fs : List Part) → Found (parse fs)
parse_found [] = tt
parse_found (f ∷ fs) = found fs 0 words f.bytes refl

pub global_line_lem : (fs : List Part) {p : Parsed} → parse fs ≡ some p → p.form ≡ Form.global → p.line ≡ global_line p.line.name
global_line_lem fs {p} e f = let t : Tabled p = subst Found e (parse_found fs) in t (ap (λ (g : Form). eqb 1 (sort_of g)) f)

-- ---- the same line, read for its form and for its sort
abbrev pub parsed_as : Form → Line → List ℕ → Parsed
parsed_as f l counts = record { form = f; line = l; counts = counts }

abbrev due_as : {A : Type 0} → A → Parsed → Due A
due_as a p = record { is = a; parsed = p }

-- `back a`: the form from which a was made
data Alike {A : Type 0} (back : A → Form) : Read (Due A) → Read (Due Form) → Type 0 where
  alike_got : (a : A) (l : Line) (counts : List ℕ) (r : Rest) → Tabled (parsed_as (back a) l counts)
      → Alike back (got (due_as a (parsed_as (back a) l counts)) r) (got (due_as (back a) (parsed_as (back a) l counts)) r)
  alike_refused : (k n : ℕ) → Alike back (refused k n) (refused k n)

-- the tests of `line`, over their outcome: within the limits, due here, well-formed
abbrev limited_if : {B : Type 0} → ℕ → Cut → Due B → Bool → Read (Due B)
limited_if n c d b = cond b (got d (record { bytes = c.rest; offset = c.next; number = suc n })) (refused 7 n)

abbrev due_if : {B : Type 0} → ℕ → Cut → Parsed → Option B → Read (Due B)
due_if n c p o = elim o [ some a ↦ limited n c p a | none ↦ refused 6 n ]

abbrev formed_if : {B : Type 0} → (Form → Option B) → ℕ → Cut → Bool → Option Parsed → Read (Due B)
formed_if d n c e q = elim e [ true ↦ elim q [ some p ↦ due_here d n c p | none ↦ refused 5 n ] | false ↦ refused 5 n ]

module _ {A : Type 0} {back : A → Form} {made : Form → Option A} (s : ℕ) (sorts : Sorts back made s) where
  limited_alike : (n : ℕ) (c : Cut) (a : A) (l : Line) (counts : List ℕ) (b : Bool) → Tabled (parsed_as (back a) l counts)
      → Alike back (limited_if n c (due_as a (parsed_as (back a) l counts)) b) (limited_if n c (due_as (back a) (parsed_as (back a) l counts)) b)
  limited_alike n c a l counts true t = alike_got a l counts (record { bytes = c.rest; offset = c.next; number = suc n }) t
  limited_alike n c a l counts false t = alike_refused 7 n

  due_alike : (n : ℕ) (c : Cut) (f : Form) (l : Line) (counts : List ℕ) {o : Option A} {q : Option Form} → Fits back f o q → Tabled (parsed_as f l counts)
      → Alike back (due_if n c (parsed_as f l counts) o) (due_if n c (parsed_as f l counts) q)
  due_alike n c f l counts (fits_some a) t = limited_alike n c a l counts (within_limits n (parsed_as (back a) l counts)) t
  due_alike n c f l counts fits_none t = alike_refused 6 n

  formed_alike : (n : ℕ) (c : Cut) (e : Bool) (q : Option Parsed) → Found q → Alike back (formed_if made n c e q) (formed_if (of_sort s) n c e q)
  formed_alike n c true none t = alike_refused 5 n
  formed_alike n c true (some p) t = due_alike n c p.form p.line p.counts (sorts p.form) t
  formed_alike n c false q t = alike_refused 5 n

  line_alike : (r : Rest) → Alike back (line made r) (line (of_sort s) r)
  line_alike r = go r.bytes
    where
      from : Bytes → Rest
      from bs = record { bytes = bs; offset = r.offset; number = r.number }

      go : (bs : Bytes) → Alike back (line made (from bs)) (line (of_sort s) (from bs))
      go [] = alike_refused 3 r.number
      go (b ∷ bs) = let c = cut r.offset (b ∷ bs) in formed_alike r.number c c.ended (parse c.fields) (parse_found c.fields)

  -- ---- a turn that takes a line; n more are due beside it
  module _ (n : ℕ) (more : List Entry) (rows : List Row) (r : Rest) where
    -- a line was read: its row is written, and what is due below it is on the agenda
    abbrev Opens : ℕ → {B : Type 0} → (B → Rest → State) → (Due A → Rest → Read B) → Type 0
    Opens d Q f =
        (a : A) (l : Line) (counts : List ℕ) (left : Rest) → Tabled (parsed_as (back a) l counts)
        → Goes (at (due_below (children_in (parsed_as (back a) l counts)) d (close (length rows) ∷ due s n (suc d) more)) left (rows ++ (row l 0 ∷ []))) Q
        (f (due_as a (parsed_as (back a) l counts)) left)

    opens : (d : ℕ) {B : Type 0} {Q : B → Rest → State} (f : Due A → Rest → Read B) → Opens d Q f
        → {x : Read (Due A)} {y : Read (Due Form)} → Alike back x y → line (of_sort s) r ≡ y → Goes (at (run s (suc n) (suc d) ∷ more) r rows) Q (and_then x f)
    opens d f h (alike_got a l counts left t) e =
        goes_from (step (ap (λ (y : Read (Due Form)). line_opened y d (due s n (suc d) more) rows) e) here) (h a l counts left t)
    opens d f h (alike_refused k m) e = goes_out (stop (ap (λ (y : Read (Due Form)). line_opened y d (due s n (suc d) more) rows) e))

    pub line_then : (d : ℕ) {B : Type 0} {Q : B → Rest → State} (f : Due A → Rest → Read B) → Opens d Q f
        → Goes (at (run s (suc n) (suc d) ∷ more) r rows) Q (and_then (line made r) f)
    line_then d f h = opens d f h (line_alike r) refl

    -- with no level left no line is read
    abbrev deep : Read (Due Form) → Phase
    deep y = line_opened (too_deep r.number y) 0 (due s n 0 more) rows

    stops : {B : Type 0} {x : Read (Due A)} {y : Read (Due Form)} → Alike back x y → line (of_sort s) r ≡ y
        → Refuses (at (run s (suc n) 0 ∷ more) r rows) (too_deep {B = B} r.number x)
    stops (alike_got a l counts left t) e = refuses (stop (ap deep e))
    stops (alike_refused k m) e = refuses (stop (ap deep e))

    pub too_deep_lem : {B : Type 0} → Refuses (at (run s (suc n) 0 ∷ more) r rows) (too_deep {B = B} r.number (line made r))
    too_deep_lem = stops (line_alike r) refl
