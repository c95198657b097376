-- The code's tests of a line that is due and the definition's tests give the same refusal or the same line, and what is known of a line that was read.
-- By the tests, one after the other; what is known comes from the fields and from the table of words.
use Rattle.std.proofs.Common.{ℕ, zero, suc, ◌≤◌, ◌<◌, arith, ◌≡◌, refl, ap, sym, ◌∙◌, subst, Bool, true, false, cond, not, ◌&&◌, ◌||◌, List, [], ◌∷◌, None, Some, Result, Ok, Err, eqb, leb, ltb, length, drop, length-drop, leb-true, leb-false, le-leb, le-ltb, lt-ltb}
use Rattle.std.proofs.Math.Dec.{eqb-suc-zero}
use Rattle.std.proofs.Math.Option.{Option, none, some}
use Rattle.std.proofs.lemmas.Bool.{lt-leb}
use Rattle.spec_text.specs.Bytes.{Bytes, part_of}
use Rattle.spec_text.specs.Lines.{Form, Cut, cut, Parsed, parse, count_at, sort_of}
use Rattle.spec_text.specs.Reading.{Rest, Read, got, refused, Due, line, formed, too_deep}
use Rattle.spec_text.specs.Numbers.{refusal_number}
use Rattle.spec_text.specs.SortsModel.{sort_number}
use Rattle.spec_text.specs.declared.refusal.Refusal.TheVariants.{LineMissing, Malformed, NotDue, OverLimit}
use Rattle.spec_text.specs.declared.refusal.Refused.{Refused}
use Rattle.spec_text.specs.Tree.{Line as TextLine}
use Rattle.spec_text.proofs.Lists.{eqb_sym}
use Rattle.spec_text.proofs.LineParts.{cut_in}
use Rattle.read_fields.specs.FieldsModel.{field_at}
use Rattle.read_line.specs.LineModel.{line_at, cut_line, numbers_of}
use Rattle.read_line.specs.declared.Line.{Line}
use Rattle.read_tree.specs.Laid.{skip}
use Rattle.read_agenda.specs.AgendaModel.{line_due, of_sort}
use Rattle.read_words.specs.ChildrenModel.{children_of, children_in, children_by}
use Rattle.read_tree.specs.MachineModel.{refused_for, due_at, rest_at}
use Rattle.read_tree.proofs.CutText.{FieldIn, field_inside, cut_fields, cut_skips, skip_onward}
use Rattle.read_tree.proofs.ParsedFacts.{ParsedFacts, parsed_facts}

-- ---- what is known of a line that was read at an offset of the text
pub record Known (text : Bytes) (at : ℕ) (p : Parsed) (next : ℕ) : Type 0 where
  pub kind : p.line.word < 29
  pub children : children_by p.line.word (count_at 0 p) (count_at 1 p) (count_at 2 p) ≡ children_in p
  pub counts : (i : ℕ) → count_at i p ≤ 4_096
  pub onward : at < next
  pub inside : next ≤ length text
  pub start : skip 1 at (drop at text) ≡ next
  pub offset : (p.line.name.bytes ≡ [] → ⊥) → p.line.name.offset < length text
  pub field : (p.line.name.bytes ≡ [] → ⊥) → field_at text p.line.name.offset ≡ p.line.name.bytes
  pub part : (p.line.name.bytes ≡ [] → ⊥) → part_of text p.line.name.offset (length p.line.name.bytes) ≡ p.line.name.bytes

-- the line that is due is the same for the code's tests and for the definition's
pub data Same (text : Bytes) (at s n d : ℕ) : Type 0 where
  read : (f : Form) (p : Parsed) (next : ℕ) → due_at text at s n d ≡ Ok (numbers_of p next) → n ≤ 4_097
      → line_due s d (rest_at text at n) ≡ got (record { is = f; parsed = p }) (rest_at text next (suc n)) → Known text at p next → Same text at s n d
  refuse : (e : Refused) → due_at text at s n d ≡ Err e → line_due s d (rest_at text at n) ≡ refused (refusal_number e.why) e.line → Same text at s n d

-- ---- the code's tests, in the definition's words
sort_is : (f : Form) (l : TextLine) (counts : List ℕ) (next : ℕ) → sort_number (numbers_of (record { form = f; line = l; counts = counts }) next).sort ≡ sort_of f
sort_is Form.tree l counts next = refl
sort_is Form.global l counts next = refl
sort_is Form.elif l counts next = refl
sort_is Form.method l counts next = refl
sort_is Form.attr l counts next = refl
sort_is (Form.stmt f) l counts next = refl
sort_is (Form.expr f) l counts next = refl

ltb_not : (a b : ℕ) → ltb a b ≡ not (leb b a)
ltb_not a b = go (leb b a) refl
  where
    go : (t : Bool) → leb b a ≡ t → ltb a b ≡ not t
    go true e = le-ltb a b (leb-true b a e)
    go false e = lt-ltb a b (leb-false b a e)

module _ (text : Bytes) (at : ℕ) where
  abbrev c : Cut
  c = cut at (drop at text)

  -- ---- what is known of the line, if there is one
  module _ (b : ℕ) (bs : Bytes) (e : drop at text ≡ b ∷ bs) where
    within : at < length text
    within = omega (arith, length-drop at text, ap length e)

    known : (p : Parsed) → parse c.fields ≡ some p → Known text at p c.next
    unfolding children_by
    known p q =
        let k : ParsedFacts (FieldIn text) p = parsed_facts (cut_fields text at) q in
        let s : skip 1 at (drop at text) ≡ c.next = cut_skips at (drop at text) in
        let far : at < skip 1 at (drop at text) = rw e (skip_onward at b bs) in
        let i = field_inside text p.line.name in
        record {
          kind = k.kind;
          children = ap (λ (f : Form). children_of f (count_at 0 p) (count_at 1 p) (count_at 2 p)) (k.form _);
          counts = k.counts;
          onward = omega arith;
          inside = (cut_in text (drop at text) at refl (omega (arith, within))).next;
          start = s;
          offset = λ h. (i (k.name h) h).0;
          field = k.name;
          part = λ h. (i (k.name h) h).1;
        }

  -- ---- the tests, where a line of sort s is due, with the number n
  module _ (s n : ℕ) where
    abbrev r : Rest
    r = rest_at text at n

    -- what is refused is refused at any depth
    any_depth : {k : ℕ} (d : ℕ) → line (of_sort s) r ≡ refused k n → line_due s d r ≡ refused k n
    any_depth zero e = ap (too_deep n) e
    any_depth (suc d) e = e

    -- 6 and 7, by the outcome of the tests: of sort s; few enough lines; few enough parameters
    abbrev code_by : Bool → Bool → Bool → Line → ℕ → Result Line Refused
    code_by x y z l d = cond (not x) (refused_for NotDue n) (cond (not y || (not z || eqb d 0)) (refused_for OverLimit n) (Ok l))

    abbrev line_by : Bool → Bool → Bool → Parsed → Bytes → ℕ → Read (Due Form)
    line_by x y z p bs next =
        elim (cond x (some p.form) none) [
          | some f ↦ cond (y && z) (got (record { is = f; parsed = p }) (record { bytes = bs; offset = next; number = suc n })) (refused 7 n)
          | none ↦ refused 6 n
        ]

    by_tests : (p : Parsed) (next : ℕ) → Known text at p next → (x y z : Bool) (d : ℕ) → leb n 4_097 ≡ y
        → due_at text at s n d ≡ code_by x y z (numbers_of p next) d → line (of_sort s) r ≡ line_by x y z p (drop next text) next → Same text at s n d
    by_tests p next k false y z d h e f = refuse (record { why = NotDue; line = n }) e (any_depth d f)
    by_tests p next k true false z d h e f = refuse (record { why = OverLimit; line = n }) e (any_depth d f)
    by_tests p next k true true false d h e f = refuse (record { why = OverLimit; line = n }) e (any_depth d f)
    by_tests p next k true true true zero h e f = refuse (record { why = OverLimit; line = n }) e (ap (too_deep n) f)
    by_tests p next k true true true (suc d) h e f = read p.form p next (rw (eqb-suc-zero d) at e) (leb-true n 4_097 h) f k

    -- 5: no line end, or not well formed
    module _ (d b : ℕ) (bs : Bytes) (e : drop at text ≡ b ∷ bs) where
      more : leb (length text) at ≡ false
      more = lt-leb (length text) at (within b bs e)

      formed_line : line (of_sort s) r ≡ formed (of_sort s) n c
      formed_line = rw e

      not_formed : line_at text at ≡ None → formed (of_sort s) n c ≡ refused 5 n → Same text at s n d
      unfolding due_at
      not_formed l f = refuse (record { why = Malformed; line = n }) (rw (more, l)) (any_depth d (formed_line ∙ f))

      by_parse : (t : Bool) (o : Option Parsed) → c.ended ≡ t → parse c.fields ≡ o → Same text at s n d
      unfolding line_at due_at
      by_parse false o h q = not_formed (rw (h, cut_line)) (rw (h, formed))
      by_parse true none h q = not_formed (rw (h, cut_line) (rw q)) (rw (h, formed) (rw q))
      by_parse true (some p) h q =
          let l : line_at text at ≡ Some (numbers_of p c.next) = rw (h, cut_line) (rw q) in
          let rest : drop c.next text ≡ c.rest = (cut_in text (drop at text) at refl (omega (arith, within b bs e))).rest in
          let x : Bool = eqb s (sort_of p.form) in
          let y : Bool = leb n 4_097 in
          let z : Bool = leb (length p.line.params) 16 in
          by_tests p c.next (known b bs e p q) x y z d refl
          (rw (more, l, sort_is p.form p.line p.counts c.next, eqb_sym (sort_of p.form) s, ltb_not 4_097 n, ltb_not 16 (length p.line.params)))
          (subst (λ (bs : Bytes). line (of_sort s) r ≡ line_by x y z p bs c.next) (sym rest) (formed_line ∙ rw (h, formed) (rw q)))

pub same : (text : Bytes) (at s n d : ℕ) → Same text at s n d
unfolding due_at
same text at s n d = go (drop at text) refl
  where
    go : (bs : Bytes) → drop at text ≡ bs → Same text at s n d
    go [] e =
        let l : length text ≤ at = omega (arith, length-drop at text, ap length e) in
        refuse (record { why = LineMissing; line = n }) (rw (le-leb (length text) at l)) (any_depth text at s n d (rw e))
    go (b ∷ bs) e = let c = cut at (drop at text) in by_parse text at s n d b bs e c.ended (parse c.fields) refl refl
