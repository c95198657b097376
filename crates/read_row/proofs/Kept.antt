-- What the work buffer keeps of a row leads back to its line: its first number has its kind and the lines below it, its offset is on its
-- line, and its number is its name's.
use Rattle.std.proofs.Common.{ℕ, ◌/◌, ◌%◌, ◌<◌, arith, ◌≡◌, sym, ap, subst, ◌∙◌, List, [], ◌∷◌, map, length, get_or, get_or-take}
use Rattle.std.specs.Prelude.{Some, Option, unwrap_or}
use Rattle.std.proofs.Math.ListN.{length-map, get_or-map}
use Rattle.spec_text.specs.Bytes.{Bytes}
use Rattle.spec_text.specs.Tree.{Line}
use Rattle.read_line.specs.LineModel.{line_at, no_line, cut_line, numbers_of}
use Rattle.read_line.specs.declared.Line.{Line as Numbers}
use Rattle.work_rows.specs.Layout.{kind_at, offset_at, number_at}
use Rattle.read_names.specs.Names.{earliest}
use Rattle.work_rows.specs.Rows.{Row}
use Rattle.read_tree.specs.Laid.{Holds, number_of, name_in, start_of, no_row}
use Rattle.read_tree.proofs.ParsedFacts.{ParsedFacts, parsed_facts}
use Rattle.read_row.specs.RowModel.{line_start, params_of, line_of_row}
use Rattle.read_row.specs.Worded.{Some as HasBytes}
use Rattle.read_row.proofs.OnLine.{On, cut_on}
use Rattle.read_row.proofs.Runs.{cut_at, Stands, Again}
use Rattle.read_row.proofs.Tails.{ParamWord, kept, stands_params}

-- ---- a line by where it stands
stands_facts : {text : Bytes} {at : ℕ} {l : Line} (h : Stands text at l) → ParsedFacts (On text at) h.parsed
stands_facts {text} {at} h = parsed_facts (cut_on text at at h.start) h.is

-- it has one of the 29 words
stands_word : {text : Bytes} {at : ℕ} {l : Line} → Stands text at l → l.word < 29
stands_word h = subst (λ (l : Line). l.word < 29) h.line (stands_facts h).kind

-- what its row keeps is on it
stands_start : {text : Bytes} {at : ℕ} {l : Line} → Stands text at l → line_start text (kept at l.name) ≡ at
stands_start {text} {at} h = subst (λ (l : Line). line_start text (kept at l.name) ≡ at) h.line (go h.parsed.line.name.bytes (stands_facts h).name)
  where
    go : (x : Bytes) → ((x ≡ [] → ⊥) → On text at h.parsed.line.name)
        → line_start text (elim x [ [] ↦ at | b ∷ bs ↦ h.parsed.line.name.offset ]) ≡ at
    go [] f = h.start
    go (b ∷ bs) f = f (λ e. let z : ◌≡◌ {A = ℕ} 0 1 = cc in omega arith)

-- it is read as the numbers that the reader keeps of it
stands_numbers : {text : Bytes} {at : ℕ} {l : Line} (h : Stands text at l) → line_at text at ≡ Some (numbers_of h.parsed (cut_at text at).next)
unfolding line_at
stands_numbers h = rw (h.ended, cut_line) (rw h.is)

-- ---- a line of the text as a row shows it
pub record Shown (text : Bytes) (w : List ℕ) (i : ℕ) (l : Line) : Type 0 where
  pub there : line_at text (line_start text (offset_at w i)) ≡ Some (line_of_row text w i)
  pub kind : (line_of_row text w i).kind ≡ l.word
  pub start : (line_of_row text w i).start ≡ l.start
  pub end : (line_of_row text w i).end ≡ l.end
  pub name : (line_of_row text w i).name.offset ≡ l.name.offset
  pub len : (line_of_row text w i).name.len ≡ length l.name.bytes

-- ---- a row
module _ {text : Bytes} {rows : List Row} {w : List ℕ} (h : Holds text rows w) (i : ℕ) (l : i < length rows) where
  pub first_number : get_or w i 0 ≡ number_of (get_or rows i no_row)
  first_number = sym (get_or-take (length rows) w i 0 l) ∙ (ap (λ (v : List ℕ). get_or v i 0) h.numbers ∙ get_or-map number_of rows i no_row)

  module _ (a : Again text i (get_or rows i no_row).line) where
    pub kind_kept : kind_at w i ≡ (get_or rows i no_row).line.word
    kind_kept = omega (arith, first_number, stands_word a)

    pub below_kept : (get_or rows i no_row).below < 4_096 → get_or w i 0 / 32 % 4_096 ≡ (get_or rows i no_row).below
    below_kept m = omega (arith, first_number, stands_word a)

    pub params_kept : ParamWord (get_or rows i no_row).line.word → params_of text w i ≡ (get_or rows i no_row).line.params
    unfolding params_of
    params_kept k = rw (kind_kept, h.offsets i l) (stands_params a k)

    pub line_kept : Shown text w i (get_or rows i no_row).line
    unfolding line_of_row
    line_kept =
        let s : line_start text (offset_at w i) ≡ start_of text i = ap (line_start text) (h.offsets i l) ∙ stands_start a in
        let o : line_at text (line_start text (offset_at w i)) ≡ Some (numbers_of a.parsed (cut_at text (start_of text i)).next) =
        ap (line_at text) s ∙ stands_numbers a in
        let n : line_of_row text w i ≡ numbers_of a.parsed (cut_at text (start_of text i)).next = ap (λ (o : Option Numbers). unwrap_or o no_line) o in
        let of : (f : Numbers → ℕ) → f (line_of_row text w i) ≡ f (numbers_of a.parsed (cut_at text (start_of text i)).next) = λ f. ap f n in
        record {
          there = o ∙ ap (λ (x : Numbers). Some x) (sym n);
          kind = of (λ x. x.kind) ∙ ap (λ (y : Line). y.word) a.line;
          start = of (λ x. x.start) ∙ ap (λ (y : Line). y.start) a.line;
          end = of (λ x. x.end) ∙ ap (λ (y : Line). y.end) a.line;
          name = of (λ x. x.name.offset) ∙ ap (λ (y : Line). y.name.offset) a.line;
          len = of (λ x. x.name.len) ∙ ap (λ (y : Line). length y.name.bytes) a.line;
        }

  pub number_kept : HasBytes (get_or rows i no_row).line.name → number_at w i ≡ earliest (map name_in rows) (get_or rows i no_row).line.name.bytes
  number_kept some =
      let e : get_or (map name_in rows) i [] ≡ name_in (get_or rows i no_row) = get_or-map name_in rows i no_row in
      let n : i < length (map name_in rows) = omega (arith, length-map rows name_in) in
      h.names.numbers.number i n (λ z. some (sym e ∙ z)) ∙ ap (earliest (map name_in rows)) e
