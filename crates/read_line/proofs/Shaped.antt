-- The fields after a word: the steps of its shape make the line that the table makes of the fields to come (`shaped_cut`).
-- The steps are rows; a row that is lost is a refused line, and rows that are taken are the fields that the table reads.
use Rattle.std.proofs.Common.{◌≡◌, refl, sym, ap, ◌∙◌, Bool, true, false, cond, ◌&&◌, ℕ, ◌≤◌, arith, ltb, take, drop, Option, Some, None, option_map, option_and_then}
use Rattle.spec_text.specs.Bytes.{Bytes, is_name, largest_span, largest_count}
use Rattle.spec_text.specs.Lines.{Word, Cut, well_formed, parsed}
use Rattle.read_fields.specs.declared.Cursor.{Cursor}
use Rattle.read_fields.specs.declared.Number.{Number}
use Rattle.read_fields.specs.declared.Name.{Name}
use Rattle.read_line.specs.LineModel.{numbers_of as line_of}
use Rattle.read_words.specs.WordsModel.{of_word, sort_in}
use Rattle.read_line.specs.StepsModel.{number_if, name_if, shaped}
use Rattle.read_line.specs.declared.Line.{Line}
use Rattle.read_line.proofs.Cut.{to_come}
use Rattle.read_line.proofs.FieldRows.{Row, row_from, begins, without, Taken, took, lost, row_taken}
use Rattle.read_line.proofs.Due.{Numbers, numbers_if, numbers_at, numbers_row, name_at, name_row_lem, end_line, end_taken}
use Rattle.read_line.proofs.Formed.{spans, names, is_span, is_count, by_rows, formed_rows, of_parts, parsed_rows}

-- the line of a word and the fields to come, by the table
abbrev pub line_in : Word → ℕ → Cut → Option Line
line_in w n l = cond (l.ended && well_formed w l.fields) (Some (line_of (parsed n w l.fields) l.next)) None

-- ---- steps one after the other
then_map : {A B C : Type 0} (f : B → Option C) (g : A → B) (o : Option A) → option_and_then f (option_map g o) ≡ option_and_then (λ a. f (g a)) o
then_map f g None = refl
then_map f g (Some a) = refl

then_each : {A B : Type 0} (f g : A → Option B) (o : Option A) → ((a : A) → f a ≡ g a) → option_and_then f o ≡ option_and_then g o
then_each f g None h = refl
then_each f g (Some a) h = h a

-- two numbers, or three, and then what is left
abbrev three : Option Number → (Number → Option Number) → (Number → Option Number) → Option Numbers
three o f g =
    option_and_then (λ (a : Number).
    option_and_then (λ (b : Number).
    option_map (λ (d : Number). record { first = a.value; second = b.value; third = d.value; next = d.next }) (g b)) (f a)) o

then_two : (o : Option Number) (f : Number → Option Number) (more : Numbers → Option Line)
    → option_and_then (λ (a : Number). option_and_then (λ (b : Number). more (record { first = a.value; second = b.value; third = 0; next = b.next })) (f a)) o
    ≡ option_and_then more (three o f (λ (b : Number). Some (record { value = 0; next = b.next })))
then_two None f more = refl
then_two (Some a) f more = go (f a)
  where
    go : (p : Option Number)
        → option_and_then (λ (b : Number). more (record { first = a.value; second = b.value; third = 0; next = b.next })) p
        ≡ option_and_then more (three (Some a) (λ (a : Number). p) (λ (b : Number). Some (record { value = 0; next = b.next })))
    go None = refl
    go (Some b) = refl

then_three : (o : Option Number) (f g : Number → Option Number) (more : Numbers → Option Line)
    → option_and_then (λ (a : Number). option_and_then (λ (b : Number). option_and_then (λ (d : Number).
    more (record { first = a.value; second = b.value; third = d.value; next = d.next })) (g b)) (f a)) o
    ≡ option_and_then more (three o f g)
then_three None f g more = refl
then_three (Some a) f g more = first (f a)
  where
    at : Number → Number → Numbers
    at b d = record { first = a.value; second = b.value; third = d.value; next = d.next }

    first : (p : Option Number)
        → option_and_then (λ (b : Number). option_and_then (λ (d : Number). more (at b d)) (g b)) p ≡ option_and_then more (three (Some a) (λ (a : Number). p) g)
    first None = refl
    first (Some b) = sym (then_map more (at b) (g b))

-- ---- the line by its rows
abbrev span_row : Word → Bytes → Cursor → Row
span_row w text c = row_from (spans w) is_span text c

abbrev name_row : Word → Bytes → Cursor → Row
name_row w text c = row_from (names w) is_name text c

abbrev count_row : Word → Bytes → Cursor → Row
count_row w text c = row_from w.counts is_count text c

module _ (w : Word) (n : ℕ) (text : Bytes) where
  -- by what its steps found
  abbrev found : Numbers → Name → Numbers → Option Line
  found s x d =
      end_line w.params text d.next
      (λ params next.
      record {
        kind = n;
        sort = sort_in w.form;
        start = s.first;
        end = s.second;
        name = x.part;
        hash = x.hash;
        count0 = d.first;
        count1 = d.second;
        count2 = d.third;
        params = params;
        next = next;
      })

  abbrev counted : Numbers → Name → Option Line
  counted s x =
      option_and_then (λ (a : Number).
      option_and_then (λ (b : Number).
      option_and_then (λ (d : Number).
      found s x (record { first = a.value; second = b.value; third = d.value; next = d.next }))
      (number_if (ltb 2 w.counts) largest_count text b.next))
      (number_if (ltb 1 w.counts) largest_count text a.next))
      (number_if (ltb 0 w.counts) largest_count text x.next)

  abbrev named : Numbers → Option Line
  named s = option_and_then (counted s) (name_if w.named text s.next)

  -- by rows, of which a and b are taken
  abbrev of_counts : Row → Row → Cursor → Option Line
  of_counts a b c =
      let d = count_row w text c in
      option_and_then (λ (e : Cursor). end_line w.params text e (λ params next. of_parts n (sort_in w.form) a.parts b.parts d.parts params next)) d.next

  abbrev of_name : Row → Cursor → Option Line
  of_name a c = let b = name_row w text c in option_and_then (of_counts a b) b.next

  abbrev of_rows : Cursor → Option Line
  of_rows c = let a = span_row w text c in option_and_then (of_name a) a.next

  spans_row : (due : Bool) (c : Cursor)
      → (let r = row_from (cond due 2 0) is_span text c in numbers_if due due false largest_span text c ≡ option_map (numbers_at r.parts) r.next)
  unfolding number_if
  spans_row true c = numbers_row 2 largest_span text c (omega arith)
  spans_row false c = refl

  module _ (few : w.counts ≤ 3) where
    counts_here : (a b : Row) (s : Cursor) (c : Cursor) → counted (numbers_at a.parts s) (name_at b.parts c) ≡ of_counts a b c
    counts_here a b s c =
        let d = count_row w text c in
        let more = found (numbers_at a.parts s) (name_at b.parts c) in
        then_three (number_if (ltb 0 w.counts) largest_count text c) (λ (x : Number). number_if (ltb 1 w.counts) largest_count text x.next)
        (λ (x : Number). number_if (ltb 2 w.counts) largest_count text x.next) more
        ∙ (ap (option_and_then more) (numbers_row w.counts largest_count text c few) ∙ then_map more (numbers_at d.parts) d.next)

    name_here : (a : Row) (c : Cursor) → named (numbers_at a.parts c) ≡ of_name a c
    name_here a c =
        let b = name_row w text c in
        let more = counted (numbers_at a.parts c) in
        ap (option_and_then more) (name_row_lem w.named text c)
        ∙ (then_map more (name_at b.parts) b.next ∙ then_each _ (of_counts a b) b.next (λ e. counts_here a b c e))

    -- the steps are rows
    shaped_rows : (c : Cursor) → shaped (of_word w) (record { kind = n; next = c }) text ≡ of_rows c
    unfolding number_if
    shaped_rows c =
        let a = span_row w text c in
        then_two (number_if w.spanned largest_span text c) (λ (x : Number). number_if w.spanned largest_span text x.next) named
        ∙ (ap (option_and_then named) (spans_row w.spanned c)
        ∙ (then_map named (numbers_at a.parts) a.next ∙ then_each _ (of_name a) a.next (λ d. name_here a d)))

-- ---- the rows are what the table reads
and_here : (e x y : Bool) → (e && x) ≡ false → (e && (x && y)) ≡ false
and_here true x y h = rw h
and_here false x y h = refl

and_later : (e x y : Bool) → x ≡ true → (e && y) ≡ false → (e && (x && y)) ≡ false
and_later e x y h k = rw (h, k)

rows_cut : (w : Word) (n : ℕ) (text : Bytes) (c : Cursor) → of_rows w n text c ≡ line_in w n (to_come text c)
rows_cut w n text c = by_span (row_taken (spans w) is_span text c)
  where
    l : Cut
    l = to_come text c

    a : Row
    a = span_row w text c

    refused : (l.ended && by_rows w l.fields) ≡ false → None ≡ line_in w n l
    refused e = rw (formed_rows w l.fields, e)

    by_counts : (b : Row) (d : Cursor) → begins (spans w) is_span l.fields ≡ true → begins (names w) is_name (drop (spans w) l.fields) ≡ true
        → a.parts ≡ take (spans w) l.fields → b.parts ≡ take (names w) (drop (spans w) l.fields)
        → Taken w.counts is_count text (without (names w) (without (spans w) l)) (count_row w text d) → of_counts w n text a b d ≡ line_in w n l
    by_counts b d p q x y (took e r z k g) =
        rw k
        (end_taken w.params text (λ params next. of_parts n (sort_in w.form) a.parts b.parts (count_row w text d).parts params next) e
        ∙ rw (g, x, y, z, formed_rows w l.fields, p, q, r, parsed_rows n w l.fields l.next))
    by_counts b d p q x y (lost g k) = rw k (refused (and_later l.ended _ _ p (and_later l.ended _ _ q (and_here l.ended _ _ g))))

    by_name : (d : Cursor) → begins (spans w) is_span l.fields ≡ true → a.parts ≡ take (spans w) l.fields
        → Taken (names w) is_name text (without (spans w) l) (name_row w text d) → of_name w n text a d ≡ line_in w n l
    by_name d p x (took e q y k g) = rw k (by_counts (name_row w text d) e p q x y (rw g at (row_taken w.counts is_count text e)))
    by_name d p x (lost g k) = rw k (refused (and_later l.ended _ _ p (and_here l.ended _ _ g)))

    by_span : Taken (spans w) is_span text l a → of_rows w n text c ≡ line_in w n l
    by_span (took d p x k g) = rw k (by_name d p x (rw g at (row_taken (names w) is_name text d)))
    by_span (lost g k) = rw k (refused (and_here l.ended _ _ g))

pub shaped_cut : (w : Word) (n : ℕ) (text : Bytes) (c : Cursor) → w.counts ≤ 3
    → shaped (of_word w) (record { kind = n; next = c }) text ≡ line_in w n (to_come text c)
shaped_cut w n text c few = shaped_rows w n text few c ∙ rows_cut w n text c
