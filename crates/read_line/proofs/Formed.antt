-- A word's line by rows of fields: its fields are right where they begin with its span, then its name, its counts, and what is left are
-- its parameters (`formed_rows`); what the table reads of them stands in those rows (`parsed_rows`).
use Rattle.std.proofs.Common.{◌≡◌, refl, sym, ap, ap₂, Bool, true, false, cond, ◌&&◌, true≢false, List, [], ◌∷◌, map, ℕ, zero, suc, ◌+◌, ◌≤◌, ◌<◌, add-zero, arith, eqb, leb, length, get_or, take, drop, length-drop, drop_of_length-le, drop-drop, get_or-take, get_or-drop, leb-true, le-leb, eqb-true, eq-eqb}
use Rattle.std.proofs.Math.ListN.{get_or-map}
use Rattle.spec_text.specs.Bytes.{Bytes, Part, no_part, all, is_name, is_number, value_of, largest_span, largest_count}
use Rattle.spec_text.specs.Lines.{Word, well_formed, parsed}
use Rattle.spec_text.specs.declared.sort.Sort.{Sort}
use Rattle.read_words.specs.WordsModel.{sort_in}
use Rattle.spec_text.proofs.Lists.{and_split}
use Rattle.read_fields.specs.FieldsModel.{hash_of}
use Rattle.read_line.specs.LineModel.{numbers_of}
use Rattle.read_line.specs.declared.Line.{Line}
use Rattle.read_line.proofs.FieldRows.{begins}
use Rattle.read_line.proofs.Due.{number_at, left}

-- ---- the rows
abbrev pub spans : Word → ℕ
spans w = cond w.spanned 2 0

abbrev pub names : Word → ℕ
names w = cond w.named 1 0

abbrev pub is_span : Bytes → Bool
is_span x = is_number largest_span x

abbrev pub is_count : Bytes → Bool
is_count x = is_number largest_count x

-- s numbers of a span, m names, k counts, and what is left
abbrev rows : ℕ → ℕ → ℕ → Bool → List Part → Bool
rows s m k params fs =
    let g = drop s fs in
    let h = drop m g in
    begins s is_span fs && (begins m is_name g && (begins k is_count h && left params (drop k h)))

abbrev pub by_rows : Word → List Part → Bool
by_rows w fs = rows (spans w) (names w) w.counts w.params fs

-- ---- tests
both : {a b : Bool} → a ≡ true → b ≡ true → (a && b) ≡ true
both p q = ap₂ ◌&&◌ p q

iff : (a b : Bool) → (a ≡ true → b ≡ true) → (b ≡ true → a ≡ true) → a ≡ b
iff true b p q = sym (p refl)
iff false true p q = q refl
iff false false p q = refl

abbrev each : (Bytes → Bool) → List Part → Bool
each right fs = all (λ (f : Part). right f.bytes) fs

-- a list begins with k right fields if it has so many, and they are right
begins_true : (k : ℕ) (right : Bytes → Bool) (fs : List Part) → k ≤ length fs → each right (take k fs) ≡ true → begins k right fs ≡ true
begins_true zero right fs h e = refl
begins_true (suc k) right [] h e = absurd (omega arith)
begins_true (suc k) right (f ∷ fs) h e = let a = and_split (right f.bytes) _ e in both a.0 (begins_true k right fs (omega arith) a.1)

true_begins : (k : ℕ) (right : Bytes → Bool) (fs : List Part) → begins k right fs ≡ true → (k ≤ length fs) × (each right (take k fs) ≡ true)
true_begins zero right fs e = (omega arith, refl)
true_begins (suc k) right [] e = absurd (true≢false (sym e))
true_begins (suc k) right (f ∷ fs) e =
    let a = and_split (right f.bytes) _ e in
    let b = true_begins k right fs a.1 in
    (omega arith, both a.0 b.1)

-- what is left after t fields, where no more than parameters may follow
left_true : (params : Bool) (t : ℕ) (fs : List Part) → cond params (leb t (length fs)) (eqb t (length fs)) ≡ true → each is_name (drop t fs) ≡ true
    → (t ≤ length fs) × (left params (drop t fs) ≡ true)
left_true true t fs a e = (leb-true t (length fs) a, e)
left_true false t fs a e = let h = eqb-true t (length fs) a in (omega arith, eq-eqb 0 (length (drop t fs)) (simp length-drop (omega arith)))

true_left : (params : Bool) (t : ℕ) (fs : List Part) → t ≤ length fs → left params (drop t fs) ≡ true
    → (cond params (leb t (length fs)) (eqb t (length fs)) ≡ true) × (each is_name (drop t fs) ≡ true)
true_left true t fs h e = (le-leb t (length fs) h, e)
true_left false t fs h e =
    let z = eqb-true 0 (length (drop t fs)) e in
    let n : t ≡ length fs = omega (arith, length-drop t fs) in
    (eq-eqb t (length fs) n, rw (drop_of_length-le fs {i = t} (omega arith)))

pub formed_rows : (w : Word) (fs : List Part) → well_formed w fs ≡ by_rows w fs
formed_rows w fs = iff (well_formed w fs) (by_rows w fs) (there (spans w) (names w) w.counts w.params) (back (spans w) (names w) w.counts w.params)
  where
    formed : ℕ → ℕ → ℕ → Bool → Bool
    formed s m k p =
        cond p (leb (s + m + k) (length fs)) (eqb (s + m + k) (length fs))
        && (each is_span (take s fs) && (each is_name (take m (drop s fs)) && (each is_count (take k (drop (s + m) fs)) && each is_name (drop (s + m + k) fs))))

    there : (s m k : ℕ) (p : Bool) → formed s m k p ≡ true → rows s m k p fs ≡ true
    there s m k p e =
        let t : ℕ = s + m + k in
        let a = and_split (cond p (leb t (length fs)) (eqb t (length fs))) _ e in
        let b = and_split (each is_span (take s fs)) _ a.1 in
        let c = and_split (each is_name (take m (drop s fs))) _ b.1 in
        let d = and_split (each is_count (take k (drop (s + m) fs))) _ c.1 in
        let l = left_true p t fs a.0 d.1 in
        both (begins_true s is_span fs (omega arith) b.0)
        (both (begins_true m is_name (drop s fs) (simp length-drop (omega arith)) c.0)
        (rw (drop-drop m s fs) (both (begins_true k is_count (drop (s + m) fs) (simp length-drop (omega arith)) d.0) (rw (drop-drop k (s + m) fs) l.1))))

    back : (s m k : ℕ) (p : Bool) → rows s m k p fs ≡ true → formed s m k p ≡ true
    back s m k p e =
        let a = and_split (begins s is_span fs) _ e in
        let b = and_split (begins m is_name (drop s fs)) _ a.1 in
        let c = and_split (begins k is_count (drop (s + m) fs)) _ (rw (drop-drop m s fs) at b.1) in
        let x = true_begins s is_span fs a.0 in
        let y = true_begins m is_name (drop s fs) b.0 in
        let z = true_begins k is_count (drop (s + m) fs) c.0 in
        let l = true_left p (s + m + k) fs (omega (arith, length-drop s fs, length-drop (s + m) fs)) (rw (drop-drop k (s + m) fs) at c.1) in
        both l.0 (both x.1 (both y.1 (both z.1 l.1)))

-- ---- what is read
-- a line by the fields of its span, of its name and of its counts, how many parameters it has, and where it ends
abbrev pub of_parts : ℕ → Sort → List Part → List Part → List Part → ℕ → ℕ → Line
of_parts kind sort span own counts params next =
    let x = get_or own 0 no_part in
    record {
      kind = kind;
      sort = sort;
      start = number_at span 0;
      end = number_at span 1;
      name = record { offset = x.offset; len = length x.bytes };
      hash = hash_of x.bytes;
      count0 = number_at counts 0;
      count1 = number_at counts 1;
      count2 = number_at counts 2;
      params = params;
      next = next;
    }

span_at : (b : Bool) (fs : List Part) (i : ℕ) → i < 2 → cond b (number_at fs i) 0 ≡ number_at (take (cond b 2 0) fs) i
span_at true fs i h = ap (λ (f : Part). value_of f.bytes) (sym (get_or-take 2 fs i no_part h))
span_at false fs i h = refl

name_at_lem : (b : Bool) (s : ℕ) (fs : List Part) → cond b (get_or fs s no_part) no_part ≡ get_or (take (cond b 1 0) (drop s fs)) 0 no_part
name_at_lem true s fs = rw (get_or-take 1 (drop s fs) 0 no_part (omega arith), get_or-drop, add-zero)
name_at_lem false s fs = refl

count_at_lem : (fs : List Part) (i : ℕ) → get_or (map (λ (f : Part). value_of f.bytes) fs) i 0 ≡ number_at fs i
count_at_lem fs i = get_or-map (λ (f : Part). value_of f.bytes) fs i no_part

pub parsed_rows : (n : ℕ) (w : Word) (fs : List Part) (next : ℕ)
    → numbers_of (parsed n w fs) next
    ≡ (let g = drop (spans w) fs in
    let h = drop (names w) g in
    of_parts n (sort_in w.form) (take (spans w) fs) (take (names w) g) (take w.counts h) (length (drop w.counts h)) next)
parsed_rows n w fs next =
    let counts : List Part = take w.counts (drop (spans w + names w) fs) in
    rw (span_at w.spanned fs 0 (omega arith), span_at w.spanned fs 1 (omega arith), name_at_lem w.named (spans w) fs)
    (rw (count_at_lem counts 0, count_at_lem counts 1, count_at_lem counts 2, drop-drop (names w) (spans w) fs, drop-drop w.counts (spans w + names w) fs))
