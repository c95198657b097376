-- What is printed for a text has at most 524,288 bytes, so the output buffer of `namecheck` holds it all: at most 2,340 faults are printed, since
-- the report buffer has no room for more records, each on a line of at most 223 bytes.
use Rattle.std.proofs.Common.{ℕ, zero, suc, ◌+◌, ◌*◌, ◌/◌, ◌%◌, ◌≤◌, arith, ◌≡◌, refl, ap, ap₂, ◌∙◌, Bool, true, false, List, [], ◌∷◌, ◌++◌, eqb, leb, ltb, length, get_or, take, drop, length-append, take_all, leb-true}
use Rattle.std.proofs.Math.Decide.{ℕ_discrete}
use Rattle.std.proofs.Math.Option.{some}
use Rattle.std.proofs.Math.Seq.{take-append_seam}
use Rattle.spec_text.specs.Bytes.{Bytes, Part, no_part, all, bytes}
use Rattle.spec_text.specs.Reading.{shortest_work}
use Rattle.spec_faults.specs.Faults.{Fault, faults, Words, eight_texts, written, message_from, message_of}
use Rattle.spec_answers.specs.Answers.{over, nth_fault}
use Rattle.spec_answers.specs.Printed.{fault_line, fault_lines, refused_line, printed, Prints}
use Rattle.spec_text.specs.Writing.{digits, decimal_of, tabbed, line_with}
use Rattle.spec_text.proofs.Lists.{and_split}
use Rattle.report_messages.proofs.Lengths.{length_written}
use Rattle.find_faults.proofs.Theorems.{faults_short, faults_classless}
use Rattle.print_answer.proofs.Cases.{by_answer}

-- ---- lines
digits_short : (k n : ℕ) → length (digits k n) ≤ k
digits_short zero n = omega arith
digits_short (suc k) n = go (ltb n 10) (digits_short k (n / 10))
  where
    go : (t : Bool) → length (digits k (n / 10)) ≤ k → length {A = ℕ} (elim t [ true ↦ (48 + n) ∷ [] | false ↦ digits k (n / 10) ++ ((48 + n % 10) ∷ []) ]) ≤ suc k
    go true h = omega arith
    go false h = rw length-append (omega arith)

-- the bytes of fields, each with its tab, and of LF
abbrev sizes : List Bytes → ℕ
sizes [] = 1
sizes (f ∷ fs) = suc (length f + sizes fs)

length_tabbed : (fs : List Bytes) → length (tabbed fs) ≡ sizes fs
length_tabbed [] = refl
length_tabbed (f ∷ fs) = ap suc (length-append f (tabbed fs) ∙ ap (λ n. length f + n) (length_tabbed fs))

length_line : (w : Bytes) (fs : List Bytes) → length (w ++ tabbed fs) ≡ length w + sizes fs
length_line w fs = length-append w (tabbed fs) ∙ ap (λ n. length w + n) (length_tabbed fs)

number_line : (w : Bytes) (k : ℕ) → length (w ++ tabbed (decimal_of k ∷ [])) ≤ length w + 12
number_line w k = rw (length_line w (decimal_of k ∷ [])) (omega (arith, digits_short 10 k))

refused_short : (k n : ℕ) → length (refused_line k n) ≤ 30
refused_short k n = rw (length_line (bytes "refused") (decimal_of k ∷ decimal_of n ∷ [])) (omega (arith, digits_short 10 k, digits_short 10 n))

-- ---- messages: 72 bytes of words at most, and two names; of 15, which alone has a class name, 57
abbrev words_length : Words → ℕ
words_length w = length w.before + (length w.between + length w.after)

-- a table whose words are short
message_short : (m k : ℕ) (x c : Bytes) (ws : List Words) → all (λ (w : Words). leb (words_length w) m) ws ≡ true → length (message_from ws k x c) ≤ m + (length x + length c)
message_short m k x c [] h = omega arith
message_short m k x c (w ∷ ws) h =
    let p = and_split (leb (words_length w) m) _ h in
    go (eqb k w.kind) (leb-true (words_length w) m p.0) (message_short m k x c ws p.1)
  where
    go : (t : Bool) → words_length w ≤ m → length (message_from ws k x c) ≤ m + (length x + length c)
        → length {A = ℕ} (elim t [ true ↦ written w x c | false ↦ message_from ws k x c ]) ≤ m + (length x + length c)
    go true l r = omega (arith, length_written w x c)
    go false l r = r

abbrev fifteen : Words
fifteen = get_or eight_texts 7 (record { kind = 0; before = []; between = []; after = [] })

fault_short : (f : Fault) → ((f.kind ≡ 15 → ⊥) → f.in_class ≡ no_part) → length f.name.bytes ≤ 63 → length f.in_class.bytes ≤ 63 → length (message_of f) ≤ 183
fault_short f c h i = go (ℕ_discrete f.kind 15)
  where
    go : Dec (f.kind ≡ 15) → length (message_of f) ≤ 183
    go (yes k) = rw k (omega (arith, length_written fifteen f.name.bytes f.in_class.bytes))
    go (no k) = omega (arith, message_short 72 f.kind f.name.bytes f.in_class.bytes eight_texts refl, ap (λ (p : Part). length p.bytes) (c k))

-- ---- all lines
line_short : (f : Fault) → length (message_of f) ≤ 183 → length (fault_line f) ≤ 223
line_short f h =
    rw (length_line (bytes "fault") (decimal_of f.kind ∷ decimal_of f.start ∷ decimal_of f.end ∷ message_of f ∷ []))
    (omega (arith, digits_short 10 f.kind, digits_short 10 f.start, digits_short 10 f.end))

lines_short : (fs : List Fault) → ((j : ℕ) (f : Fault) → nth_fault fs j ≡ some f → length (message_of f) ≤ 183) → length (fault_lines fs) ≤ 223 * length fs
lines_short [] h = omega arith
lines_short (f ∷ fs) h =
    rw (length-append (fault_line f) (fault_lines fs)) (omega (arith, line_short f (h 0 f refl), lines_short fs (λ j g e. h (suc j) g e)))

pub room : (text : Bytes) → length (printed text) ≤ 524_288
room text =
    by_answer text (λ a b. length b ≤ 524_288) (λ k n. omega (arith, refused_short k n))
    (λ t e few.
    rw (length-append (fault_lines (faults t)) (line_with "faults" (decimal_of (length (faults t)) ∷ [])))
    (omega (
      arith,
      number_line (bytes "faults") (length (faults t)),
      lines_short (faults t) (λ j f at.
          let s = faults_short text shortest_work t e j f at in
          fault_short f (faults_classless text shortest_work t e j f at) s.0 s.1),
    )))

-- so in such a buffer all of it stands
pub print_whole : (text old new : List ℕ) (n : ℕ) → 524_288 ≤ length old → Prints text old new n → take n new ≡ printed text
print_whole text old new n h p =
    let shown : take (length old) (printed text) ≡ printed text = take_all (length old) (printed text) (omega (arith, room text)) in
    let q : n ≡ length (printed text) = p.0 ∙ ap length shown in
    let o : new ≡ over (printed text) old = p.1 ∙ ap (λ bs. over bs old) shown in
    ap₂ take q o ∙ take-append_seam (printed text) (drop (length (printed text)) old)
