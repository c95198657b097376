-- How large the numbers of an answer are: lines up to 4,098, counts of faults up to 4,096, messages of up to 183 bytes, names of up to
-- 63 bytes in a text of up to 65,536. So each number of an answer has 32 bits.
use Rattle.std.proofs.Common.{ℕ, ◌+◌, ◌*◌, ◌≤◌, arith, ◌≡◌, refl, ap, Bool, true, false, cond, List, [], ◌∷◌, eqb, leb, ltb, length, eqb-true, leb-true}
use Rattle.std.proofs.Math.Option.{Option, none, some}
use Rattle.std.proofs.lemmas.Bool.{eqb-false}
use Rattle.spec_text.specs.Bytes.{Bytes, Part, no_part, between, all}
use Rattle.spec_text.specs.Tree.{Tree}
use Rattle.spec_text.specs.Reading.{Reading, tree, refusal, reading}
use Rattle.spec_text.proofs.Lists.{and_split, All, all_nil, all_cons}
use Rattle.spec_text.proofs.Theorems.{refusal_numbers, tree_lines, text_length}
use Rattle.spec_faults.specs.Faults.{Fault, faults, Words, record7, eight_texts, written, message_from, message_of}
use Rattle.spec_faults.proofs.Theorems.{at_most_lines}
use Rattle.spec_answers.specs.Answers.{first_record, check_of, check, reported, report_of, report, nth_fault, wrote_if, message_or, message_in, message, name_of, name_in, name}
use Rattle.report_messages.proofs.Lengths.{length_written}
use Rattle.find_faults.proofs.Fitting.{Fits, fault_of_lem, faults_fit}
use Rattle.serduzhap_c.specs.Numbers.{numbers, part_answer}
use Rattle.serduzhap_c.proofs.Stores.{Small}

one : (a : ℕ) → a ≤ 65_536 → All Small (a ∷ [])
one a h = all_cons {a = a} (omega (arith, h)) all_nil

two : (a b : ℕ) → a ≤ 65_536 → b ≤ 65_536 → All Small (a ∷ b ∷ [])
two a b h k = all_cons {a = a} (omega (arith, h)) (one b k)

-- ---- messages
-- the words of a kind leave room for its names in 183 bytes: for two with 15, else for one
abbrev words : Words → ℕ
words w = length w.before + length w.between + length w.after

abbrev fitting : Words → Bool
fitting w = leb (words w + cond (eqb w.kind 15) 126 63) 183

written_short : (w : Words) (k : ℕ) (x c : Bytes) → fitting w ≡ true → k ≡ w.kind → length x ≤ 63 → length c ≤ 63 → ((k ≡ 15 → ⊥) → length c ≡ 0)
    → length (written w x c) ≤ 183
written_short w k x c f e lx lc none' = go (eqb w.kind 15) refl
  where
    go : (b : Bool) → eqb w.kind 15 ≡ b → length (written w x c) ≤ 183
    go true d =
        let l : words w + 126 ≤ 183 = leb-true (words w + 126) 183 (rw d at f) in
        omega (arith, length_written w x c, l, lx, lc)
    go false d =
        let l : words w + 63 ≤ 183 = leb-true (words w + 63) 183 (rw d at f) in
        omega (arith, length_written w x c, l, lx, none' (λ i. eqb-false w.kind 15 d (omega (arith, e, i))))

message_short : (ws : List Words) (k : ℕ) (x c : Bytes) → all fitting ws ≡ true → length x ≤ 63 → length c ≤ 63 → ((k ≡ 15 → ⊥) → length c ≡ 0)
    → length (message_from ws k x c) ≤ 183
message_short [] k x c f lx lc none' = omega arith
message_short (w ∷ ws) k x c f lx lc none' =
    let s = and_split (fitting w) (all fitting ws) f in
    go (eqb k w.kind) (λ d. written_short w k x c s.0 (eqb-true k w.kind d) lx lc none') (message_short ws k x c s.1 lx lc none') refl
  where
    go : (b : Bool) → (eqb k w.kind ≡ true → length (written w x c) ≤ 183) → length (message_from ws k x c) ≤ 183 → eqb k w.kind ≡ b
        → length {A = ℕ} (elim b [ true ↦ written w x c | false ↦ message_from ws k x c ]) ≤ 183
    go true here later d = here d
    go false here later d = later

-- ---- of a text that was read
module _ (text : Bytes) (work : ℕ) where
  -- "1 to 7 carry a line number from 1 (0 for 1 and 2)": at most 4,098
  pub last_line : {k n : ℕ} → reading text work ≡ refusal k n → (k ≤ 7) × (n ≤ 4_098)
  last_line {k} {n} e =
      let p = and_split (between 1 7 k) _ (refusal_numbers text work k n e) in
      (leb-true k 7 (and_split (leb 1 k) (leb k 7) p.0).1, go (leb k 2) p.1)
    where
      go : (b : Bool) → cond b (eqb n 0) (between 1 4_098 n) ≡ true → n ≤ 4_098
      go true d = omega (arith, eqb-true n 0 d)
      go false d = leb-true n 4_098 (and_split (leb 1 n) (leb n 4_098) d).1

  module _ (t : Tree) (e : reading text work ≡ tree t) where
    -- "4,096 lines after the first": no more faults
    pub most_faults : length (faults t) ≤ 4_096
    most_faults = omega (arith, at_most_lines t, tree_lines text work t e)

    pub longest_message : (i : ℕ) (f : Fault) → nth_fault (faults t) i ≡ some f → length (message_of f) ≤ 183
    longest_message i f d =
        let m = fault_of_lem (faults_fit text work t e) i f d in
        message_short eight_texts f.kind f.name.bytes f.in_class.bytes refl m.name.short m.class.short (λ h. ap (λ (x : Part). length x.bytes) (m.no_class h))

    record_small : (f : Fault) → Fits text f → All Small (record7 f)
    record_small f m =
        let l = text_length text work t e in
        all_cons {a = f.kind} (omega (arith, m.kind)) (all_cons m.start (all_cons m.end
        (all_cons {a = f.name.offset} (omega (arith, l, m.name.inside)) (all_cons {a = length f.name.bytes} (omega (arith, m.name.short))
        (all_cons {a = f.in_class.offset} (omega (arith, l, m.class.inside)) (all_cons {a = length f.in_class.bytes} (omega (arith, m.class.short)) all_nil))))))

    first_small : (fs : List Fault) → All (Fits text) fs → All Small (numbers (first_record fs))
    first_small [] h = one 100 (omega arith)
    first_small (f ∷ fs) (all_cons h r) = record_small f h

-- ---- each number of an answer has 32 bits
module _ (text : Bytes) (work : ℕ) where
  line_small : {k n : ℕ} → reading text work ≡ refusal k n → All Small (k ∷ n ∷ [])
  line_small {k} {n} e = let l = last_line text work e in two k n (omega (arith, l.0)) (omega (arith, l.1))

  pub check_small : All Small (numbers (check text work))
  check_small = go (reading text work) refl
    where
      go : (x : Reading) → reading text work ≡ x → All Small (numbers (check_of x))
      go (tree t) e = first_small text work t e (faults t) (faults_fit text work t e)
      go (refusal k n) e = line_small e

  pub report_small : (out : ℕ) → All Small (numbers (report text work out).answer)
  report_small out = go (reading text work) refl
    where
      count : (t : Tree) → length (faults t) ≤ 4_096 → (b : Bool) → ltb out (7 * length (faults t)) ≡ b → All Small (numbers (reported out (faults t)).answer)
      count t l true d = rw (d, reported) (two 16 (length (faults t)) (omega arith) (omega (arith, l)))
      count t l false d = rw (d, reported) (two 101 (length (faults t)) (omega arith) (omega (arith, l)))

      go : (x : Reading) → reading text work ≡ x → All Small (numbers (report_of out x).answer)
      go (tree t) e = count t (most_faults text work t e) (ltb out (7 * length (faults t))) refl
      go (refusal k n) e = line_small e

  pub message_small : (i out : ℕ) → All Small (numbers (message text work i out).answer)
  message_small i out = go (reading text work) refl
    where
      fits : (m : Bytes) → length m ≤ 183 → (b : Bool) → ltb out (length m) ≡ b → All Small (numbers (wrote_if out m).answer)
      fits m l true d = rw (d, wrote_if) (one 18 (omega arith))
      fits m l false d = rw (d, wrote_if) (two 101 (length m) (omega arith) (omega (arith, l)))

      fault : (t : Tree) → reading text work ≡ tree t → (o : Option Fault) → nth_fault (faults t) i ≡ o → All Small (numbers (message_or out o).answer)
      fault t e none d = one 17 (omega arith)
      fault t e (some f) d = fits (message_of f) (longest_message text work t e i f d) (ltb out (length (message_of f))) refl

      go : (x : Reading) → reading text work ≡ x → All Small (numbers (message_in i out x).answer)
      go (tree t) e = fault t e (nth_fault (faults t) i) refl
      go (refusal k n) e = line_small e

  pub part_small : (i : ℕ) → All Small (part_answer (name text work i))
  part_small i = go (reading text work) refl
    where
      none_small : All Small (part_answer no_part)
      none_small = all_cons {a = 102} (omega arith) (two 0 0 (omega arith) (omega arith))

      fault : (t : Tree) → reading text work ≡ tree t → (o : Option Fault) → nth_fault (faults t) i ≡ o → All Small (part_answer (name_of o))
      fault t e none d = none_small
      fault t e (some f) d =
          let m = fault_of_lem (faults_fit text work t e) i f d in
          all_cons {a = 102} (omega arith)
          (two f.name.offset (length f.name.bytes) (omega (arith, text_length text work t e, m.name.inside)) (omega (arith, m.name.short)))

      go : (x : Reading) → reading text work ≡ x → All Small (part_answer (name_in i x))
      go (tree t) e = fault t e (nth_fault (faults t) i) refl
      go (refusal k n) e = none_small
