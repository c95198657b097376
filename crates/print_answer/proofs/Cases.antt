-- What `report` answers for buffers of 16,384 numbers, and what is printed, by cases of the text: it is refused, or there is no room for its
-- records, or they are written.
use Rattle.std.proofs.Common.{ℕ, ◌*◌, ◌≤◌, ◌≡◌, refl, Bool, true, false, List, [], ◌∷◌, ◌++◌, ltb, length, ltb-false}
use Rattle.spec_text.specs.Bytes.{Bytes}
use Rattle.spec_text.specs.Tree.{Tree}
use Rattle.spec_text.specs.Reading.{Reading, tree, refusal, reading, shortest_work}
use Rattle.spec_faults.specs.Faults.{Fault, faults, record_length, records}
use Rattle.spec_answers.specs.Answers.{written, refused, Outcome, refusing, reported, report}
use Rattle.spec_answers.specs.Printed.{fault_lines, refused_line, report_buffer, report_text, printed}
use Rattle.spec_text.specs.Writing.{decimal_of, line_with}

-- all of its records are written
abbrev pub whole : List Fault → Outcome
whole fs = record { answer = written (length fs); writes = records fs }

abbrev all_printed : List Fault → Bytes
all_printed fs = fault_lines fs ++ line_with "faults" (decimal_of (length fs) ∷ [])

module _ (text : Bytes) (P : Outcome → Bytes → Type 0)
    (none : (k n : ℕ) → P (refusing (refused k (n ∷ []))) (refused_line k n))
    (all : (t : Tree) → reading text shortest_work ≡ tree t → 7 * length (faults t) ≤ report_buffer
    → P (whole (faults t)) (all_printed (faults t))) where
  pub by_answer : P (report text shortest_work report_buffer) (printed text)
  by_answer = go (reading text shortest_work) refl
    where
      listed : (t : Tree) (b : Bool) → reading text shortest_work ≡ tree t → ltb report_buffer (record_length * length (faults t)) ≡ b
          → P (report text shortest_work report_buffer) (printed text)
      listed t true e o =
          let r : reported report_buffer (faults t) ≡ refusing (refused 16 (length (faults t) ∷ [])) = rw (o, reported) in
          let s : report_text (faults t) ≡ refused_line 16 (length (faults t)) = rw (o, report_text) in
          rw (e, r, s) (none 16 (length (faults t)))
      listed t false e o =
          let r : reported report_buffer (faults t) ≡ whole (faults t) = rw (o, reported) in
          let s : report_text (faults t) ≡ all_printed (faults t) = rw (o, report_text) in
          rw (e, r, s) (all t e (ltb-false report_buffer (record_length * length (faults t)) o))

      go : (x : Reading) → reading text shortest_work ≡ x → P (report text shortest_work report_buffer) (printed text)
      go (tree t) e = listed t (ltb report_buffer (record_length * length (faults t))) e refl
      go (refusal k n) e = rw e (none k n)
