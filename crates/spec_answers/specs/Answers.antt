-- The answers of the four public calls, as functions of the text's bytes, the length of the work buffer, the length of the output
-- buffer and i. "No answer depends on what the work buffer held before": its contents are no argument here, and neither are the output's.
use Rattle.std.specs.Prelude.{ℕ, zero, suc, ◌*◌, true, false, List, [], ◌∷◌, ◌++◌, ltb, length, drop}
use Rattle.std.proofs.Math.Option.{Option, none, some}
use Rattle.spec_text.specs.Bytes.{Bytes, Part, no_part}
use Rattle.spec_text.specs.Reading.{Reading, tree, refusal, reading}
use Rattle.spec_faults.specs.Faults.{Fault, faults, record_length, record7, records, message_of}

-- ---- an answer, in the numbers of FORMAT.md
-- accepted; written, so many records or bytes; a fault, the seven numbers of its record; refused, the number and what it carries
pub data Answer : Type 0 where
  accepted : Answer
  written : ℕ → Answer
  faulty : List ℕ → Answer
  refused : ℕ → List ℕ → Answer

-- "1 to 7 carry a line number from 1 (0 for 1 and 2)"
abbrev pub refused_at : ℕ → ℕ → Answer
refused_at k n = refused k (n ∷ [])

-- ---- "check: accepted, or the first fault as its record"
abbrev pub first_record : List Fault → Answer
first_record [] = accepted
first_record (f ∷ fs) = faulty (record7 f)

abbrev pub check_of : Reading → Answer
check_of (tree t) = first_record (faults t)
check_of (refusal k n) = refused_at k n

abbrev pub check : Bytes → ℕ → Answer
check text work = check_of (reading text work)

-- ---- an answer, and what it writes to the output buffer from the start
pub record Outcome : Type 0 where
  pub answer : Answer
  pub writes : List ℕ

-- "No refusal changes an output buffer; an answer changes nothing past what it writes."
-- an output buffer after numbers or bytes were written to it from the start
abbrev pub over : List ℕ → List ℕ → List ℕ
over new old = new ++ drop (length new) old

abbrev pub refusing : Answer → Outcome
refusing a = record { answer = a; writes = [] }

-- ---- "report: writes all faults to an output buffer and returns their count"
-- of these faults, to an output of this length; 16, "output shorter than 7 × faults", carries their number
abbrev pub reported : ℕ → List Fault → Outcome
reported out fs =
    elim (ltb out (record_length * length fs)) [
      | true ↦ refusing (refused 16 (length fs ∷ []))
      | false ↦ record { answer = written (length fs); writes = records fs }
    ]

abbrev pub report_of : ℕ → Reading → Outcome
report_of out (tree t) = reported out (faults t)
report_of out (refusal k n) = refusing (refused_at k n)

abbrev pub report : Bytes → ℕ → ℕ → Outcome
report text work out = report_of out (reading text work)

-- ---- "message: writes fault i (from 0, in the report's order) in the Rust's words and returns the length"
abbrev pub nth_fault : List Fault → ℕ → Option Fault
nth_fault [] i = none
nth_fault (f ∷ fs) zero = some f
nth_fault (f ∷ fs) (suc i) = nth_fault fs i

-- 18, "message longer than the output"; 17 and 18 carry nothing
abbrev pub wrote_if : ℕ → Bytes → Outcome
wrote_if out m = elim (ltb out (length m)) [ true ↦ refusing (refused 18 []) | false ↦ record { answer = written (length m); writes = m } ]

-- 17, "no fault i"
abbrev pub message_or : ℕ → Option Fault → Outcome
message_or out none = refusing (refused 17 [])
message_or out (some f) = wrote_if out (message_of f)

abbrev pub message_in : ℕ → ℕ → Reading → Outcome
message_in i out (tree t) = message_or out (nth_fault (faults t) i)
message_in i out (refusal k n) = refusing (refused_at k n)

abbrev pub message : Bytes → ℕ → ℕ → ℕ → Outcome
message text work i out = message_in i out (reading text work)

-- ---- name: "the name of fault i is handed back as a part of the tree text. The part is empty, at offset 0, for kind 14, for any of refusals
-- 1 to 7 and where no fault i exists."
abbrev pub name_of : Option Fault → Part
name_of none = no_part
name_of (some f) = f.name

abbrev pub name_in : ℕ → Reading → Part
name_in i (tree t) = name_of (nth_fault (faults t) i)
name_in i (refusal k n) = no_part

abbrev pub name : Bytes → ℕ → ℕ → Part
name text work i = name_in i (reading text work)
