-- What `namecheck` prints: from the bytes of standard input to the bytes of standard output.
use Rattle.std.specs.Prelude.{ℕ, ◌*◌, ◌≤◌, ◌≡◌, true, false, List, [], ◌∷◌, ◌++◌, ltb, length, take}
use Rattle.spec_text.specs.Bytes.{Bytes}
use Rattle.spec_text.specs.Writing.{decimal_of, line_with}
use Rattle.spec_text.specs.Reading.{Reading, tree, refusal, reading, shortest_work}
use Rattle.spec_faults.specs.Faults.{Fault, faults, record_length, message_of}
use Rattle.spec_answers.specs.Answers.{over}

-- "prints for each fault `fault`, kind, start, end and message, and then `faults` and the count: fields with a tab between them, lines that end
-- in LF"
abbrev pub fault_line : Fault → Bytes
fault_line f = line_with "fault" (decimal_of f.kind ∷ decimal_of f.start ∷ decimal_of f.end ∷ message_of f ∷ [])

abbrev pub fault_lines : List Fault → Bytes
fault_lines [] = []
fault_lines (f ∷ fs) = fault_line f ++ fault_lines fs

-- "A refusal prints `refused`, number and line, alone. [..] for 2,341 it prints `refused 16 2341`"
abbrev pub refused_line : ℕ → ℕ → Bytes
refused_line k n = line_with "refused" (decimal_of k ∷ decimal_of n ∷ [])

-- "Its report buffer has 16,384 numbers"
abbrev pub report_buffer : ℕ
report_buffer = 16_384

abbrev pub report_text : List Fault → Bytes
report_text fs =
    elim (ltb report_buffer (record_length * length fs)) [
      | true ↦ refused_line 16 (length fs)
      | false ↦ fault_lines fs ++ line_with "faults" (decimal_of (length fs) ∷ [])
    ]

abbrev reading_text : Reading → Bytes
reading_text (tree t) = report_text (faults t)
reading_text (refusal k n) = refused_line k n

-- the work buffer of `namecheck` is long enough
abbrev pub printed : Bytes → Bytes
printed text = reading_text (reading text shortest_work)

-- what is left in a buffer, of which so many bytes are written: what is printed, as much as there is room for. These are inside.
abbrev pub Prints : Bytes → List ℕ → List ℕ → ℕ → Type 0
Prints text old new n = let shown = take (length old) (printed text) in (n ≡ length shown) × (new ≡ over shown old) × (n ≤ length new)
