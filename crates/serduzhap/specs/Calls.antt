-- What the public calls promise: for any text, any work buffer, any output buffer and any i. What a code's answer says in FORMAT.md's
-- numbers is one definition for each call: its number and its values, case by case.
use Rattle.std.specs.Prelude.{ℕ, ◌≡◌, List, [], ◌∷◌, length, Option, None, Some, Result, Ok, Err}
use Rattle.spec_text.specs.Bytes.{Bytes, Part, part_of}
use Rattle.spec_text.specs.Numbers.{refusal_number}
use Rattle.spec_text.specs.declared.refusal.Refused.{Refused}
use Rattle.spec_faults.specs.Kinds.{kind_number}
use Rattle.spec_answers.specs.Answers.{Answer, accepted, written, faulty, refused, refused_at, check, Outcome, over, report, message, name}
use Rattle.read_bytes.specs.declared.name_part.NamePart.{NamePart}
use Rattle.report_records.specs.declared.Record.{Record}
use Rattle.serduzhap.specs.declared.ReportError.{ReportError}
use Rattle.serduzhap.specs.declared.ReportError.TheVariants as R
use Rattle.serduzhap.specs.declared.MessageError.{MessageError}
use Rattle.serduzhap.specs.declared.MessageError.TheVariants as M

-- ---- a refusal: its number and its line
abbrev pub refusal_says : Refused → Answer
refusal_says e = refused_at (refusal_number e.why) e.line

-- ---- "accepted, or the first fault as its record"; a refusal
abbrev pub check_says : Result (Option Record) Refused → Answer
check_says (Ok None) = accepted
check_says (Ok (Some r)) =
    faulty (kind_number r.kind ∷ r.start ∷ r.end ∷ r.name.offset ∷ r.name.len ∷ r.class.offset ∷ r.class.len ∷ [])
check_says (Err e) = refusal_says e

-- check, of a text, with a work buffer of so many numbers, answers r
abbrev pub Checks : Bytes → ℕ → Result (Option Record) Refused → Type 0
Checks text work r = check_says r ≡ check text work

-- ---- a call's answer is `said`, and the output, which was `old`, is `new`: as the outcome has it
abbrev pub Gives : Outcome → List ℕ → List ℕ → Answer → Type 0
Gives o old new said = (said ≡ o.answer) × (new ≡ over o.writes old)

-- ---- the count; a refusal; 16, "output shorter than 7 × faults", with the count
abbrev pub report_number : ReportError → ℕ
report_number (R.Refused e) = refusal_number e.why
report_number (R.OutputTooShort n) = 16

abbrev pub report_detail : ReportError → ℕ
report_detail (R.Refused e) = e.line
report_detail (R.OutputTooShort n) = n

abbrev pub report_says : Result ℕ ReportError → Answer
report_says (Ok k) = written k
report_says (Err e) = refused_at (report_number e) (report_detail e)

abbrev pub Reports : Bytes → ℕ → List ℕ → List ℕ → Result ℕ ReportError → Type 0
Reports text work old new r = Gives (report text work (length old)) old new (report_says r)

-- ---- the length; a refusal; 17, "no fault i"; 18, "message longer than the output"
abbrev pub message_number : MessageError → ℕ
message_number (M.Refused e) = refusal_number e.why
message_number M.NoFault = 17
message_number M.TooLong = 18

abbrev pub message_values : MessageError → List ℕ
message_values (M.Refused e) = e.line ∷ []
message_values M.NoFault = []
message_values M.TooLong = []

abbrev pub message_says : Result ℕ MessageError → Answer
message_says (Ok n) = written n
message_says (Err e) = refused (message_number e) (message_values e)

-- message, of fault i
abbrev pub Messages : Bytes → ℕ → ℕ → Bytes → Bytes → Result ℕ MessageError → Type 0
Messages text work i old new r = Gives (message text work i (length old)) old new (message_says r)

-- ---- where the name of fault i stands in the text
abbrev pub part_says : Part → NamePart
part_says x = record { offset = x.offset; len = length x.bytes }

-- where it stands, and the bytes there
abbrev pub Names : Bytes → ℕ → ℕ → NamePart → Type 0
Names text work i r = (r ≡ part_says (name text work i)) × (part_of text r.offset r.len ≡ (name text work i).bytes)
