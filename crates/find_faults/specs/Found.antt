-- What `find` answers, and what the work buffer holds then: an entry for each fault, in the report's order, from which its record is read.
use Rattle.std.specs.Prelude.{ℕ, ◌≤◌, ◌<◌, ◌≡◌, List, length, Result, Ok, Err}
use Rattle.std.proofs.Math.Option.{some}
use Rattle.spec_text.specs.Bytes.{Bytes, Part, part_of}
use Rattle.spec_text.specs.Reading.{Reading, tree, refusal}
use Rattle.spec_faults.specs.Faults.{Fault, faults, record7}
use Rattle.spec_answers.specs.Answers.{nth_fault}
use Rattle.report_order.specs.OrderModel.{entry_at}
use Rattle.report_records.specs.RecordsModel.{record_of, numbers}
use Rattle.spec_text.specs.declared.refusal.Refused.{Refused}
use Rattle.read_tree.specs.Laid.{in_numbers}

-- the part of the text that a record shows, by its offset and length
abbrev pub Shown : Bytes → Part → Type 0
Shown text x = part_of text x.offset (length x.bytes) ≡ x.bytes

-- the j-th entry shows the fault f
pub record Shows (text : Bytes) (w : List ℕ) (j : ℕ) (f : Fault) : Type 0 where
  pub record' : numbers (record_of text w (entry_at w j)) ≡ record7 f
  pub name : Shown text f.name
  pub class : Shown text f.in_class
  pub kind : f.kind < 16
  pub kind_least : 8 ≤ f.kind
  pub start : f.start < 4_294_967_296
  pub end : f.end < 4_294_967_296
  pub name_at : f.name.offset < 4_294_967_296
  pub class_at : f.in_class.offset < 4_294_967_296
  pub name_len : length f.name.bytes < 4_294_967_296
  pub class_len : length f.in_class.bytes < 4_294_967_296

abbrev pub Listed : Bytes → List Fault → List ℕ → Type 0
Listed text fs w = (j : ℕ) (f : Fault) → nth_fault fs j ≡ some f → Shows text w j f

-- ---- the answer: how many faults
abbrev pub found_answer : Reading → Result ℕ (ℕ × ℕ)
found_answer (tree t) = Ok (length (faults t))
found_answer (refusal k n) = Err (k, n)

-- of a text that is refused, the work buffer is unspecified; a tree's text has at most 65,536 bytes, and it has at most 4,096 faults
abbrev pub Kept : Bytes → Reading → List ℕ → Type 0
Kept text (tree t) w = Listed text (faults t) w × ((length text < 65_537) × (length (faults t) < 4_097))
Kept text (refusal k n) w = Unit

pub record Finds (text : Bytes) (x : Reading) (w : List ℕ) (r : Result ℕ Refused) : Type 0 where
  pub answer : in_numbers r ≡ found_answer x
  pub kept : Kept text x w
