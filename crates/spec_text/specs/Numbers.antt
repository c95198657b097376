-- The numbers that the documents give to refusals of a text.
use Rattle.std.specs.Prelude.{ℕ}
use Rattle.spec_text.specs.declared.refusal.Refusal.{Refusal}
use Rattle.spec_text.specs.declared.refusal.Refusal.TheVariants.{TextTooLong, WorkTooShort, LineMissing, LineLeft, Malformed, NotDue, OverLimit}

abbrev pub refusal_number : Refusal → ℕ
refusal_number TextTooLong = 1
refusal_number WorkTooShort = 2
refusal_number LineMissing = 3
refusal_number LineLeft = 4
refusal_number Malformed = 5
refusal_number NotDue = 6
refusal_number OverLimit = 7
