-- The records of the entries that were listed, one after the other.
use Rattle.std.specs.Prelude.{ℕ, zero, suc, ◌+◌, List, [], ◌++◌}
use Rattle.spec_text.specs.Bytes.{Bytes}
use Rattle.report_order.specs.OrderModel.{entry_at}
use Rattle.report_records.specs.RecordsModel.{record_of, numbers32}
use Rattle.report_records.specs.declared.RecordNumbers.{RecordNumbers}

abbrev pub record_at : Bytes → List ℕ → ℕ → RecordNumbers
record_at text w j = record_of text w (entry_at w j)

-- of n entries from the j-th on
abbrev pub records_of : Bytes → List ℕ → ℕ → ℕ → List ℕ
records_of text w j zero = []
records_of text w j (suc n) = numbers32 (record_of text w (entry_at w j)) ++ records_of text w (j + 1) n
