-- Entries are added to a list; its buffer stays the one that was lent to it. Nothing before them changes; and they are written and counted, as long
-- as their count is a number that the list holds.
use Rattle.std.specs.Prelude.{ℕ, ◌≡◌, ◌+◌, ◌<◌, List, length, get_or}
use Rattle.report_order.specs.OrderModel.{entry_base, stored}
use Rattle.report_order.specs.declared.list.Entries.{Entries}

pub record Listed (old : Entries) (es : List ℕ) (new : Entries) : Type 0 where
  pub same_rows : (i : ℕ) → i < entry_base → get_or new.work.now i 0 ≡ get_or old.work.now i 0
  pub listed : old.count + length es < 18_446_744_073_709_551_616 → (new.work.now ≡ stored es old.count old.work.now) × (new.count ≡ old.count + length es)
  pub same_buffer : new.work.ghost_name ≡ old.work.ghost_name
