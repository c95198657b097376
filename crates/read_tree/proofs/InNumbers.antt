-- What the steps of the functions make together, in the numbers of the work buffer.
use Rattle.std.proofs.Common.{ℕ, ◌+◌, ◌/◌, ◌%◌, ◌<◌, arith, ◌≡◌, ap, ◌∙◌, Option, None, Some, Ok, eq-eqb, ◌-◌}
use Rattle.spec_text.specs.Bytes.{Bytes}
use Rattle.spec_text.specs.SortsModel.{sort_number}
use Rattle.spec_text.specs.declared.sort.Sort.{Sort}
use Rattle.spec_text.specs.declared.sort.Sort.TheVariants as S
use Rattle.read_agenda.specs.declared.due.Due.{Due}
use Rattle.read_agenda.specs.declared.Entry.{Entry}
use Rattle.read_agenda.specs.declared.Entry.TheVariants as E
use Rattle.read_agenda.specs.Entries.{due_word, entry_word, IsEntry, OnTop}
use Rattle.read_tree.specs.MachineModel.{due_at, Machine, machine, entry_of, row_closed, taken_if, taken, turn_by, turn_of}
use Rattle.read_tree.specs.ReaderModel.{IsNext}

sort_small : (s : Sort) → sort_number s < 7
sort_small S.Tree = omega arith
sort_small S.Global = omega arith
sort_small S.Elif = omega arith
sort_small S.Method = omega arith
sort_small S.Attr = omega arith
sort_small S.Stmt = omega arith
sort_small S.Expr = omega arith

-- ---- a line that is due by an entry, by the entry's parts
module _ (due : Due) where
  word_sort : due_word due % 8 ≡ sort_number due.sort
  word_sort = omega (arith, sort_small due.sort)

  word_levels : due_word due / 8 % 128 ≡ due.levels
  word_levels = omega (arith, sort_small due.sort, due.in_range)

  pub taken_due : (text : Bytes) (m : Machine)
      → taken text (due_word due) m
      ≡ taken_if text (due_word due) due.levels (due_at text m.at (sort_number due.sort) (m.rows + 2) due.levels) m
  unfolding taken
  taken_due text m =
      let n = m.rows + 2 in
      let e = due_word due in
      ap (λ (d : ℕ). taken_if text e d (due_at text m.at (e % 8) n d) m) word_levels
      ∙ ap (λ (s : ℕ). taken_if text e due.levels (due_at text m.at s n due.levels) m) word_sort

-- ---- an entry of the code and its number: a turn by the one is a turn by the other
by_entry : (text : Bytes) (m : Machine) (n : ℕ) (e : Entry) → IsEntry n e → turn_by text n m ≡ turn_by text (entry_word e) m
by_entry text m n (E.Due d) h = ap (λ (k : ℕ). turn_by text k m) (omega (arith, sort_small d.sort, h.0, h.1, h.2))
by_entry text m n (E.Close i) h =
    rw (eq-eqb (n % 8) 7 h.0, eq-eqb (entry_word (E.Close i) % 8) 7 (omega arith))
    (ap (λ (k : ℕ). Ok (machine (row_closed k m.rows m.work) m.at m.rows (m.top - 1))) (omega (arith, h.1)))

pub is_next : (m : Machine) (o : Option Entry) → OnTop m.work m.top o → IsNext m o
unfolding turn_of
is_next m None h = h
is_next m (Some e) h = (h.0, λ text. by_entry text m (entry_of m) e h.1)
