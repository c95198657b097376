-- The code's reader stands where a machine stands. What its methods do is what the machine does; its text and its buffer stay those
-- that were lent to it.
use Rattle.std.specs.Prelude.{ℕ, ◌+◌, ◌-◌, ◌*◌, ◌<◌, ◌≡◌, length, Option, None, Some, Result, Ok, Err, IfOk, IfErr}
use Rattle.spec_text.specs.Bytes.{Bytes}
use Rattle.spec_text.specs.declared.refusal.Refused.{Refused}
use Rattle.read_agenda.specs.declared.Entry.{Entry}
use Rattle.read_agenda.specs.Entries.{entry_word}
use Rattle.read_tree.specs.MachineModel.{Machine, machine, turn_by, turn_of, Turns}
use Rattle.read_tree.specs.declared.reader.Reader.{Reader}

abbrev pub machine_of : Reader → Machine
machine_of s = machine s.agenda.now.work.now s.at s.rows s.agenda.now.top

-- where it has come to, or its refusal
abbrev pub reached : Reader → Result (Unit {0}) Refused → Result Machine Refused
reached s (Ok u) = Ok (machine_of s)
reached s (Err e) = Err e

-- the entry by which the next turn goes: none where nothing is due
abbrev pub IsNext : Machine → Option Entry → Type 0
IsNext m None = m.top ≡ 0
IsNext m (Some e) = (0 < m.top) × ((text : Bytes) → turn_of text m ≡ turn_by text (entry_word e) m)

-- what falls with each turn
abbrev pub left : Reader → ℕ
left s = s.agenda.now.top + 8 * (length s.text.now - s.at)

-- a step to x: less is left after it, if anything was due; a step that is refused writes nothing
pub record Moved (old : Reader) (x : Result Machine Refused) (r : Result (Unit {0}) Refused) (new : Reader) : Type 0 where
  pub reached : reached new r ≡ x
  pub stays : IfErr r (λ e. machine_of new ≡ machine_of old)
  pub less : IfOk r (λ u. 0 < old.agenda.now.top → left new < left old)
  pub same_text : new.text.now ≡ old.text.now
  pub same_agenda : new.agenda.ghost_name ≡ old.agenda.ghost_name
  pub same_buffer : new.agenda.now.work.ghost_name ≡ old.agenda.now.work.ghost_name

-- all steps
pub record Ran (old : Reader) (r : Result (Unit {0}) Refused) (new : Reader) : Type 0 where
  pub turns : (x : Result Machine Refused) → Turns old.text.now (machine_of old) x → reached new r ≡ x
  pub same_text : new.text.now ≡ old.text.now
  pub same_agenda : new.agenda.ghost_name ≡ old.agenda.ghost_name
  pub same_buffer : new.agenda.now.work.ghost_name ≡ old.agenda.now.work.ghost_name
