-- The invariant: where turns lead from the start they lead from here. Less is left after each turn.
use Rattle.std.proofs.Common.{◌≡◌, Result}
use Rattle.spec_text.specs.declared.refusal.Refused.{Refused}
use Rattle.read_tree.specs.MachineModel.{Machine, Turns}
use Rattle.read_tree.specs.ReaderModel.{machine_of, left}
use Rattle.read_tree.proofs.reader.Reader.run.Given as goal

abbrev pub invariant-loop-entry : goal.invariant-loop-entry
invariant-loop-entry l =
    record {
      led : (x : Result Machine Refused) → Turns l.initial.self.text.now (machine_of l.initial.self) x → Turns l.self.text.now (machine_of l.self) x;
      same_text : l.self.text.now ≡ l.initial.self.text.now;
      same_agenda : l.self.agenda.ghost_name ≡ l.initial.self.agenda.ghost_name;
      same_buffer : l.self.agenda.now.work.ghost_name ≡ l.initial.self.agenda.now.work.ghost_name;
    }

abbrev pub decreases-loop-entry : goal.decreases-loop-entry
decreases-loop-entry l = left l.self
