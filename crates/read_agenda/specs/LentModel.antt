-- The code's agenda is a stack, in a buffer that was lent to it.
use Rattle.std.specs.Prelude.{ℕ, ◌≤◌, ◌<◌, ◌≡◌}
use Rattle.read_agenda.specs.StackModel.{Stack, stack}
use Rattle.read_agenda.specs.declared.agenda.Agenda.{Agenda}

abbrev pub stack_of : Agenda → Stack
stack_of a = stack a.work.now a.top

-- what a step leaves: at most n entries; and the stack x, as long as n is a number that a usize holds. Its buffer stays the one
-- that was lent
pub record Leaves (old : Agenda) (x : Stack) (n : ℕ) (new : Agenda) : Type 0 where
  pub stands : n < 18_446_744_073_709_551_616 → stack_of new ≡ x
  pub few : new.top ≤ n
  pub same_buffer : new.work.ghost_name ≡ old.work.ghost_name
