-- The entries of the agenda and their numbers in the work buffer.
use Rattle.std.specs.Prelude.{ℕ, ◌+◌, ◌-◌, ◌/◌, ◌%◌, ◌<◌, List, ◌≡◌, get_or, Option, None, Some}
use Rattle.spec_text.specs.SortsModel.{sort_number}
use Rattle.read_agenda.specs.declared.due.Due.{Due}
use Rattle.read_agenda.specs.declared.Entry.{Entry}
use Rattle.read_agenda.specs.declared.Entry.TheVariants as E
use Rattle.read_agenda.specs.StackModel.{agenda_base, Stack, stack, run_word, close_word, pushed}
use Rattle.work_rows.specs.Layout.{put}

-- the number of an entry
abbrev pub due_word : Due → ℕ
due_word d = run_word (sort_number d.sort) d.count d.levels

abbrev pub entry_word : Entry → ℕ
entry_word (E.Due d) = due_word d
entry_word (E.Close i) = close_word i

-- the entry of a number, whatever the number is
abbrev pub IsEntry : ℕ → Entry → Type 0
IsEntry n (E.Due d) = (sort_number d.sort ≡ n % 8) × (d.levels ≡ n / 8 % 128) × (d.count ≡ n / 1_024)
IsEntry n (E.Close i) = (n % 8 ≡ 7) × (i ≡ n / 1_024)

-- what is on top of the agenda: none where nothing is due
abbrev pub OnTop : List ℕ → ℕ → Option Entry → Type 0
OnTop w top None = top ≡ 0
OnTop w top (Some e) = (0 < top) × IsEntry (get_or w (agenda_base + top - 1) 0) e

-- what is written: an entry over the ones below it; lines, if any are due
abbrev pub written : Entry → Stack → Stack
written e x = stack (put x.work (agenda_base + x.top) (entry_word e)) (x.top + 1)

abbrev pub pushed_lines : Due → Stack → Stack
pushed_lines d x = pushed (sort_number d.sort) d.count d.levels x
