-- The invariant: from here the lines that are left lead to where all of them lead from the start. Three fields a line.
use Rattle.std.proofs.Common.{◌*◌, ◌-◌, ◌≡◌, ◌≤◌}
use Rattle.report_messages.specs.TextsModel.{words_start}
use Rattle.report_messages.proofs.words_start.Given as goal

abbrev pub invariant-loop-line : goal.invariant-loop-line
invariant-loop-line l = (l.at ≤ 12_291 * l._line) × (words_start (l.n - l._line) l.texts l.at ≡ words_start l.n l.texts 0)
