-- The first line is refused; else its counts say what is due, and the rest is read.
use Rattle.std.proofs.Common.{arith, sym}
use Rattle.std.proofs.lemmas.Grind.{common_steps}
use Rattle.read_tree.proofs.FirstLine.{first_read, first_refused, reads_lines}
use Rattle.read_tree.proofs.read_tree.Goals as goal

pub returns-in_err-first : goal.returns-in_err-first
returns-in_err-first c =
    reads_lines _ _ _ _ c.if-text-gt-LONGEST_TEXT.false c.if-work-lt-SHORTEST_WORK.false (first_refused _ (sym c.in_err-first.ensures)) (record { answer = grind (arith, common_steps); kept = tt })

pub rest-requires-clause-is_first : goal.rest-requires-clause-is_first
rest-requires-clause-is_first c = (first_read _ (sym c.in_ok-first.ensures)).0

pub returns : goal.returns
returns c =
    reads_lines _ _ _ _ c.if-text-gt-LONGEST_TEXT.false c.if-work-lt-SHORTEST_WORK.false (first_read _ (sym c.in_ok-first.ensures)).1 c.rest.ensures
