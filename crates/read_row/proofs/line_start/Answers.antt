-- The last LF before the offset, or none.
use Rattle.std.proofs.Common.{rules}
use Rattle.read_row.proofs.Starts.{front, start_last, start_none}
use Rattle.read_row.proofs.line_start.Goals as goal

pub returns-in-Some : goal.returns-in-Some
returns-in-Some c =
    start_last (front c.args.text c.unwrap_or-before.result c.args.at c.get.result (search rules) c.unwrap_or-before.ensures) c.in-Some.i
    (search rules) (search rules) (search rules)

pub returns-in-None : goal.returns-in-None
returns-in-None c =
    start_none (front c.args.text c.unwrap_or-before.result c.args.at c.get.result (search rules) c.unwrap_or-before.ensures) (search rules)
