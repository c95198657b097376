-- The word, the count, and LF.
use Rattle.write_bytes.proofs.Pushed.{pushed_then}
use Rattle.print_lines.proofs.push_count.Goals as goal

pub returns : goal.returns
returns c = pushed_then c.push.ensures (pushed_then c.push_number.ensures c.push_byte.ensures)
