-- The word, the two numbers, and LF.
use Rattle.write_bytes.proofs.Pushed.{pushed_then}
use Rattle.print_lines.proofs.push_refused.Goals as goal

pub returns : goal.returns
returns c = pushed_then c.push.ensures (pushed_then c.push_number.ensures (pushed_then c.push_number-2.ensures c.push_byte.ensures))
