-- A tab, then the digits.
use Rattle.write_bytes.proofs.Pushed.{pushed_then}
use Rattle.write_bytes.proofs.Output.push_number.Goals as goal

pub returns : goal.returns
returns c = pushed_then c.push_byte.ensures c.push_digits.ensures
