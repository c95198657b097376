-- The word, three numbers, the message, and LF.
use Rattle.std.proofs.Common.{subst}
use Rattle.spec_text.specs.Bytes.{Bytes}
use Rattle.write_bytes.specs.OutputModel.{Pushed}
use Rattle.write_bytes.proofs.Pushed.{pushed_then}
use Rattle.print_lines.proofs.push_fault.Goals as goal

pub returns : goal.returns
returns c =
    let message = subst (λ (m : Bytes). Pushed c.push_byte.new.self m c.push-2.new.output) c.of_numbers.ensures.message c.push-2.ensures in
    pushed_then c.push.ensures
    (pushed_then c.push_number.ensures
    (pushed_then c.push_number-2.ensures
    (pushed_then c.push_number-3.ensures (pushed_then c.push_byte.ensures (pushed_then message c.push_byte-2.ensures)))))
