-- Each read adds what the reader gave.
use Rattle.std.proofs.Common.{rules, sym, subst}
use Rattle.std.specs.Io.KnownBytes.{Consumes}
use Rattle.std.proofs.KnownBytes.{Consumes-trans}
use Rattle.program_input.proofs.Bytes.{take-read_more}
use Rattle.program_input.proofs.read_full.Goals as goal

pub loop-done-preserved : goal.loop-done-preserved
loop-done-preserved g c =
    let kept = c.loop-done.invariant in
    let read = c.in_ok-n.ensures in
    let joined = take-read_more c.loop-done.done _ c.in_ok-n.n c.loop-done.to c.read.new.buf kept.0 read.bound.0 in
    (search rules, subst (Consumes _ _) (sym joined) (Consumes-trans _ _ _ _ _ kept.1 read.bytes.0))
