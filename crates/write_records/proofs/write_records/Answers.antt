-- One record more is written after those before it.
use Rattle.std.proofs.Common.{arith}
use Rattle.write_records.proofs.OneByOne.{turn}
use Rattle.write_records.proofs.write_records.Goals as goal

pub loop-j-preserved : goal.loop-j-preserved
loop-j-preserved c =
    let a = c.args in
    turn a.text.now a.work.now a.out.now c.loop-j.out c.loop-j.j (omega arith) c.loop-j.invariant c.numbers_at.ensures c.put.ensures
