-- When all are written, they are the whole answer.
use Rattle.std.proofs.Common.{arith, sym}
use Rattle.serduzhap_c.proofs.Stores.{padded}
use Rattle.serduzhap_c.proofs.put.Goals as goal

pub returns : goal.returns
returns c =
    rw (sym c.loop-i.auto.answer) (padded _ _ _ (omega (arith, c.requires, c.loop-i.auto.answer)) (λ k l. c.loop-i.invariant k (omega arith)))
