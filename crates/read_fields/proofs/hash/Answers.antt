-- One byte more, and none left.
use Rattle.std.proofs.Common.{sym, ◌∙◌, drop-cons, add-one, drop_of_length-le}
use Rattle.read_fields.proofs.Fields.{hash_more, hash_none}
use Rattle.read_fields.proofs.hash.Goals as goal

pub loop-b-preserved : goal.loop-b-preserved
loop-b-preserved c =
    let s = c.args.name.now in
    let i = c.loop-b.b-index in
    (c.mixed-hash.ensures.bound, c.loop-b.invariant.1 ∙ rw (drop-cons s i 0 c.loop-b-test.true, hash_more, add-one) (rw c.mixed-hash.ensures.value))

pub returns-clause-value : goal.returns-clause-value
returns-clause-value c = sym (c.loop-b.invariant.1 ∙ rw (drop_of_length-le c.args.name.now c.loop-b-test.false) (hash_none c.loop-b.hash))
