-- What `name_part` promises, in numbers.
use Rattle.std.proofs.Common.{length, arith}
use Rattle.spec_answers.specs.Answers.{name}
use Rattle.serduzhap_c.proofs.Stores.{uncut_part}
use Rattle.serduzhap_c.proofs.Sizes.{part_small}
use Rattle.serduzhap_c.proofs.serduzhap_name.Goals as goal

pub returns : goal.returns
returns c =
    let a = c.args in
    uncut_part (name a.text.now (length a.work.now) a.i) _ c.name_part-part.ensures.0 (omega arith) c.put.ensures (part_small a.text.now (length a.work.now) a.i)
