-- What `check` promises, its answer in numbers.
use Rattle.std.proofs.Common.{length, arith}
use Rattle.serduzhap_c.proofs.Stores.{uncut, uncut_record}
use Rattle.serduzhap_c.proofs.Sizes.{check_small}
use Rattle.serduzhap_c.proofs.serduzhap_check.Goals as goal

pub returns-in-Ok-Some : goal.returns-in-Ok-Some
returns-in-Ok-Some c =
    let a = c.args in
    uncut_record _ _ (rw c.in-Ok-Some.field-0-is at c.in-Ok-Some.ensures) (omega arith) c.put-in-Ok-Some.ensures (check_small a.text.now (length a.work.now))

pub returns-in-Err : goal.returns-in-Err
returns-in-Err c =
    let a = c.args in
    uncut 7 _ c.in-Err.ensures (omega arith) (rw c.number.ensures at c.put-in-Err.ensures) (check_small a.text.now (length a.work.now))
