-- The agenda is laid out from the counts, and the turns lead to the reading's answer. The buffer is the one that the agenda had.
use Rattle.std.proofs.Common.{arith, Ok, Err, rules}
use Rattle.std.proofs.lemmas.Result.{err_from_is_err_and}
use Rattle.read_tree.specs.ReaderModel.{machine_of}
use Rattle.read_tree.proofs.Answered.{rest_answers}
use Rattle.read_tree.proofs.rest.Goals as goal

pub returns-in_err-run : goal.returns-in_err-run
returns-in_err-run c =
    let h = c.requires in
    let p = err_from_is_err_and c.from_residual.result c.from_residual.ensures.1 in
    rw (p.1, p.2) (rest_answers _ h.in_limits.0 h.in_limits.1 h.is_first c.clear.ensures (c.push.ensures.stands (omega arith))
    (c.push-2.ensures.stands (omega (arith, c.push.ensures.few))) _ (Err c.in_err-run.field-0.0) c.in_err-run.ensures.turns tt)

pub returns : goal.returns
returns c =
    let h = c.requires in
    rw (c.answer.ensures, c.in_ok-run.ensures.same_text) (rest_answers _ h.in_limits.0 h.in_limits.1 h.is_first c.clear.ensures
    (c.push.ensures.stands (omega arith)) (c.push-2.ensures.stands (omega (arith, c.push.ensures.few)))
    _ (Ok (machine_of c.run.new.self)) c.in_ok-run.ensures.turns (search rules))
