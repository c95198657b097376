-- The digits of a tenth are pushed before the last digit.
use Rattle.write_bytes.proofs.Pushed.{pushed_nothing, pushed_then}
use Rattle.write_bytes.proofs.Digits.{digits_none, digits_more}
use Rattle.write_bytes.proofs.Output.+push_digits.Goals as goal

pub returns-then-left-eq0 : goal.returns-then-left-eq0
returns-then-left-eq0 t c = rw (digits_none c.args.left c.args.n c.if-left-eq0.true) (pushed_nothing c.args.self.now)

pub returns : goal.returns
returns t c =
    rw (digits_more c.args.left c.args.n c.if-left-eq0.false c.if-n-lt10.false) (pushed_then c.push_digits.ensures c.push_byte-2.ensures)
