-- Five pushes, one after the other.
use Rattle.write_bytes.proofs.Pushed.{pushed_then}
use Rattle.report_messages.proofs.Message.push.Goals as goal

pub returns : goal.returns
returns c = pushed_then c.push.ensures (pushed_then c.push-2.ensures (pushed_then c.push-3.ensures (pushed_then c.push-4.ensures c.push-5.ensures)))
