-- Frame after frame: fewer bytes are left after each, and the call may be run again.
use Rattle.std.proofs.Common.{length}
use Rattle.test_frames.proofs.replay.Given as goal

abbrev pub invariant-loop-frame : goal.invariant-loop-frame
invariant-loop-frame g l = goal.F-IsAlwaysCallable g l.call

abbrev pub decreases-loop-frame : goal.decreases-loop-frame
decreases-loop-frame g l = length l.rest
