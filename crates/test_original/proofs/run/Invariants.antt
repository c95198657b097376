-- Text after text: fewer bytes are left after each.
use Rattle.std.proofs.Common.{length}
use Rattle.test_original.proofs.run.Given as goal

abbrev pub decreases-loop-rest : goal.decreases-loop-rest
decreases-loop-rest g l = length l.rest
