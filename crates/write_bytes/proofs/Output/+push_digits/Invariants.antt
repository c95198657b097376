-- The number of digits that are left.
use Rattle.write_bytes.proofs.Output.+push_digits.Given as goal

abbrev pub decreases-push_digits : goal.decreases-push_digits
decreases-push_digits l = l.left
