-- Up to here each number is written, or 0 past their end.
use Rattle.std.proofs.Common.{◌≡◌, ℕ, ◌<◌, ◌%◌, get_or}
use Rattle.serduzhap_c.proofs.put.Given as goal

abbrev pub invariant-loop-i : goal.invariant-loop-i
invariant-loop-i l = (k : ℕ) → k < l.i → get_or l.answer k 0 ≡ get_or l.numbers k 0 % 4_294_967_296
