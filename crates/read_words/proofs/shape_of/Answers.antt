-- Past the last row there is no word.
use Rattle.std.proofs.Common.{arith, ◌∙◌, ◌≤◌}
use Rattle.read_words.proofs.WordPlaces.{shape_past}
use Rattle.read_words.proofs.shape_of.Goals as goal

pub returns-in_default : goal.returns-in_default
returns-in_default c = let l : 29 ≤ c.args.kind = omega arith in c.row-in_default.ensures ∙ shape_past c.args.kind l
