-- It looks at the first parameter, if there is one.
use Rattle.std.proofs.Common.{rules}
use Rattle.walk_judge.proofs.First.{first_lacks}
use Rattle.walk_judge.proofs.lacks_self.Goals as goal

pub returns : goal.returns
returns c = first_lacks _ c.params.result c.next.new.self c.next.result c.is_none_or.result c.params.ensures c.next.ensures.steps (search rules)
