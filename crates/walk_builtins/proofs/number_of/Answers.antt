-- Each call of the closure compares a name that is left with the name that is sought.
use Rattle.std.proofs.Common.{rules}
use Rattle.std.proofs.lemmas.Iterator.Search.{position_from_yields_List}
use Rattle.std.proofs.lemmas.Iterator.Consumers.{YieldsList-from_first}
use Rattle.spec_text.specs.Bytes.{same}
use Rattle.walk_builtins.specs.Table.{names}
use Rattle.walk_builtins.specs.Cut.{names_left}
use Rattle.walk_builtins.proofs.Search.{same_bytes, number_found}
use Rattle.walk_builtins.proofs.number_of.Goals as goal

pub returns : goal.returns
returns c =
    let x = c.args.name.now in
    number_found x _
    (position_from_yields_List (same x) c.position.new.self _ _ c.position.ensures.ran (YieldsList-from_first (λ y. y.now) names_left names c.names.ensures.cut)
    (λ y b q k. search (rules, same_bytes)))
