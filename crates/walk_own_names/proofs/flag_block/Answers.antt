-- What each of the three loops does at a row, and which row it takes next.
use Rattle.std.proofs.Common.{rules, ap, ◌∙◌}
use Rattle.walk_own_names.specs.OwnNamesModel.{noted, forgot, row_binds, next_binding, all_bindings, row_flagged, next_in_block, all_flagged}
use Rattle.walk_own_names.proofs.Ways.{next_on, block_on}
use Rattle.walk_own_names.proofs.flag_block.Goals as goal

pub returns : goal.returns
returns c =
    let a = c.args in
    c.each_row-3.ensures next_binding (row_binds forgot) next_on (λ v i j p. search rules) (λ v w i p. search rules)
    ∙ ap (all_bindings forgot a.first a.stop)
    (c.each_row-2.ensures next_in_block (row_flagged a.b) block_on (λ v i j p. search rules) (λ v w i p. search rules)
    ∙ ap (all_flagged a.b a.first a.stop) (c.each_row.ensures next_binding (row_binds (noted a.b)) next_on (λ v i j p. search rules) (λ v w i p. search rules)))
