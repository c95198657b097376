-- A turn of the loop does one row; past the last there is none to do.
use Rattle.std.proofs.Common.{sym, ◌∙◌}
use Rattle.work_rows.proofs.Loops.{rows_end, rows_turn}
use Rattle.walk_own_names.proofs.each_row.Goals as goal

pub loop-at-preserved : goal.loop-at-preserved
loop-at-preserved g c n f on next row =
    let loop = c.loop-at in
    rows_turn n f on loop.at c.args.stop _ loop.work _ c.loop-at-test.true (next _ _ _ c.next-after.ensures) (row _ _ _ c.row.ensures) ∙ loop.invariant n f on next row

pub returns : goal.returns
returns g c n f on next row = sym (rows_end n f c.loop-at.at c.args.stop c.loop-at.work c.loop-at-test.false) ∙ c.loop-at.invariant n f on next row
