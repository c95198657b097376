-- The loop's invariant: following the chain from the next row on finds what is to be found.
use Rattle.std.proofs.Common.{◌≡◌}
use Rattle.work_rows.specs.SameForms.{link_number}
use Rattle.read_names.specs.ChainsModel.{follow, found}
use Rattle.read_names.proofs.find.Given as goal

abbrev pub invariant-loop-next : goal.invariant-loop-next
invariant-loop-next l = follow (link_number l.next) l.text l.work (link_number l.next) l.name ≡ found l.text l.work l.hash l.name

abbrev pub decreases-loop-next : goal.decreases-loop-next
decreases-loop-next l = link_number l.next
