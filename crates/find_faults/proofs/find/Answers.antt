-- A tree's faults are listed, or no slot has one.
use Rattle.std.proofs.Common.{rules, sym, ◌∙◌, length}
use Rattle.find_faults.proofs.Found.{finds_faults, finds_none}
use Rattle.find_faults.proofs.find.Goals as goal

pub returns-then-not-any_fault : goal.returns-then-not-any_fault
returns-then-not-any_fault c =
    finds_none c.args.text.now (length c.args.work.now) c.in_ok-tree.ensures (λ i. search rules) c.walk.ensures (sym c.any_fault.ensures ∙ c.if-not-any_fault.true)

pub returns : goal.returns
returns c =
    finds_faults c.args.text.now (length c.args.work.now) c.in_ok-tree.ensures (λ i. search rules) c.walk.ensures c.list_faults.ensures.0 c.list_faults.ensures.1
