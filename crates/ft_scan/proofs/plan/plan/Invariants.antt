use Rattle.ft_scan.specs.steps.Planning.{IsSoFar}
use Rattle.ft_scan.proofs.plan.plan.Given as goal

abbrev pub invariant-items : goal.invariant-items
invariant-items l = IsSoFar l.tables l.side l.order l.item-index l.planned
