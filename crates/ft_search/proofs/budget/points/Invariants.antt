use Rattle.std.proofs.Common.{◌≡◌, ◌≤◌, ◌*◌, drop}
use Rattle.ft_search.specs.laws.Budget.{AreNonempty, points_in}
use Rattle.ft_search.proofs.budget.points.Given as goal

abbrev pub invariant-loop-span : goal.invariant-loop-span
invariant-loop-span l = record {
  product : l.count * points_in (drop l.span-index l.spans) ≡ points_in l.spans;
  nonempty : AreNonempty (drop l.span-index l.spans) → AreNonempty l.spans;
  small : l.count ≤ l.limit;
}
