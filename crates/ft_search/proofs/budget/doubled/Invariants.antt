use Rattle.std.proofs.Common.{◌≡◌, ◌≤◌, ◌*◌, ◌^◌}
use Rattle.ft_search.proofs.budget.doubled.Given as goal

abbrev pub invariant-loop-atom : goal.invariant-loop-atom
invariant-loop-atom l = record {
  product : l.choices ≡ l.count * 2 ^ l.atom;
  small : l.choices ≤ l.limit;
}
