use Rattle.std.specs.Prelude.{◌≡◌, ◌≤◌, ◌+◌, drop}
use Rattle.ft_cert.specs.prefix.Row.{are_trees}
use Rattle.ft_cert.proofs.cert.is_whole.Given as goal

abbrev pub invariant-loop-node : goal.invariant-loop-node
invariant-loop-node l = record {
  same : are_trees 1 l.nodes ≡ are_trees l.missing (drop l.node-index l.nodes);
  few : l.missing ≤ l.node-index + 1;
}
