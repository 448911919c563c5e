use Rattle.std.proofs.Common.{◌≡◌, ◌++◌, take}
use Rattle.std.specs.List.{flat_map}
use Rattle.ft_certs.specs.meaning.Text.{end_line, node_text}
use Rattle.ft_certs.proofs.writing.add_nodes.Given as goal

abbrev pub invariant-nodes : goal.invariant-nodes
invariant-nodes l = l.text ≡ l.initial.text ++ flat_map (λ n. node_text n ++ end_line) (take l.node-index l.nodes)
