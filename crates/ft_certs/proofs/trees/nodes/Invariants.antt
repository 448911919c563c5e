use Rattle.std.proofs.Common.{◌≡◌, ◌≤◌, ◌+◌, ◌++◌, ℕ, List, length}
use Rattle.std.specs.List.{All}
use Rattle.ft_cert.specs.declared.node.CertNode.{CertNode}
use Rattle.ft_cert.specs.prefix.Row.{are_trees}
use Rattle.ft_certs.specs.meaning.Text.{IsNode, nodes_text}
use Rattle.ft_certs.specs.building.Pieces.{Rows}
use Rattle.ft_certs.specs.building.Stuck.{Stuck}
use Rattle.ft_certs.proofs.trees.nodes.Given as goal

-- the nodes that were read, with so many trees missing; where a reader of these is stuck, so is one of all
abbrev pub invariant-nodes : goal.invariant-nodes
invariant-nodes l =
    All IsNode l.nodes × (l.initial.rest ≡ nodes_text l.nodes ++ l.rest)
    × ((ms : List CertNode) → are_trees 1 (l.nodes ++ ms) ≡ are_trees l.missing ms)
    × (l.missing + length l.rest ≤ 1 + length l.initial.rest)
    × ((left : ℕ) → Stuck (Rows l.missing) l.rest left → Stuck (Rows 1) l.initial.rest left)

abbrev pub decreases-nodes : goal.decreases-nodes
decreases-nodes l = length l.rest
