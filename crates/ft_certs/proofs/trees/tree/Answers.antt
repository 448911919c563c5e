use Rattle.ft_certs.proofs.TreeLemmas.{whole-tree}
use Rattle.ft_certs.proofs.trees.tree.Goals as goal

pub returns-in-None-clause-stopped : goal.returns-in-None-clause-stopped
returns-in-None-clause-stopped c =
    let t = whole-tree c.in_ok-nodes.nodes c.in_ok-nodes.ensures.read.0.0 in
    let none = rw c.in-None.is at c.in_ok-cert.ensures.none in
    absurd (none t.0 t.1 t.2)
