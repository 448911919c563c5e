use Rattle.std.proofs.Common.{◌∙◌, sym, ap}
use Rattle.ft_cert.specs.meaning.Tree.{nodes_of, is_closed}
use Rattle.ft_cert.proofs.TreeLemmas.{tree-closed, tree-nodes}
use Rattle.ft_cert.proofs.cert.Cert.nodes.Goals as goal

pub returns-clause-value : goal.returns-clause-value
returns-clause-value c = c.as_slice.ensures ∙ sym (tree-nodes c.self.inside.nodes c.self.invariant) ∙ ap nodes_of c.self.view_is

pub returns-clause-closed : goal.returns-clause-closed
returns-clause-closed c = ap is_closed (sym c.self.view_is) ∙ tree-closed c.self.inside.nodes c.self.invariant
