use Rattle.std.proofs.Common.{ap, not}
use Rattle.ft_linear.specs.laws.Nodes.{truth-At, truth-Not, truth-And, truth-Or}
use Rattle.ft_linear.proofs.formula.+evaluate.Goals as goal

pub node_true-returns-in-At : goal.node_true-returns-in-At
node_true-returns-in-At t c = rw (c.in-At.is, truth-At) c.atom_true.ensures

pub node_true-returns-in-Not : goal.node_true-returns-in-Not
node_true-returns-in-Not t c = rw (c.in-Not.is, truth-Not, ← c.get.ensures) (ap not c.node_true.ensures)

pub node_true-returns-in-And : goal.node_true-returns-in-And
node_true-returns-in-And t c = rw (c.in-And.is, truth-And, ← c.as_slice.ensures) c.all_true.ensures

pub node_true-returns-in-Or : goal.node_true-returns-in-Or
node_true-returns-in-Or t c = rw (c.in-Or.is, truth-Or, ← c.as_slice-in-Or.ensures) c.any_true.ensures
