use Rattle.std.proofs.Common.{refl}
use Rattle.ft_linear.specs.laws.Nodes.{below-At, below-Not, below-And, below-Or}
use Rattle.ft_linear.proofs.formula.+has_atoms_below.Goals as goal

pub has_atoms_below-returns-in-At : goal.has_atoms_below-returns-in-At
has_atoms_below-returns-in-At t c = rw (c.in-At.is, below-At) refl

pub has_atoms_below-returns-in-Not : goal.has_atoms_below-returns-in-Not
has_atoms_below-returns-in-Not t c = rw (c.in-Not.is, below-Not, ← c.get.ensures) c.has_atoms_below.ensures

pub has_atoms_below-returns-in-And : goal.has_atoms_below-returns-in-And
has_atoms_below-returns-in-And t c = rw (c.in-And.is, below-And, ← c.as_slice.ensures) c.have_atoms_below.ensures

pub has_atoms_below-returns-in-Or : goal.has_atoms_below-returns-in-Or
has_atoms_below-returns-in-Or t c = rw (c.in-Or.is, below-Or, ← c.as_slice-in-Or.ensures) c.have_atoms_below-in-Or.ensures
