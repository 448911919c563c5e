use Rattle.std.proofs.Common.{◌≡◌, true, take}
use Rattle.std.specs.List.{list_all}
use Rattle.ft_linear.specs.meaning.Formula.{atoms_below}
use Rattle.ft_linear.proofs.formula.+has_atoms_below.Given as goal

abbrev pub invariant-have_atoms_below-loop-part : goal.invariant-have_atoms_below-loop-part
invariant-have_atoms_below-loop-part l = list_all (atoms_below l.count) (take l.part-index l.parts) ≡ true
