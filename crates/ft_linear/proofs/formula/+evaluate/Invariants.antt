use Rattle.std.proofs.Common.{◌≡◌, true, false, take}
use Rattle.std.specs.List.{list_all, list_any}
use Rattle.ft_linear.specs.meaning.Form.{values_at}
use Rattle.ft_linear.specs.meaning.Formula.{atom_at}
use Rattle.ft_linear.specs.meaning.Truth.{truth}
use Rattle.ft_linear.proofs.formula.+evaluate.Given as goal

abbrev pub invariant-all_true-loop-part : goal.invariant-all_true-loop-part
invariant-all_true-loop-part l = list_all (truth (atom_at l.atoms (values_at l.values))) (take l.part-index l.parts) ≡ true

abbrev pub invariant-any_true-loop-part : goal.invariant-any_true-loop-part
invariant-any_true-loop-part l = list_any (truth (atom_at l.atoms (values_at l.values))) (take l.part-index l.parts) ≡ false
