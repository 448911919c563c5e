use Rattle.std.proofs.Common.{◌≡◌, ◌≤◌, ◌*◌, take}
use Rattle.std.specs.Prelude.{unsigned_abs}
use Rattle.ft_linear.specs.summing.Sizes.{product_most}
use Rattle.ft_linear.specs.meaning.Form.{sum_at, values_at}
use Rattle.ft_linear.proofs.sums.sum_of.Given as goal

abbrev pub invariant-factors : goal.invariant-factors
invariant-factors l = (l.total ≡ sum_at (values_at l.values) (take l.at l.factors)) × (unsigned_abs l.total ≤ product_most * l.at)
