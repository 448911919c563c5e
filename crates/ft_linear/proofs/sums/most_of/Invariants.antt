use Rattle.std.proofs.Common.{◌≡◌, ◌≤◌, ◌*◌, take}
use Rattle.std.specs.Prelude.{unsigned_abs}
use Rattle.ft_linear.specs.summing.Sizes.{product_most}
use Rattle.ft_linear.specs.meaning.Form.{most}
use Rattle.ft_linear.proofs.sums.most_of.Given as goal

abbrev pub invariant-factors : goal.invariant-factors
invariant-factors l = (l.total ≡ most l.spans (take l.at l.factors)) × (unsigned_abs l.total ≤ product_most * l.at)
