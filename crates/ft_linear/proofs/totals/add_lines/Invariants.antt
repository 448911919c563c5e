use Rattle.std.proofs.Common.{◌*◌, take}
use Rattle.ft_linear.specs.summing.Sizes.{line_product_most}
use Rattle.ft_linear.specs.summing.Totals.{AreTotals, AreWithin}
use Rattle.ft_linear.proofs.totals.add_lines.Given as goal

abbrev pub invariant-lines : goal.invariant-lines
invariant-lines l = AreTotals l.formula l.part (take l.at l.lines) l.totals × AreWithin (line_product_most * l.at) l.totals
