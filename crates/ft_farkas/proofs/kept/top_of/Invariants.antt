use Rattle.std.proofs.Common.{◌≤◌}
use Rattle.ft_farkas.specs.meaning.Rows.{row_of}
use Rattle.ft_farkas.specs.meaning.Fractions.{IsBelow}
use Rattle.ft_farkas.proofs.kept.top_of.Given as goal

abbrev pub invariant-loop-top : goal.invariant-loop-top
invariant-loop-top l = (l.top ≤ l.unknowns) × IsBelow l.unknowns l.top (row_of l.row)

abbrev pub decreases-loop-top : goal.decreases-loop-top
decreases-loop-top l = l.top
