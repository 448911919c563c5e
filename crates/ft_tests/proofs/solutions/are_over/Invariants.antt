use Rattle.std.proofs.Common.{take, All}
use Rattle.ft_diff.specs.meaning.Differences.{IsOver}
use Rattle.ft_tests.proofs.solutions.are_over.Given as goal

-- the lines before this one are over the area
abbrev pub invariant-loop-line : goal.invariant-loop-line
invariant-loop-line l = All (IsOver l.count) (take l.line-index l.list)
