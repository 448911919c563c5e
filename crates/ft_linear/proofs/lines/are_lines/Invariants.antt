use Rattle.std.proofs.Common.{◌≡◌, true, take}
use Rattle.std.specs.List.{list_all}
use Rattle.ft_linear.specs.meaning.Rules.{is_line}
use Rattle.ft_linear.proofs.lines.are_lines.Given as goal

abbrev pub invariant-loop-line : goal.invariant-loop-line
invariant-loop-line l = list_all (is_line l.formula l.part) (take l.line-index l.lines) ≡ true
