use Rattle.std.proofs.Common.{◌≡◌, ◌++◌, take}
use Rattle.std.specs.List.{flat_map, zip}
use Rattle.ft_report.specs.meaning.States.{value_line}
use Rattle.ft_report.proofs.states.add_lines.Given as goal

abbrev pub invariant-loop-at : goal.invariant-loop-at
invariant-loop-at l = l.text ≡ l.fn.text ++ flat_map (λ entry. value_line entry.0 entry.1) (take l.at (zip l.labels l.values))
