use Rattle.std.proofs.Common.{◌≡◌, length}
use Rattle.ft_scan.specs.steps.Opening.{AllStart}
use Rattle.ft_scan.proofs.opening.runs.Given as goal

abbrev pub invariant-loop-at : goal.invariant-loop-at
invariant-loop-at l = (length l.runs.items ≡ l.at) × AllStart l.tables l.at l.runs.items
