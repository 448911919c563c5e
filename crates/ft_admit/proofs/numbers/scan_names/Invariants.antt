use Rattle.std.proofs.Common.{◌≡◌, take}
use Rattle.ft_admit.specs.meaning.Cycles.{scan_names}
use Rattle.ft_admit.proofs.numbers.scan_names.Given as goal

abbrev pub invariant-loop-item : goal.invariant-loop-item
invariant-loop-item l = l.names ≡ scan_names (take l.item-index l.items)
