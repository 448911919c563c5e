use Rattle.std.proofs.Common.{◌≡◌, true, take}
use Rattle.std.specs.List.{list_all}
use Rattle.ft_mean.specs.meaning.Value.{truth}
use Rattle.ft_scan.proofs.allowing.all_hold.Given as goal

abbrev pub invariant-loop-cond : goal.invariant-loop-cond
invariant-loop-cond g l = list_all (truth (g.L.Look.view l.look)) (take l.cond-index l.conds) ≡ true
