use Rattle.std.proofs.Common.{◌≡◌, false, take}
use Rattle.std.specs.List.{list_any, zip}
use Rattle.ft_mean.specs.judge.Seen.{row_gives}
use Rattle.ft_mean.proofs.cells.normal_has.Given as goal

abbrev pub invariant-loop-at : goal.invariant-loop-at
invariant-loop-at g l = list_any (λ r. row_gives (g.L.Look.view l.look) l.wanted r.0 l.columns r.1) (take l.at (zip l.rows l.terms)) ≡ false
