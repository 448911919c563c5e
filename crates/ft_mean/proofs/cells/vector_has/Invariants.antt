use Rattle.std.proofs.Common.{◌≡◌, false, ◌&&◌, take}
use Rattle.std.specs.Prelude.{◌==◌}
use Rattle.std.specs.List.{list_any, zip}
use Rattle.ft_mean.specs.judge.Seen.{gives_in}
use Rattle.ft_mean.proofs.cells.vector_has.Given as goal

abbrev pub invariant-loop-at : goal.invariant-loop-at
invariant-loop-at g l = list_any (λ r. (r.0 == l.variable) && gives_in (g.L.Look.view l.look) l.wanted l.columns r.1)
    (take l.at (zip l.targets l.terms)) ≡ false
