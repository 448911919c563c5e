use Rattle.std.proofs.Common.{◌≡◌, false, ◌&&◌, take}
use Rattle.std.specs.List.{list_any, zip}
use Rattle.std.specs.Ordering.{int_eq}
use Rattle.ft_mean.specs.meaning.Value.{value, truth}
use Rattle.ft_mean.proofs.cells.has_entry.Given as goal

abbrev pub invariant-loop-at : goal.invariant-loop-at
invariant-loop-at g l = list_any (λ c. truth (g.L.Look.view l.look) c.0 && int_eq l.wanted (value (g.L.Look.view l.look) c.1))
    (take l.at (zip l.conds l.terms)) ≡ false
