use Rattle.std.proofs.Common.{◌≡◌, false, ◌&&◌, take}
use Rattle.std.specs.List.{list_any}
use Rattle.ft_core.specs.meaning.Grids.{is_section}
use Rattle.ft_mean.specs.judge.Seen.{grid_gives}
use Rattle.ft_mean.proofs.cells.is_defined.Given as goal

abbrev pub invariant-loop-table : goal.invariant-loop-table
invariant-loop-table g l = list_any (λ t. is_section t.section l.section && grid_gives (g.L.Look.view l.look) l.variable l.wanted t.grid)
    (take l.table-index l.tables.tables) ≡ false
