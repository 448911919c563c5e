use Rattle.std.proofs.Common.{take}
use Rattle.std.specs.List.{list_any}
use Rattle.ft_core.specs.meaning.Grids.{is_for}
use Rattle.ft_scan.specs.steps.Mapping.{IsFilled}
use Rattle.ft_scan.proofs.mapping.map_row.Given as goal

abbrev pub invariant-loop-table : goal.invariant-loop-table
invariant-loop-table g l = IsFilled l.tables l.section (g.L.Look.view l.look)
    (λ x. list_any (is_for l.section x) (take l.table-index l.tables.tables)) l.initial.image l.image
