use Rattle.std.proofs.Common.{take}
use Rattle.std.specs.Prelude.{◌==◌}
use Rattle.std.specs.List.{list_any}
use Rattle.ft_scan.specs.steps.Mapping.{IsFilled}
use Rattle.ft_scan.proofs.mapping.put_rows.Given as goal

abbrev pub invariant-loop-row : goal.invariant-loop-row
invariant-loop-row g l = IsFilled l.tables l.section (g.L.Look.view l.look) (λ x. list_any (λ target. target == x) (take l.row l.targets))
    l.initial.image l.image
