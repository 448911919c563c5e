use Rattle.std.proofs.Common.{◌≡◌, map}
use Rattle.std.specs.List.{range_with_len}
use Rattle.ft_mean.specs.judge.Scope.{kinds_of}
use Rattle.ft_mean.specs.meaning.Reading.{reading_of, before}
use Rattle.ft_mean.proofs.telling.row_before.Given as goal

abbrev pub invariant-loop-variable : goal.invariant-loop-variable
invariant-loop-variable l = l.row ≡ map (before l.tables (reading_of l.tables (kinds_of l.scope) l.scans) l.scan)
    (range_with_len 0 l.variable)
