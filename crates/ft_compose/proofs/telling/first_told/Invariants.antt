use Rattle.std.proofs.Common.{◌≡◌, drop, length}
use Rattle.std.specs.List.{find}
use Rattle.ft_compose.specs.building.Deciding.{is_told_at}
use Rattle.ft_compose.proofs.telling.first_told.Given as goal

abbrev pub invariant-loop-at : goal.invariant-loop-at
invariant-loop-at l = find (is_told_at l.tables l.frame (length l.spans) l.variable l.names l.grid) (drop l.at l.places)
    ≡ find (is_told_at l.tables l.frame (length l.spans) l.variable l.names l.grid) l.places
