use Rattle.std.proofs.Common.{◌+◌, ◌≤◌, length, map, take}
use Rattle.ft_types.specs.gathering.Gathered.{Gathers}
use Rattle.ft_types.proofs.gathering.gather_rows.Given as goal

abbrev pub invariant-loop-row : goal.invariant-loop-row
invariant-loop-row l = record {
  gathers : Gathers l.initial.titles l.titles l.initial.second l.second (map (λ row. (l.section, row.target)) (take l.row-index l.rows));
  few : length l.titles ≤ length l.initial.titles + l.row-index;
}
