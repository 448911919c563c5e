use Rattle.std.proofs.Common.{◌+◌, ◌*◌, ◌≤◌, length, take}
use Rattle.ft_types.specs.gathering.Gathered.{Gathers}
use Rattle.ft_types.specs.meaning.Targets.{targets}
use Rattle.ft_types.proofs.gathering.gather_items.Given as goal

abbrev pub invariant-loop-item : goal.invariant-loop-item
invariant-loop-item l = record {
  gathers : Gathers l.initial.titles l.titles l.initial.second l.second (targets (take l.item-index l.items));
  few : length l.titles ≤ length l.initial.titles + 32 * l.item-index;
}
