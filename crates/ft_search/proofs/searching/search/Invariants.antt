use Rattle.std.proofs.Common.{◌≡◌, ◌-◌, length}
use Rattle.ft_search.specs.searching.Sizes.{nodes_for}
use Rattle.ft_search.specs.searching.Space.{IsUnderWay}
use Rattle.ft_search.proofs.searching.search.Given as goal

abbrev pub invariant-parts : goal.invariant-parts
invariant-parts l = record {
  way : IsUnderWay l.formula l.area.spans l.room l.counts;
  budget : l.room.budget ≡ l.initial.room.budget;
  splits : l.room.splits ≡ l.initial.room.splits;
}

abbrev pub decreases-parts : goal.decreases-parts
decreases-parts l = nodes_for l.initial.room.budget - length l.room.nodes.items
