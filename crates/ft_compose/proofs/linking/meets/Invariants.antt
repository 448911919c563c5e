use Rattle.std.proofs.Common.{◌≡◌, take}
use Rattle.std.specs.List.{list_any}
use Rattle.ft_compose.specs.building.Rounds.{is_reached}
use Rattle.ft_compose.proofs.linking.meets.Given as goal

abbrev pub invariant-loop-name : goal.invariant-loop-name
invariant-loop-name l = l.met ≡ list_any (is_reached l.reached) (take l.name-index l.names)
