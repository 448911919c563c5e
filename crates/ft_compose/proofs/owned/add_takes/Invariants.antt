use Rattle.std.proofs.Common.{◌≡◌, ◌++◌, map, take}
use Rattle.ft_oblige.specs.meaning.Blocks.{take_claim}
use Rattle.ft_compose.proofs.owned.add_takes.Given as goal

abbrev pub invariant-loop-taken : goal.invariant-loop-taken
invariant-loop-taken l = l.claims ≡ l.initial.claims ++ map (take_claim l.tables l.frame) (take l.taken-index l.takes)
