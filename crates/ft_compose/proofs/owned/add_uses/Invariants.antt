use Rattle.std.proofs.Common.{◌≡◌, ◌++◌, map, take}
use Rattle.ft_oblige.specs.meaning.Blocks.{use_claim}
use Rattle.ft_compose.proofs.owned.add_uses.Given as goal

abbrev pub invariant-loop-used : goal.invariant-loop-used
invariant-loop-used l = l.claims ≡ l.initial.claims ++ map (use_claim l.tables l.frame) (take l.used-index l.uses)
