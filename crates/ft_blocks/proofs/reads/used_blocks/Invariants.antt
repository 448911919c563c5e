use Rattle.std.proofs.Common.{◌≡◌, take, map}
use Rattle.ft_blocks.proofs.reads.used_blocks.Given as goal

abbrev pub invariant-loop-used : goal.invariant-loop-used
invariant-loop-used l = l.list ≡ map (λ used. used.0) (take l.used-index l.uses)
