use Rattle.std.proofs.Common.{◌≡◌, map, take, None}
use Rattle.ft_linear.proofs.part.none_decided.Given as goal

abbrev pub invariant-loop-atom : goal.invariant-loop-atom
invariant-loop-atom l = l.decided ≡ map (λ atom. None) (take l.atom-index l.atoms)
