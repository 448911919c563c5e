use Rattle.ft_search.specs.searching.Single.{NoneBelow}
use Rattle.ft_search.proofs.halving.halving.Given as goal

abbrev pub invariant-loop-atom : goal.invariant-loop-atom
invariant-loop-atom l = NoneBelow l.formula l.part l.atom
