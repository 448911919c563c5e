use Rattle.ft_oblige.proofs.TriedLemmas.{AreFull}
use Rattle.ft_oblige.proofs.trying.have_values.Given as goal

abbrev pub invariant-loop-span : goal.invariant-loop-span
invariant-loop-span l = AreFull l.spans l.span-index
