use Rattle.ft_core.proofs.NumberingLemmas.{AreMoved}
use Rattle.ft_core.proofs.numbering.renumbered.Given as goal

abbrev pub invariant-loop-item : goal.invariant-loop-item
invariant-loop-item l = AreMoved l.numbers l.reads l.item l.lists
