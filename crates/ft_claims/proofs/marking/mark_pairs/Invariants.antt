use Rattle.std.proofs.Common.{◌≡◌, take}
use Rattle.ft_claims.specs.meaning.Areas.{pair_unknowns, with_marks}
use Rattle.ft_claims.proofs.marking.mark_pairs.Given as goal

abbrev pub invariant-loop-pair : goal.invariant-loop-pair
invariant-loop-pair l = l.marks ≡ with_marks l.initial.marks (pair_unknowns (take l.pair-index l.pairs))
