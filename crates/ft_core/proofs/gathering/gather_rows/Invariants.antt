use Rattle.std.proofs.Common.{take, ◌++◌}
use Rattle.std.specs.List.{flat_map, zip}
use Rattle.ft_core.specs.walk.Gathering.{Longer, if_target, items_in}
use Rattle.ft_core.specs.meaning.Reads.{term_reads}
use Rattle.ft_core.proofs.gathering.gather_rows.Given as goal

abbrev pub invariant-loop-at : goal.invariant-loop-at
invariant-loop-at l = Longer (λ k. flat_map (λ r. if_target r.0 (l.columns
    ++ items_in l.counts.vars l.counts.memories (flat_map term_reads r.1)) k) (take l.at (zip l.targets l.terms)))
    l.initial.lists.items l.lists.items
