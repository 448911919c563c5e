use Rattle.std.proofs.Common.{take}
use Rattle.std.specs.List.{flat_map}
use Rattle.ft_core.specs.walk.Gathering.{Adds}
use Rattle.ft_core.specs.meaning.Reads.{term_reads}
use Rattle.ft_core.proofs.gathering.add_terms.Given as goal

abbrev pub invariant-loop-term : goal.invariant-loop-term
invariant-loop-term l = Adds l.counts.vars l.counts.memories (flat_map term_reads (take l.term-index l.terms)) l.initial.items l.items
