use Rattle.std.proofs.Common.{take}
use Rattle.std.specs.List.{flat_map}
use Rattle.ft_core.specs.walk.Gathering.{Adds}
use Rattle.ft_core.specs.meaning.Reads.{term_reads}
use Rattle.ft_core.proofs.gathering.add_term_rows.Given as goal

abbrev pub invariant-loop-row : goal.invariant-loop-row
invariant-loop-row l = Adds l.counts.vars l.counts.memories (flat_map (flat_map term_reads) (take l.row-index l.rows)) l.initial.items
    l.items
