use Rattle.std.proofs.Common.{take}
use Rattle.std.specs.List.{flat_map}
use Rattle.ft_core.specs.walk.Gathering.{Adds}
use Rattle.ft_core.specs.meaning.Reads.{cond_reads}
use Rattle.ft_core.proofs.gathering.add_conds.Given as goal

abbrev pub invariant-loop-cond : goal.invariant-loop-cond
invariant-loop-cond l = Adds l.counts.vars l.counts.memories (flat_map cond_reads (take l.cond-index l.conds)) l.initial.items l.items
