use Rattle.std.proofs.Common.{take}
use Rattle.std.specs.List.{flat_map}
use Rattle.ft_core.specs.meaning.Reads.{cond_reads}
use Rattle.ft_oblige.specs.building.Finding.{Finds}
use Rattle.ft_oblige.proofs.reading.find_in_all.Given as goal

abbrev pub invariant-loop-cond : goal.invariant-loop-cond
invariant-loop-cond l = Finds (flat_map cond_reads (take l.cond-index l.conds)) l.initial.found l.found
