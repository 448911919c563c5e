use Rattle.std.proofs.Common.{take}
use Rattle.std.specs.List.{flat_map}
use Rattle.ft_core.specs.meaning.Reads.{cond_reads}
use Rattle.ft_oblige.specs.building.Finding.{Finds}
use Rattle.ft_oblige.proofs.reading.find_in_rows.Given as goal

abbrev pub invariant-loop-row : goal.invariant-loop-row
invariant-loop-row l = Finds (flat_map (flat_map cond_reads) (take l.row-index l.rows)) l.initial.found l.found
