use Rattle.ft_core.specs.meaning.Reads.{grid_reads}
use Rattle.ft_oblige.proofs.CloseLemmas.{IsClosed}
use Rattle.ft_oblige.proofs.reading.found_by.Given as goal

abbrev pub invariant-loop-next : goal.invariant-loop-next
invariant-loop-next l = IsClosed l.tables (grid_reads l.grid) l.next l.found
