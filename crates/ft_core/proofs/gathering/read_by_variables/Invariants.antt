use Rattle.std.proofs.Common.{take}
use Rattle.std.specs.List.{flat_map}
use Rattle.ft_core.specs.walk.Gathering.{Longer, items_in, table_reads_for}
use Rattle.ft_core.proofs.gathering.read_by_variables.Given as goal

abbrev pub invariant-loop-table : goal.invariant-loop-table
invariant-loop-table l = Longer (λ k. items_in l.counts.vars l.counts.memories (flat_map (table_reads_for k) (take l.table-index l.tables)))
    l.initial.lists.items l.lists.items
