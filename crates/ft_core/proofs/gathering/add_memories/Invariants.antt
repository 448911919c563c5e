use Rattle.std.proofs.Common.{◌≡◌, ◌++◌, take, map, Some}
use Rattle.ft_core.specs.walk.Gathering.{items_in}
use Rattle.ft_core.specs.meaning.Reads.{memory_reads}
use Rattle.ft_core.proofs.gathering.add_memories.Given as goal

abbrev pub invariant-loop-memory : goal.invariant-loop-memory
invariant-loop-memory l = l.lists ≡ l.initial.lists ++ map (λ memory. items_in l.counts.vars l.counts.memories (memory_reads (Some memory)))
    (take l.memory-index l.memories)
