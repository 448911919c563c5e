use Rattle.std.proofs.Common.{◌≡◌, ◌++◌, map, take}
use Rattle.ft_claims.specs.meaning.Spans.{bit_span}
use Rattle.ft_oblige.proofs.covering.add_bits.Given as goal

abbrev pub invariant-loop-memory : goal.invariant-loop-memory
invariant-loop-memory l = l.spans ≡ l.initial.spans ++ map bit_span (take l.memory-index l.memories)
