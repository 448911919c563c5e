use Rattle.std.proofs.Common.{◌≡◌, ◌++◌, map, take}
use Rattle.ft_mean.specs.laws.Moves.{span_of}
use Rattle.ft_oblige.proofs.spanning.add_kept.Given as goal

abbrev pub invariant-loop-memory : goal.invariant-loop-memory
invariant-loop-memory l = l.spans ≡ l.initial.spans ++ map span_of (take l.memory-index l.memories)
