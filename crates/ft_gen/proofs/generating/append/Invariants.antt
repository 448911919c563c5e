use Rattle.std.proofs.Common.{◌≡◌, ◌++◌}
use Rattle.ft_gen.proofs.generating.append.Given as goal

abbrev pub invariant-loop-item : goal.invariant-loop-item
invariant-loop-item l = l.items ≡ l.initial.items ++ l.yielded
