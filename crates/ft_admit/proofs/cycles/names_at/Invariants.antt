use Rattle.std.proofs.Common.{◌≡◌, [], take, map}
use Rattle.std.specs.Prelude.{slice_index_or}
use Rattle.ft_admit.proofs.cycles.names_at.Given as goal

abbrev pub invariant-loop-number : goal.invariant-loop-number
invariant-loop-number l = l.list ≡ map (λ n. slice_index_or l.names n []) (take l.number-index l.numbers)
