use Rattle.std.proofs.Common.{◌≡◌, ◌++◌, drop}
use Rattle.ft_claims.specs.meaning.Coverage.{pairs}
use Rattle.ft_oblige.proofs.pairing.pairs.Given as goal

abbrev pub invariant-loop-at : goal.invariant-loop-at
invariant-loop-at l = l.list ++ pairs (drop l.at l.claims) ≡ pairs l.claims
