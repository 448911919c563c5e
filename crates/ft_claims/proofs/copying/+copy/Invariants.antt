use Rattle.std.proofs.Common.{◌≡◌, take}
use Rattle.ft_claims.proofs.copying.+copy.Given as goal

abbrev pub invariant-copies_of_claims-loop-part : goal.invariant-copies_of_claims-loop-part
invariant-copies_of_claims-loop-part l = l.list ≡ take l.part-index l.parts
