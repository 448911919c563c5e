use Rattle.std.proofs.Common.{◌≡◌, map, take}
use Rattle.ft_claims.specs.meaning.Areas.{number_by, renumber}
use Rattle.ft_claims.proofs.numbering.+renumber.Given as goal

abbrev pub invariant-all_by-loop-part : goal.invariant-all_by-loop-part
invariant-all_by-loop-part l = l.list ≡ map (renumber (number_by l.numbers)) (take l.part-index l.parts)
