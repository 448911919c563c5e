use Rattle.std.proofs.Common.{◌≡◌, ◌++◌, map, take}
use Rattle.ft_claims.specs.meaning.Parts.{definition}
use Rattle.ft_unroll.proofs.sides.add_definitions.Given as goal

abbrev pub invariant-loop-variable : goal.invariant-loop-variable
invariant-loop-variable l = l.parts ≡ l.initial.parts ++ map (definition l.tables l.section l.frame) (take l.variable-index l.places)
