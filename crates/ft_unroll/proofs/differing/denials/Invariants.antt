use Rattle.std.proofs.Common.{◌≡◌, map, take}
use Rattle.ft_core.specs.declared.tables.Section.TheVariants as section
use Rattle.ft_claims.specs.declared.claim.Claim.TheVariants as claim
use Rattle.ft_claims.specs.meaning.Parts.{definition}
use Rattle.ft_unroll.proofs.differing.denials.Given as goal

abbrev pub invariant-loop-variable : goal.invariant-loop-variable
invariant-loop-variable l = l.claims
    ≡ map (λ x. claim.Not (definition l.tables section.Out l.frame x)) (take l.variable-index l.places)
