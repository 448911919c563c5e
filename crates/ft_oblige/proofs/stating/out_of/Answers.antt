use Rattle.std.proofs.Common.{◌∙◌, [], ◌∷◌, rules, w64, FitsSigned}
use Rattle.std.proofs.lemmas.Int.{to_z-of_z}
use Rattle.ft_claims.specs.declared.claim.Claim.TheVariants as claim
use Rattle.ft_claims.specs.declared.claim.Sym.TheVariants.{Num}
use Rattle.ft_oblige.proofs.stating.out_of.Goals as goal

pub returns : goal.returns
returns c =
    let fits : FitsSigned w64 c.lo.result = search rules in
    let fits_high : FitsSigned w64 c.hi.result = search rules in
    let lo = to_z-of_z w64 c.lo.result fits ∙ c.lo.ensures.value in
    let hi = to_z-of_z w64 c.hi.result fits_high ∙ c.hi.ensures.value in
    let high = c.in_ok-high.ensures ∙ (λ i. claim.Not (claim.Le (c.in_ok-sym_of-2.ensures i) (Num (hi i)))) in
    c.in_ok-whole.ensures ∙ (λ i. claim.Or (claim.Lt (c.in_ok-sym_of.ensures i) (Num (lo i)) ∷ high i ∷ []))
