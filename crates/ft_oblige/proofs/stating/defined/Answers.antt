use Rattle.std.proofs.Common.{◌∙◌, [], ◌∷◌}
use Rattle.ft_claims.specs.declared.claim.Claim.TheVariants as claim
use Rattle.ft_claims.specs.meaning.Claims.{equal}
use Rattle.ft_oblige.proofs.stating.defined.Goals as goal

pub returns : goal.returns
returns c =
    let same = c.in_ok-same.ensures ∙ (λ i. equal (c.in_ok-name.ensures i) (c.in_ok-value.ensures i)) in
    c.in_ok-whole.ensures ∙ (λ i. claim.And (c.args.condition ∷ same i ∷ []))
