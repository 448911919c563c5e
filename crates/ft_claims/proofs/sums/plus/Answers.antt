use Rattle.std.proofs.Common.{◌∙◌, sym, subst}
use Rattle.ft_claims.specs.meaning.Forms.{Rises, with_factors}
use Rattle.ft_claims.proofs.RisingLemmas.{factors-rise}
use Rattle.ft_claims.proofs.sums.plus.Goals as goal

pub invariant_of-result : goal.invariant_of-result
invariant_of-result c =
    subst (Rises 0) (sym (c.in_ok-factors.ensures ∙ (λ i. with_factors (c.as_slice.ensures i) (c.as_slice-2.ensures i))))
    (factors-rise c.first.inside.factors c.second.inside.factors 0 c.first.invariant c.second.invariant)
