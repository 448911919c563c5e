use Rattle.std.proofs.Common.{rules, FitsSigned, ◌≡◌, w64, to_z, of_z, ◌∙◌, sym, subst}
use Rattle.std.proofs.lemmas.Int.{to_z-of_z}
use Rattle.ft_claims.specs.meaning.Forms.{Rises, times_factors}
use Rattle.ft_claims.proofs.RisingLemmas.{times-rise}
use Rattle.ft_claims.proofs.sums.times.Goals as goal

pub invariant_of-result : goal.invariant_of-result
invariant_of-result c =
    let fits : FitsSigned w64 c.args.by = search rules in
    let same : to_z w64 (of_z w64 c.args.by) ≡ c.args.by = to_z-of_z w64 c.args.by fits in
    subst (Rises 0) (sym (c.in_ok-factors.ensures ∙ (λ i. times_factors (same i) (c.as_slice.ensures i))))
    (times-rise c.args.by c.form.inside.factors c.form.invariant)
