use Rattle.std.proofs.Common.{rules, FitsSigned, ◌≡◌, ◌∙◌, ap, w64, to_z, of_z, sym, subst, IfOk, List, [], map, ◌*ℤ◌, pos}
use Rattle.std.specs.Ordering.{int_eq}
use Rattle.std.proofs.lemmas.Bool.{cond-false}
use Rattle.std.proofs.lemmas.Int.{to_z-of_z}
use Rattle.ft_linear.specs.meaning.Form.{Factor}
use Rattle.ft_claims.proofs.MergeLemmas.{some}
use Rattle.ft_claims.proofs.sums.times_factors.Goals as goal

pub returns : goal.returns
returns c =
    let fits : FitsSigned w64 c.args.by = search rules in
    let same : to_z w64 (of_z w64 c.args.by) ≡ c.args.by = to_z-of_z w64 c.args.by fits in
    subst (λ (fs : List Factor). IfOk c.scaled.result (λ list. list ≡ fs))
    (ap (λ z. map (λ f. (f.0, z *ℤ f.1)) c.args.factors.now) same
    ∙ sym (cond-false (int_eq c.args.by (pos 0)) [] (map (λ f. (f.0, c.args.by *ℤ f.1)) c.args.factors.now)
    (some c.args.by (λ e. c.if-by-eq0.false (ap (of_z w64) e))))) c.scaled.ensures
