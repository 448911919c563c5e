use Rattle.std.proofs.Common.{◌∙◌, inl, inr, sym, ap, subst, ℕ, pos, List, slice_index_or, arith}
use Rattle.std.proofs.lemmas.Bool.{cases_eq}
use Rattle.ft_linear.specs.meaning.Form.{Factor}
use Rattle.ft_linear.specs.meaning.Rules.{factor_of, literal_form}
use Rattle.ft_search.specs.searching.Single.{LeavesHalf}
use Rattle.ft_search.proofs.HalvingLemmas.{own-factor}
use Rattle.ft_search.proofs.halving.by_form.Goals as goal

pub factors-preserved : goal.factors-preserved
factors-preserved c k s below half = elim (cases_eq k c.factors.factor-index) [
  | inl same ↦ c.in-None.ensures.none s
      (subst (λ (j : ℕ). LeavesHalf c.args.spans.now (literal_form c.args.value c.args.form.now)
      (slice_index_or c.factors-factor-items.result.now j (0, pos 0)).0 s) same half)
  | inr other ↦ c.factors.invariant k s (grind (arith, below, other)) half
]

pub returns-clause-none : goal.returns-clause-none
returns-clause-none c u s h half =
    let items = c.factors-factor-items.ensures.value in
    let (k, within, is) = own-factor u c.factors-factor-items.result.now
    (λ e. h (ap (λ (fs : List Factor). factor_of u fs) (sym items) ∙ e)) in
    c.factors.invariant k s (omega (arith, within))
    (subst (λ (v : ℕ). LeavesHalf c.args.spans.now (literal_form c.args.value c.args.form.now) v s) (sym is) half)
