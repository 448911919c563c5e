use Rattle.std.proofs.Common.{rules, ◌∙◌, [], ◌∷◌, sym, subst, set, w64, pos, ◌+ℤ◌, ◌*ℤ◌}
use Rattle.std.proofs.lemmas.Int.{to_z-of_z}
use Rattle.ft_linear.specs.meaning.Form.{values_at}
use Rattle.ft_linear.specs.summing.Totals.{AreAdded}
use Rattle.ft_linear.proofs.TotalLemmas.{one-added, small-one, within-added}
use mir.Val.{SFits}
use Rattle.ft_linear.proofs.totals.add_bound.Goals as goal

pub returns-clause-added : goal.returns-clause-added
returns-clause-added c =
    let ts = c.args.totals.now in
    let k = c.args.unknown in
    let fits : SFits w64 c.signed.result = search rules in
    let fits_factor : SFits w64 c.args.factor = search rules in
    let times = to_z-of_z w64 c.signed.result fits ∙ c.signed.ensures.value in
    let factor = to_z-of_z w64 c.args.factor fits_factor in
    subst (AreAdded ts (pos c.args.times) ((k, c.args.factor) ∷ []))
    (sym (c.add_at.ensures ∙ (λ i. set ts k (values_at ts k +ℤ (times i *ℤ factor i)))))
    (one-added ts k (pos c.args.times) c.args.factor c.requires.over)

pub returns-clause-small : goal.returns-clause-small
returns-clause-small c =
    within-added c.args.count c.args.totals.now c.add_at.new.totals (pos c.args.times) ((c.args.unknown, c.args.factor) ∷ [])
    c.requires.small c.requires.times (λ u. small-one u c.args.unknown c.args.factor c.requires.factor) (returns-clause-added c)
