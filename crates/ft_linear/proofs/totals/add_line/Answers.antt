use Rattle.std.proofs.Common.{rules, ◌∙◌, sym, ap, w64, ℤ, pos, ◌+ℤ◌, ◌*ℤ◌}
use Rattle.std.proofs.lemmas.Int.{to_z-of_z}
use Rattle.ft_linear.specs.meaning.Form.{values_at}
use Rattle.ft_linear.specs.meaning.Rules.{factor_of, factors_in, line_form, times_of}
use Rattle.ft_linear.proofs.RuleLemmas.{signed-factor}
use mir.Val.{SFits}
use Rattle.ft_linear.proofs.totals.add_line.Goals as goal

pub returns-in-Atom-clause-added : goal.returns-in-Atom-clause-added
returns-in-Atom-clause-added c u =
    let fits : SFits w64 c.signed.result = search rules in
    let z = to_z-of_z w64 c.signed.result fits ∙ c.signed.ensures.value in
    c.add_factors.ensures.added u ∙ (λ j. values_at c.args.totals.now u +ℤ (z j *ℤ factor_of u (c.factors.ensures.value j)))
    ∙ ap (λ (y : ℤ). values_at c.args.totals.now u +ℤ y)
    (signed-factor c.args.formula.now c.args.part.now c.in-Atom.number c.in-Atom.value c.in-Atom.times c.index-atoms-number.result
    c.args.line.now c.in-Atom.is c.requires.line c.atoms.result.now c.atoms.ensures c.index-atoms-number.is u
    ∙ ap (λ l. pos (times_of l) *ℤ factor_of u (factors_in (line_form c.args.formula.now c.args.part.now c.args.line.now))) (sym c.in-Atom.is))
