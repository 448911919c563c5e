use Rattle.std.proofs.Common.{◌∙◌, ap, pos, negsuc, cond, not}
use Rattle.std.specs.Prelude.{nat_eq}
use Rattle.ft_linear.specs.meaning.Form.{values_at}
use Rattle.ft_linear.specs.summing.Totals.{is_free}
use Rattle.ft_linear.proofs.RuleLemmas.{literal-unknowns, lower-unknowns, upper-unknowns}
use Rattle.ft_linear.proofs.totals.clear_line.Goals as goal

pub returns-in-Atom : goal.returns-in-Atom
returns-in-Atom c u = c.clear_factors.ensures u ∙ ap (λ b. cond b (values_at c.args.totals.now u) (pos 0))
    (ap (is_free u) c.factors.ensures.value
    ∙ literal-unknowns c.args.formula.now c.args.part.now c.in-Atom.number c.in-Atom.value c.in-Atom.times c.index-atoms-number.result
    c.args.line.now c.in-Atom.is c.requires.line c.atoms.result.now c.atoms.ensures c.index-atoms-number.is (λ v. not (nat_eq v u)))

pub returns-in-Upper : goal.returns-in-Upper
returns-in-Upper c u = c.clear_bound.ensures (pos 1) u ∙ ap (λ b. cond b (values_at c.args.totals.now u) (pos 0))
    (upper-unknowns c.args.formula.now c.args.part.now c.in-Upper.unknown c.in-Upper.times c.args.line.now c.in-Upper.is c.requires.line
    (λ v. not (nat_eq v u)))

pub returns-in-Lower : goal.returns-in-Lower
returns-in-Lower c u = c.clear_bound-in-Lower.ensures (negsuc 0) u ∙ ap (λ b. cond b (values_at c.args.totals.now u) (pos 0))
    (lower-unknowns c.args.formula.now c.args.part.now c.in-Lower.unknown c.in-Lower.times c.args.line.now c.in-Lower.is c.requires.line
    (λ v. not (nat_eq v u)))
