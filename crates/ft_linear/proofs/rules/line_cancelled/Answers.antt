use Rattle.std.proofs.Common.{◌∙◌, ap}
use Rattle.ft_linear.specs.summing.Cancelling.{are_cancelled, is_cancelled}
use Rattle.ft_linear.proofs.RuleLemmas.{literal-unknowns}
use Rattle.ft_linear.proofs.rules.line_cancelled.Goals as goal

pub returns-in-Atom : goal.returns-in-Atom
returns-in-Atom c =
    c.are_cancelled.ensures ∙ ap (are_cancelled c.args.kept c.args.totals.now) c.factors.ensures.value
    ∙ literal-unknowns c.args.formula.now c.args.part.now c.in-Atom.number c.in-Atom.value c.in-Atom.times c.index-atoms-number.result
    c.args.line.now c.in-Atom.is c.requires.line
    c.atoms.result.now c.atoms.ensures c.index-atoms-number.is (is_cancelled c.args.kept c.args.totals.now)
