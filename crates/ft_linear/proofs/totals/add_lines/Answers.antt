use Rattle.std.proofs.Common.{◌∙◌, ap, false, arith}
use Rattle.std.proofs.lemmas.List.{take_all}
use Rattle.ft_linear.specs.declared.lines.Line.TheVariants.{Atom}
use Rattle.ft_linear.specs.meaning.Rules.{total_factor}
use Rattle.ft_linear.proofs.TotalLemmas.{lines-added, within-all}
use Rattle.ft_linear.proofs.totals.add_lines.Goals as goal

pub lines-preserved : goal.lines-preserved
lines-preserved c = (
  lines-added c.args.formula.now c.args.part.now c.args.lines.now c.lines.at (Atom 0 false 0) c.lines-test.true c.lines.totals
      c.add_line.new.totals c.lines.invariant.0 c.add_line.ensures.added,
  c.add_line.ensures.small,
)

pub returns-clause-totals : goal.returns-clause-totals
returns-clause-totals c u =
    let whole = take_all c.lines.at c.args.lines.now (omega (arith, c.lines-test.false)) in
    c.lines.invariant.0 u ∙ ap (total_factor c.args.formula.now c.args.part.now u) whole

pub returns-clause-small : goal.returns-clause-small
returns-clause-small c = within-all c.args.formula.now c.args.part.now c.args.lines.now c.lines.at c.lines.totals c.requires.lines
    c.lines.auto.at-end c.lines.invariant.1
