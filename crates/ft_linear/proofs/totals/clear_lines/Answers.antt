use Rattle.std.proofs.Common.{◌∙◌, ap, pos, cond, false, arith}
use Rattle.std.proofs.lemmas.List.{take_all}
use Rattle.ft_linear.specs.declared.lines.Line.TheVariants.{Atom}
use Rattle.ft_linear.specs.meaning.Form.{values_at}
use Rattle.ft_linear.specs.summing.Totals.{are_free}
use Rattle.ft_linear.proofs.TotalLemmas.{lines-cleared, all-cleared}
use Rattle.ft_linear.proofs.totals.clear_lines.Goals as goal

pub loop-line-preserved : goal.loop-line-preserved
loop-line-preserved c = lines-cleared c.args.formula.now c.args.part.now c.args.lines.now c.loop-line.line-index (Atom 0 false 0)
    c.loop-line-test.true c.args.totals.now c.loop-line.totals c.clear_line.new.totals c.loop-line.invariant c.clear_line.ensures

pub returns : goal.returns
returns c =
    let whole = take_all c.loop-line.line-index c.args.lines.now (omega (arith, c.loop-line-test.false)) in
    all-cleared c.args.formula.now c.args.part.now c.args.lines.now c.args.totals.now c.loop-line.totals c.requires.totals
    (λ u. c.loop-line.invariant u
    ∙ ap (λ ls. cond (are_free c.args.formula.now c.args.part.now u ls) (values_at c.args.totals.now u) (pos 0)) whole)
