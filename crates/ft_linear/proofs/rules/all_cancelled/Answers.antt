use Rattle.std.proofs.Common.{◌∙◌, sym, ap, refl, arith, false, slice_index_or}
use Rattle.std.proofs.lemmas.List.{take_all}
use Rattle.std.specs.List.{list_all}
use Rattle.ft_linear.specs.declared.lines.Line.{Line}
use Rattle.ft_linear.specs.declared.lines.Line.TheVariants.{Atom}
use Rattle.ft_linear.specs.meaning.Rules.{factors_in, line_form}
use Rattle.ft_linear.specs.summing.Cancelling.{are_cancelled}
use Rattle.ft_linear.proofs.RuleLemmas.{cancel, lines-cancelled}
use Rattle.ft_linear.proofs.rules.all_cancelled.Goals as goal

pub returns-then-not-line_cancelled : goal.returns-then-not-line_cancelled
returns-then-not-line_cancelled c = (
  λ never. cc never,
  λ all.
      let line : Line = slice_index_or c.args.lines.now c.loop-line.line-index (Atom 0 false 0) in
      sym c.if-not-line_cancelled.true ∙ c.line_cancelled.ensures ∙ lines-cancelled c.args.formula.now c.args.part.now c.args.lines.now
      c.args.kept c.args.totals.now c.requires.totals all line,
)

pub returns : goal.returns
returns c =
    let f = c.args.formula.now in
    let p = c.args.part.now in
    let ls = c.args.lines.now in
    let whole = take_all c.loop-line.line-index ls (omega arith) in (
      λ so. cancel f p ls c.args.kept c.args.totals.now c.requires.totals
          (ap (list_all (λ l. are_cancelled c.args.kept c.args.totals.now (factors_in (line_form f p l)))) (sym whole)
          ∙ c.loop-line.invariant),
      λ all. refl,
    )
