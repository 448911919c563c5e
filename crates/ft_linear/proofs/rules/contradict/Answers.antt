use Rattle.std.proofs.Common.{rules, ◌∙◌, sym, subst, pos, ◌<ℤ◌, ℤ, arith}
use Rattle.std.specs.Int.{w128}
use Rattle.std.proofs.lemmas.Int.{ints, to_z-of_z}
use Rattle.ft_linear.proofs.RuleLemmas.{none-holds}
use mir.Val.{SFits}
use Rattle.ft_linear.proofs.rules.contradict.Goals as goal

pub returns-clause-none : goal.returns-clause-none
returns-clause-none c so x area holds =
    let fits : SFits w128 c.total_constant.result = search rules in
    let above : pos 0 <ℤ c.total_constant.result = rw (sym (to_z-of_z w128 c.total_constant.result fits)) (grind (arith, ints)) in
    none-holds c.args.formula.now c.args.part.now x area holds c.args.lines.now (record {
      lines = sym c.are_lines.ensures ∙ c.if-not-are_lines.false;
      cancel = c.cancel.ensures.cancel.0 c.if-not-cancel.false;
      positive = subst (λ (z : ℤ). pos 0 <ℤ z) c.total_constant.ensures.value above;
    })
