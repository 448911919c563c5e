use Rattle.std.proofs.Common.{◌∙◌, ap, subst, List, ℕ}
use Rattle.std.proofs.lemmas.Result.{err_from_is_err_and}
use Rattle.ft_core.specs.checked.Distinct.{AreDistinct}
use Rattle.ft_blocks.specs.meaning.Goals.{block_goals}
use Rattle.ft_blocks.proofs.FaultLemmas.{from-missing, from-twice, lent-goals, lent-variables}
use Rattle.ft_blocks.proofs.GoalLemmas.{are-variables}
use Rattle.ft_blocks.proofs.OrderLemmas.{are-blocks}
use Rattle.ft_blocks.proofs.linking.judge_goals.Goals as goal

pub returns-in_err-need_goals-clause-fault : goal.returns-in_err-need_goals-clause-fault
returns-in_err-need_goals-clause-fault c =
    let p = err_from_is_err_and c.from_residual-in_err-need_goals.result c.from_residual-in_err-need_goals.ensures.1 in
    rw (p.1, p.2)
    (from-missing c.args.tables.now.vars c.as_slice-vars.result.now c.args.tables.now.blocks c.as_slice-2.result.now
    c.in_err-need_goals.field-0.0 c.as_slice-vars.ensures
    (c.as_slice-2.ensures ∙ c.in_ok-goals.ensures ∙ ap block_goals c.as_slice.ensures) c.in_err-need_goals.ensures.missing)

pub differ-requires : goal.differ-requires
differ-requires c = lent-variables c.args.tables.now.vars c.as_slice-vars.result.now (block_goals c.args.tables.now.blocks)
    c.as_slice-3.result.now c.as_slice-vars.ensures
    (c.as_slice-3.ensures ∙ c.in_ok-goals.ensures ∙ ap block_goals c.as_slice.ensures)
    (are-variables c.args.tables.now.vars c.args.tables.now.memories c.args.tables.now.blocks (are-blocks c.args.tables.now))

pub returns-in_err-differ-clause-fault : goal.returns-in_err-differ-clause-fault
returns-in_err-differ-clause-fault c =
    let p = err_from_is_err_and c.from_residual-in_err-differ.result c.from_residual-in_err-differ.ensures.1 in
    rw (p.1, p.2)
    (from-twice c.args.tables.now.vars c.as_slice-vars.result.now c.args.tables.now.blocks c.as_slice-3.result.now
    c.in_err-differ.field-0.0 c.as_slice-vars.ensures
    (c.as_slice-3.ensures ∙ c.in_ok-goals.ensures ∙ ap block_goals c.as_slice.ensures)
    (lent-goals c.args.tables.now.vars c.as_slice-vars.result.now (block_goals c.args.tables.now.blocks) c.as_slice-2.result.now
    c.as_slice-vars.ensures (c.as_slice-2.ensures ∙ c.in_ok-goals.ensures ∙ ap block_goals c.as_slice.ensures)
    c.in_ok-need_goals.ensures.all)
    c.in_err-differ.ensures.twice)

pub returns : goal.returns
returns c = record {
  every = lent-goals c.args.tables.now.vars c.as_slice-vars.result.now (block_goals c.args.tables.now.blocks) c.as_slice-2.result.now
      c.as_slice-vars.ensures (c.as_slice-2.ensures ∙ c.in_ok-goals.ensures ∙ ap block_goals c.as_slice.ensures)
      c.in_ok-need_goals.ensures.all;
  once = subst (λ (goals : List ℕ). AreDistinct goals) (c.as_slice-3.ensures ∙ c.in_ok-goals.ensures ∙ ap block_goals c.as_slice.ensures)
      c.in_ok-differ.ensures.once;
  fault = tt;
}
