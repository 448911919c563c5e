use Rattle.std.proofs.Common.{◌∙◌, sym, refl, arith}
use Rattle.std.proofs.lemmas.Option.{slice_get_read}
use Rattle.ft_core.specs.checked.Size.{is_sized}
use Rattle.ft_mean.proofs.SafeLemmas.{safe_by}
use Rattle.ft_core.specs.laws.Lists.{all_pass}
use Rattle.ft_mean.proofs.FirstCell.{column_first, column_next, column_none}
use Rattle.ft_mean.proofs.finding.column_in.Goals as goal

pub truth_of-requires : goal.truth_of-requires
truth_of-requires g c = safe_by _ (λ vs ms s. all_pass (is_sized vs ms) c.args.conds.now s c.index-conds-at.result
    (c.loop-at.at, omega (arith, c.loop-at-test.true, c.min-at-end.ensures), sym c.index-conds-at.is)) c.requires.conds

pub returns-then-truth_of : goal.returns-then-truth_of
returns-then-truth_of g c = column_first (g.L.Look.view c.args.look.now) c.args.conds.now c.args.terms.now c.loop-at.at
    c.loop-at.invariant c.index-conds-at.result
    (slice_get_read c.args.conds.now _ c.loop-at.at _ refl (omega (arith, c.loop-at-test.true, c.min-at-end.ensures)) c.index-conds-at.is)
    (omega (arith, c.loop-at-test.true, c.min-at-end.ensures)) (sym c.truth_of.ensures ∙ c.if-truth_of.true)

pub loop-at-preserved : goal.loop-at-preserved
loop-at-preserved g c = column_next (g.L.Look.view c.args.look.now) c.args.conds.now c.args.terms.now c.loop-at.at c.loop-at.invariant
    c.index-conds-at.result
    (slice_get_read c.args.conds.now _ c.loop-at.at _ refl (omega (arith, c.loop-at-test.true, c.min-at-end.ensures)) c.index-conds-at.is)
    (omega (arith, c.loop-at-test.true, c.min-at-end.ensures)) (sym c.truth_of.ensures ∙ c.if-truth_of.false)

pub returns : goal.returns
returns g c = column_none (g.L.Look.view c.args.look.now) c.args.conds.now c.args.terms.now c.loop-at.at c.loop-at.invariant
    (omega (arith, c.loop-at-test.false, c.min-at-end.ensures))
