use Rattle.std.proofs.Common.{◌≡◌, subst, refl, arith, List, Some, None}
use Rattle.std.proofs.lemmas.Option.{slice_get_read}
use Rattle.ft_core.specs.declared.term.Cond.{Cond}
use Rattle.ft_mean.specs.judge.FirstCell.{headed_column}
use Rattle.ft_mean.proofs.FirstCell.{row_first, row_next, row_none}
use Rattle.ft_mean.proofs.finding.first_of_inverted.Goals as goal

pub returns-in-Some : goal.returns-in-Some
returns-in-Some g c = row_first (λ r. headed_column (g.L.Look.view c.args.look.now) r.0 r.1 c.args.terms.now) c.args.rows.now
    c.args.grid.now c.loop-at.at c.loop-at.invariant c.index-rows-at.result c.index-grid-at.result c.in-Some.column
    (slice_get_read c.args.rows.now _ c.loop-at.at _ refl (omega (arith, c.loop-at-test.true, c.min-at-end.ensures)) c.index-rows-at.is)
    (slice_get_read c.args.grid.now _ c.loop-at.at _ refl (omega (arith, c.loop-at-test.true, c.min-at-end.ensures)) c.index-grid-at.is)
    (subst (λ (es : List Cond). Some c.in-Some.column ≡ headed_column (g.L.Look.view c.args.look.now) c.index-rows-at.result es
    c.args.terms.now) c.as_slice.ensures c.in-Some.ensures)

pub loop-at-preserved : goal.loop-at-preserved
loop-at-preserved g c = row_next (λ r. headed_column (g.L.Look.view c.args.look.now) r.0 r.1 c.args.terms.now) c.args.rows.now
    c.args.grid.now c.loop-at.at c.loop-at.invariant c.index-rows-at.result c.index-grid-at.result
    (slice_get_read c.args.rows.now _ c.loop-at.at _ refl (omega (arith, c.loop-at-test.true, c.min-at-end.ensures)) c.index-rows-at.is)
    (slice_get_read c.args.grid.now _ c.loop-at.at _ refl (omega (arith, c.loop-at-test.true, c.min-at-end.ensures)) c.index-grid-at.is)
    (subst (λ (es : List Cond). None ≡ headed_column (g.L.Look.view c.args.look.now) c.index-rows-at.result es c.args.terms.now)
    c.as_slice.ensures c.in_default.ensures)

pub returns : goal.returns
returns g c = row_none (λ r. headed_column (g.L.Look.view c.args.look.now) r.0 r.1 c.args.terms.now) c.args.rows.now c.args.grid.now
    c.loop-at.at c.loop-at.invariant (omega (arith, c.loop-at-test.false, c.min-at-end.ensures))
