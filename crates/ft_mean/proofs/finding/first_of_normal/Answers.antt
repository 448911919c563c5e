use Rattle.std.proofs.Common.{◌≡◌, subst, refl, arith, List, Some, None}
use Rattle.std.proofs.lemmas.Option.{slice_get_read}
use Rattle.ft_core.specs.declared.term.Term.{Term}
use Rattle.ft_mean.specs.judge.FirstCell.{headed_column}
use Rattle.ft_mean.proofs.FirstCell.{row_first, row_next, row_none}
use Rattle.ft_mean.proofs.finding.first_of_normal.Goals as goal

pub returns-in-Some : goal.returns-in-Some
returns-in-Some g c = row_first (λ r. headed_column (g.L.Look.view c.args.look.now) r.0 c.args.columns.now r.1) c.args.rows.now
    c.args.terms.now c.loop-at.at c.loop-at.invariant c.index-rows-at.result c.index-terms-at.result c.in-Some.column
    (slice_get_read c.args.rows.now _ c.loop-at.at _ refl (omega (arith, c.loop-at-test.true, c.min-at-end.ensures)) c.index-rows-at.is)
    (slice_get_read c.args.terms.now _ c.loop-at.at _ refl (omega (arith, c.loop-at-test.true, c.min-at-end.ensures)) c.index-terms-at.is)
    (subst (λ (es : List Term). Some c.in-Some.column ≡ headed_column (g.L.Look.view c.args.look.now) c.index-rows-at.result
    c.args.columns.now es) c.as_slice.ensures c.in-Some.ensures)

pub loop-at-preserved : goal.loop-at-preserved
loop-at-preserved g c = row_next (λ r. headed_column (g.L.Look.view c.args.look.now) r.0 c.args.columns.now r.1) c.args.rows.now
    c.args.terms.now c.loop-at.at c.loop-at.invariant c.index-rows-at.result c.index-terms-at.result
    (slice_get_read c.args.rows.now _ c.loop-at.at _ refl (omega (arith, c.loop-at-test.true, c.min-at-end.ensures)) c.index-rows-at.is)
    (slice_get_read c.args.terms.now _ c.loop-at.at _ refl (omega (arith, c.loop-at-test.true, c.min-at-end.ensures)) c.index-terms-at.is)
    (subst (λ (es : List Term). None ≡ headed_column (g.L.Look.view c.args.look.now) c.index-rows-at.result c.args.columns.now es)
    c.as_slice.ensures c.in_default.ensures)

pub returns : goal.returns
returns g c = row_none (λ r. headed_column (g.L.Look.view c.args.look.now) r.0 c.args.columns.now r.1) c.args.rows.now c.args.terms.now
    c.loop-at.at c.loop-at.invariant (omega (arith, c.loop-at-test.false, c.min-at-end.ensures))
