use Rattle.ft_compose.proofs.FailLemmas.{goal-there, lent_fails, lent_keeps}
use Rattle.ft_compose.proofs.deciding.fails_at.Goals as goal

pub fact_in-fact-requires : goal.fact_in-fact-requires
fact_in-fact-requires c = c.requires.about.there

pub cells_at-requires-clause-there : goal.cells_at-requires-clause-there
cells_at-requires-clause-there c =
    goal-there c.args.tables.now c.args.at.block c.args.at.fact c.fact_in-fact.ensures.0 c.fact_in-fact.result.now c.fact_in-fact.ensures.1

pub cells_at-requires-clause-keeps : goal.cells_at-requires-clause-keeps
cells_at-requires-clause-keeps c =
    lent_keeps c.deciding_laws.ensures c.args.tables.now c.args.number c.args.at.block c.args.at.fact c.args.at.anew c.requires.about.is
    c.args.obligation c.args.names.now c.requires.formed c.args.point.now c.requires.point c.as_slice-slots.result.now
    c.as_slice-slots.ensures c.in_ok-values.values c.in_ok-values.ensures.long c.in_ok-values.ensures.same c.as_slice.result.now
    c.as_slice.ensures

pub returns : goal.returns
returns c =
    lent_fails c.deciding_laws.ensures c.args.tables.now c.args.number c.args.at.block c.args.at.fact c.args.at.anew c.requires.about.is
    c.args.obligation c.args.names.now c.requires.formed c.args.point.now c.requires.point c.as_slice-slots.result.now
    c.as_slice-slots.ensures c.in_ok-values.values c.in_ok-values.ensures.long c.in_ok-values.ensures.same c.as_slice.result.now
    c.as_slice.ensures c.fact_in-fact.result.now c.fact_in-fact.ensures c.in_ok-cells.cells c.in_ok-cells.ensures c.requires.above
    c.requires.below
