use Rattle.ft_cover.proofs.WalkLemmas.{normal-grid, inverted-grid, vector-grid}
use Rattle.ft_cover.proofs.placing.places.Goals as goal

pub returns-in_ok-found-in-Normal : goal.returns-in_ok-found-in-Normal
returns-in_ok-found-in-Normal g c =
    normal-grid c.args.vars.now (g.L.Look.view c.args.look.now) c.args.wanted c.args.grid.now c.in-Normal.target c.in-Normal.columns
    c.as_slice-columns.result.now c.in-Normal.rows c.as_slice-rows.result.now c.in-Normal.terms
    c.as_slice-terms.result.now c.in_ok-found-in-Normal.found c.in-Normal.is c.as_slice-columns.ensures
    c.as_slice-rows.ensures c.as_slice-terms.ensures c.in_ok-found-in-Normal.ensures

pub returns-in_ok-found-in-Inverted : goal.returns-in_ok-found-in-Inverted
returns-in_ok-found-in-Inverted g c =
    inverted-grid c.args.vars.now (g.L.Look.view c.args.look.now) c.args.wanted c.args.grid.now c.in-Inverted.target c.in-Inverted.terms
    c.as_slice-terms-in-Inverted.result.now c.in-Inverted.rows c.as_slice-rows-in-Inverted.result.now c.in-Inverted.grid
    c.as_slice-grid.result.now c.in_ok-found-in-Inverted.found c.in-Inverted.is c.as_slice-terms-in-Inverted.ensures
    c.as_slice-rows-in-Inverted.ensures c.as_slice-grid.ensures c.in_ok-found-in-Inverted.ensures

pub returns-in_ok-found-in-Vector : goal.returns-in_ok-found-in-Vector
returns-in_ok-found-in-Vector g c =
    vector-grid c.args.vars.now (g.L.Look.view c.args.look.now) c.args.wanted c.args.grid.now c.in-Vector.columns
    c.as_slice-columns-in-Vector.result.now c.in-Vector.targets c.as_slice-targets.result.now c.in-Vector.terms
    c.as_slice-terms-in-Vector.result.now c.in_ok-found-in-Vector.found c.in-Vector.is c.as_slice-columns-in-Vector.ensures
    c.as_slice-targets.ensures c.as_slice-terms-in-Vector.ensures c.in_ok-found-in-Vector.ensures
