use Rattle.ft_oblige.proofs.WalkLemmas.{normal-grid, inverted-grid, vector-grid}
use Rattle.ft_oblige.proofs.walking.grid_claims.Goals as goal

pub returns-in_ok-list-in-Normal : goal.returns-in_ok-list-in-Normal
returns-in_ok-list-in-Normal c =
    normal-grid c.args.tables.now c.args.frame.now c.args.about c.args.grid.now c.in-Normal.target c.in-Normal.columns
    c.as_slice.result.now c.in-Normal.rows c.as_slice-in-Normal.result.now c.in-Normal.terms
    c.as_slice-in-Normal-2.result.now c.in_ok-list-in-Normal.list c.in-Normal.is c.as_slice.ensures
    c.as_slice-in-Normal.ensures c.as_slice-in-Normal-2.ensures c.in_ok-list-in-Normal.ensures

pub returns-in_ok-list-in-Inverted : goal.returns-in_ok-list-in-Inverted
returns-in_ok-list-in-Inverted c =
    inverted-grid c.args.tables.now c.args.frame.now c.args.about c.args.grid.now c.in-Inverted.target c.in-Inverted.terms
    c.as_slice-in-Inverted.result.now c.in-Inverted.rows c.as_slice-in-Inverted-2.result.now c.in-Inverted.grid
    c.as_slice-in-Inverted-3.result.now c.in_ok-list-in-Inverted.list c.in-Inverted.is c.as_slice-in-Inverted.ensures
    c.as_slice-in-Inverted-2.ensures c.as_slice-in-Inverted-3.ensures c.in_ok-list-in-Inverted.ensures

pub returns-in_ok-list-in-Vector : goal.returns-in_ok-list-in-Vector
returns-in_ok-list-in-Vector c =
    vector-grid c.args.tables.now c.args.frame.now c.args.about c.args.grid.now c.in-Vector.columns
    c.as_slice-in-Vector.result.now c.in-Vector.targets c.as_slice-in-Vector-2.result.now c.in-Vector.terms
    c.as_slice-in-Vector-3.result.now c.in_ok-list-in-Vector.list c.in-Vector.is c.as_slice-in-Vector.ensures
    c.as_slice-in-Vector-2.ensures c.as_slice-in-Vector-3.ensures c.in_ok-list-in-Vector.ensures
