use Rattle.std.proofs.lemmas.Bool.{eqb-true}
use Rattle.ft_mean.proofs.FirstCell.{normal_found, inverted_found, vector_found, none_found}
use Rattle.ft_mean.proofs.finding.first_cell.Goals as goal

pub returns-then-target-variable : goal.returns-then-target-variable
returns-then-target-variable g c = normal_found (g.L.Look.view c.args.look.now) c.args.variable c.args.grid.now _
    c.in-Normal.target _ _ _ _ _ _ c.in-Normal.is
    c.as_slice.ensures c.as_slice-then-target-variable.ensures c.as_slice-then-target-variable-2.ensures c.if-target-variable.true
    c.first_of_normal.ensures

pub returns-else-target-variable : goal.returns-else-target-variable
returns-else-target-variable g c = none_found (g.L.Look.view c.args.look.now) c.args.variable c.args.grid.now _ c.in-Normal.is
    (λ e. c.if-target-variable.false (eqb-true _ _ e))

pub returns-then-target-variable-2 : goal.returns-then-target-variable-2
returns-then-target-variable-2 g c = inverted_found (g.L.Look.view c.args.look.now) c.args.variable c.args.grid.now _
    c.in-Inverted.target _ _ _ _ _ _ c.in-Inverted.is
    c.as_slice-then-target-variable-2-2.ensures c.as_slice-then-target-variable-2-3.ensures c.as_slice-then-target-variable-2-4.ensures
    c.if-target-variable-2.true c.first_of_inverted.ensures

pub returns-else-target-variable-2 : goal.returns-else-target-variable-2
returns-else-target-variable-2 g c = none_found (g.L.Look.view c.args.look.now) c.args.variable c.args.grid.now _ c.in-Inverted.is
    (λ e. c.if-target-variable-2.false (eqb-true _ _ e))

pub returns-in-Vector : goal.returns-in-Vector
returns-in-Vector g c = vector_found (g.L.Look.view c.args.look.now) c.args.variable c.args.grid.now _ _ _ _ _ _ _ c.in-Vector.is
    c.as_slice-in-Vector.ensures c.as_slice-in-Vector-2.ensures c.as_slice-in-Vector-3.ensures c.first_of_vector.ensures
