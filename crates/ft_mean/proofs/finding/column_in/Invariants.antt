use Rattle.std.proofs.Common.{◌≡◌, drop}
use Rattle.std.specs.List.{zip}
use Rattle.ft_mean.specs.judge.FirstCell.{first_answer, first_column, place_if}
use Rattle.ft_mean.proofs.finding.column_in.Given as goal

abbrev pub invariant-loop-at : goal.invariant-loop-at
invariant-loop-at g l = first_column (g.L.Look.view l.look) l.conds l.terms ≡ first_answer (place_if (g.L.Look.view l.look)) l.at
    (drop l.at (zip l.conds l.terms))
