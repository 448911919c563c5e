use Rattle.std.proofs.Common.{◌≡◌, drop}
use Rattle.std.specs.List.{zip}
use Rattle.ft_mean.specs.judge.FirstCell.{first_answer, first_row, target_column, in_row}
use Rattle.ft_mean.proofs.finding.first_of_vector.Given as goal

abbrev pub invariant-loop-at : goal.invariant-loop-at
invariant-loop-at g l = first_row (λ r. target_column (g.L.Look.view l.look) l.variable r.0 l.columns r.1) (zip l.targets l.terms)
    ≡ first_answer (in_row (λ r. target_column (g.L.Look.view l.look) l.variable r.0 l.columns r.1)) l.at
    (drop l.at (zip l.targets l.terms))
