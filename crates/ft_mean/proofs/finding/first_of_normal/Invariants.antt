use Rattle.std.proofs.Common.{◌≡◌, drop}
use Rattle.std.specs.List.{zip}
use Rattle.ft_mean.specs.judge.FirstCell.{first_answer, first_row, headed_column, in_row}
use Rattle.ft_mean.proofs.finding.first_of_normal.Given as goal

abbrev pub invariant-loop-at : goal.invariant-loop-at
invariant-loop-at g l = first_row (λ r. headed_column (g.L.Look.view l.look) r.0 l.columns r.1) (zip l.rows l.terms)
    ≡ first_answer (in_row (λ r. headed_column (g.L.Look.view l.look) r.0 l.columns r.1)) l.at (drop l.at (zip l.rows l.terms))
