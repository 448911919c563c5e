use Rattle.std.proofs.Common.{◌≡◌, drop}
use Rattle.std.specs.List.{zip}
use Rattle.ft_mean.specs.judge.FirstCell.{first_answer, first_row, headed_column, in_row}
use Rattle.ft_mean.proofs.finding.first_of_inverted.Given as goal

abbrev pub invariant-loop-at : goal.invariant-loop-at
invariant-loop-at g l = first_row (λ r. headed_column (g.L.Look.view l.look) r.0 r.1 l.terms) (zip l.rows l.grid)
    ≡ first_answer (in_row (λ r. headed_column (g.L.Look.view l.look) r.0 r.1 l.terms)) l.at (drop l.at (zip l.rows l.grid))
