use Rattle.std.proofs.Common.{ℕ}
use Rattle.ft_mean.specs.meaning.Reading.{Reading}
use Rattle.ft_scan.specs.steps.Told.{IsScan, IsTold}
use Rattle.ft_scan.proofs.stepping.run_steps.Given as goal

abbrev pub invariant-loop-step : goal.invariant-loop-step
invariant-loop-step l = (a : Reading) (n : ℕ) → IsScan l.tables l.side a n → IsTold l.tables l.side l.steps a n 0 l.initial.frame
    → IsTold l.tables l.side l.steps a n l.step-index l.frame
