use Rattle.std.proofs.Common.{ℕ, ◌<◌}
use Rattle.ft_scan.specs.steps.Found.{IsTrueAt}
use Rattle.ft_scan.proofs.cells.first_that_holds.Given as goal

abbrev pub invariant-loop-at : goal.invariant-loop-at
invariant-loop-at g l = (j : ℕ) → j < l.at → IsTrueAt (g.L.Look.view l.look) l.conds j → ⊥
