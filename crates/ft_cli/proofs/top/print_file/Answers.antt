use Rattle.std.proofs.Common.{refl, []}
use Rattle.ft_cli.specs.Top.{print}
use Rattle.ft_report.specs.declared.report.Which.TheVariants.{Set}
use Rattle.ft_cli.proofs.TopLemmas.{first-of, printed-outcome, unfetched-outcome}
use Rattle.ft_cli.proofs.top.print_file.Goals as goal

pub returns-in-Ok-clause-outcome : goal.returns-in-Ok-clause-outcome
returns-in-Ok-clause-outcome g c =
    printed-outcome _ _ _ _ c.in-Ok.ensures.file (rw c.as_slice.ensures at c.print.ensures)

pub returns-in-Err-clause-outcome : goal.returns-in-Err-clause-outcome
returns-in-Err-clause-outcome g c = unfetched-outcome (print _) Set _ (first-of _ []) refl _ _ c.in-Err.ensures.cause
