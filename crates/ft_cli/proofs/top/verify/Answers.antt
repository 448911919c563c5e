use Rattle.std.proofs.Common.{refl, []}
use Rattle.ft_cli.specs.Top.{verify}
use Rattle.ft_report.specs.declared.report.Which.TheVariants.{Set}
use Rattle.ft_cli.proofs.TopLemmas.{first-of, judged-outcome, unfetched-outcome}
use Rattle.ft_cli.proofs.top.verify.Goals as goal

pub returns-in-Ok-clause-outcome : goal.returns-in-Ok-clause-outcome
returns-in-Ok-clause-outcome g c =
    judged-outcome _ _ _ _ c.in-Ok.ensures.file (rw c.as_slice.ensures at c.report_on_text.ensures)

pub returns-in-Err-clause-outcome : goal.returns-in-Err-clause-outcome
returns-in-Err-clause-outcome g c = unfetched-outcome (verify _) Set _ (first-of _ []) refl _ _ c.in-Err.ensures.cause
