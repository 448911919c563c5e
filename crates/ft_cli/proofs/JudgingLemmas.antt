-- What a report on a set says of the bytes that spell it.
use Rattle.std.proofs.Common.{ℕ, List}
use Rattle.std.specs.Prelude.{IfOk, IfErr, Result, Ok, Err}
use Rattle.ft_core.specs.declared.tables.Tables.{Tables}
use Rattle.ft_admit.specs.meaning.SetFaults.{IsSetOfText}
use Rattle.ft_report.specs.declared.report.Report.{Report}
use Rattle.ft_cli.specs.meaning.Judgement.{IsJudgement}
use Rattle.ft_cli.specs.stages.Judging.{IsReportOn}

pub ended-judges : (r : Result Report Report) (S : Tables) (bytes : List ℕ) → IsSetOfText bytes S → IfOk r (IsReportOn S)
    → IfOk r (IsJudgement bytes)
ended-judges (Ok report) S bytes spelled is = is bytes spelled
ended-judges (Err report) S bytes spelled is = is

pub stopped-judges : (r : Result Report Report) (S : Tables) (bytes : List ℕ) → IsSetOfText bytes S → IfErr r (IsReportOn S)
    → IfErr r (IsJudgement bytes)
stopped-judges (Ok report) S bytes spelled is = is
stopped-judges (Err report) S bytes spelled is = is bytes spelled
