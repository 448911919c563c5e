-- What the judgement of a generated set's text says of the set.
use Rattle.std.proofs.Common.{refl, ℕ}
use Rattle.ft_gen.specs.meaning.Generated.{generated}
use Rattle.ft_cli.specs.meaning.Generation.{IsDemo}
use Rattle.ft_cli.specs.meaning.Judgement.{IsJudgement}
use Rattle.ft_cli.specs.stages.Command.{report_on_generated}
use Rattle.ft_report.specs.declared.report.Report.{Report}
use Rattle.ft_report.specs.declared.report.Report.TheVariants as report

pub judged-demo : (n : ℕ) (r : Report) → IsJudgement (generated n) r → IsDemo n (report_on_generated n r)
judged-demo n (report.Verified S list) means = (refl, means)
judged-demo n (report.Demo k S list) means = absurd means
judged-demo n report.Usage means = means
judged-demo n report.ReadFault means = means
judged-demo n (report.TooLong which) means = means
judged-demo n report.NoMemory means = tt
judged-demo n (report.Refused fault) means = means
judged-demo n (report.Printed tree) means = means
judged-demo n (report.Gap S k state) means = means
judged-demo n (report.Overlap S k first second state) means = means
judged-demo n (report.OutOfRange S k cell state) means = means
judged-demo n (report.NatStops k) means = means
judged-demo n (report.Fails S k req out state short) means = means
judged-demo n (report.Spent S subject tree short) means = means
judged-demo n (report.Refuted S list scan) means = means
judged-demo n (report.Agree scans) means = means
judged-demo n (report.Differ scan) means = means
judged-demo n (report.TraceRefused fault) means = means
judged-demo n (report.NatRefuses scan) means = means
